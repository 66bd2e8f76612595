use Rattle.std.proofs.Common.{length, ap, ◌∙◌, arith}
use Rattle.std.proofs.lemmas.Iterator.Consumers.{YieldsList-end}
use Rattle.statement.proofs.Longs.{turns_come, sizes_inv, lines_all}
use Rattle.statement.proofs.lengths.lines_len.Goals as goal

pub returns : goal.returns
returns c =
    let road = turns_come c.args.holdings.now c.args.amounts.now c.into_iter-i-iterator.result (cc) (cc) (cc) in
    let e = lines_all c.args.holdings.now c.args.amounts.now c.loop-i.yielded (YieldsList-end road c.loop-i.yielded c.loop-i.i-iterator c.loop-i.yielded_by c.next.result c.next.new.self c.in-None.is c.next.ensures.steps) in
    let n = sizes_inv (length c.args.holdings.now) (length c.args.amounts.now) c.requires in
    record { value = c.loop-i.invariant.0 ∙ ap length e.0; bound = omega (arith, c.loop-i.invariant.1, n.0, e.1) }
