use Rattle.std.proofs.Common.{◌+◌, length, ℤ, sym, subst, arith, w64, SFits, rules}
use Rattle.std.proofs.lemmas.Int.{to_z-of_z}
use Rattle.std.proofs.lemmas.Iterator.Consumers.{YieldsList-so_far, YieldsList-turn, YieldsList-end}
use Rattle.std.proofs.lemmas.List.{length_push}
use Rattle.buffer.specs.Appends.{Appends}
use Rattle.statement.specs.Lines.{holding_line}
use Rattle.statement.specs.Room.{Room}
use Rattle.statement.proofs.Longs.{turns_come, lines_all, number_small, line_room, line_more}
use Rattle.statement.proofs.lines.put_lines.Goals as goal

pub put_holding-requires : goal.put_holding-requires
put_holding-requires c =
    let road = turns_come c.args.holdings.now c.args.amounts.now c.into_iter-i-iterator.result (cc) (cc) (cc) in
    let s = YieldsList-so_far road c.loop-i.yielded c.loop-i.i-iterator c.loop-i.yielded_by in
    let t = YieldsList-turn road c.loop-i.yielded c.loop-i.i-iterator c.loop-i.yielded_by c.next.result c.next.new.self (c.in-Some.i, (c.in-Some.holding, c.in-Some.amount)) c.in-Some.is c.next.ensures.steps in
    let f : SFits w64 c.in-Some.amount.now = search rules in
    record {
      number = number_small c.args.holdings.now c.args.amounts.now c.loop-i.yielded (c.in-Some.i, (c.in-Some.holding, c.in-Some.amount)) c.requires.sizes s t;
      room = subst (λ (a : ℤ). Room (length c.loop-i.out.buffer.now) (c.loop-i.out.len + 53) (c.loop-i.out.len + length (holding_line c.in-Some.i c.in-Some.holding.now.owner a))) (sym (to_z-of_z w64 c.in-Some.amount.now f)) (line_room c.args.holdings.now c.args.amounts.now c.loop-i.yielded (c.in-Some.i, (c.in-Some.holding, c.in-Some.amount)) c.requires.sizes s t c.args.out.now c.loop-i.out c.loop-i.invariant.0 c.loop-i.invariant.1 c.requires.room);
    }

pub loop-i-preserved : goal.loop-i-preserved
loop-i-preserved c =
    let f : SFits w64 c.in-Some.amount.now = search rules in
    let n = length_push c.loop-i.yielded (c.in-Some.i, (c.in-Some.holding, c.in-Some.amount)) in
    let w = subst (λ (a : ℤ). Appends c.loop-i.out (holding_line c.in-Some.i c.in-Some.holding.now.owner a) c.put_holding.new.out) (to_z-of_z w64 c.in-Some.amount.now f) c.put_holding.ensures.wrote in
    (line_more c.args.holdings.now c.args.amounts.now c.loop-i.yielded (c.in-Some.i, (c.in-Some.holding, c.in-Some.amount)) c.args.out.now c.loop-i.out c.put_holding.new.out c.loop-i.invariant.0 w, omega (arith, c.loop-i.invariant.1, c.put_holding.ensures.bound))

pub returns : goal.returns
returns c =
    let road = turns_come c.args.holdings.now c.args.amounts.now c.into_iter-i-iterator.result (cc) (cc) (cc) in
    let e = lines_all c.args.holdings.now c.args.amounts.now c.loop-i.yielded (YieldsList-end road c.loop-i.yielded c.loop-i.i-iterator c.loop-i.yielded_by c.next.result c.next.new.self c.in-None.is c.next.ensures.steps) in
    record {
      bound = omega (arith, c.loop-i.invariant.1);
      wrote = subst (λ bs. Appends c.args.out.now bs c.loop-i.out) e.0 c.loop-i.invariant.0;
    }
