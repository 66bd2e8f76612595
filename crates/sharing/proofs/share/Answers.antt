use Rattle.std.proofs.Common.{length, get_or, sym, ap, ◌∙◌, arith}
use Rattle.sharing.specs.Shares.{weights_of}
use Rattle.sharing.proofs.Laws.{fair}
use Rattle.sharing.proofs.Parts.{up_to_all}
use Rattle.sharing.proofs.Steps.{shared_all, shared_out, length_shared}
use Rattle.sharing.proofs.share.Goals as goal

pub returns : goal.returns
returns g c =
    let m = g.L.Line in
    let xs = c.args.lines.now in
    let s = c.args.sum in
    let v = c.args.total in
    let e = sym (shared_all m.weight m.given s v c.loop-line.seen c.loop-line.lines c.loop-line.line-index (omega arith)) ∙ c.loop-line.invariant.0 in
    record {
      shared = λ d i h. ap (λ l. get_or l i d) e ∙ shared_out m.weight m.given s v xs d i h;
      kept = ap length e ∙ length_shared m.weight m.given s v 0 xs;
      fair = λ d. fair s v (weights_of m.weight xs d) (length xs) (up_to_all m.weight xs d ∙ c.requires.weighed) c.requires.zero;
    }
