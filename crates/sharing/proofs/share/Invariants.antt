use Rattle.std.proofs.Common.{◌≡◌, ◌+◌, ◌*◌, ◌/◌, ◌^◌, ◌++◌, take, drop, pos, ◌+ℤ◌, ◌<ℤ◌, sum_by}
use Rattle.std.specs.List.{AllByRecursion}
use Rattle.sharing.proofs.Steps.{shared_from}
use Rattle.sharing.proofs.share.Given as goal

abbrev pub invariant-loop-line : goal.invariant-loop-line
invariant-loop-line g l =
    let m = g.L.Line in
    (take l.line-index l.lines ++ shared_from m.weight m.given l.sum l.total l.seen (drop l.line-index l.lines) ≡ shared_from m.weight m.given l.sum l.total 0 l.initial.lines) × (l.seen + sum_by m.weight (drop l.line-index l.lines) ≡ l.total) × AllByRecursion (λ x. (m.had x +ℤ pos l.sum) <ℤ pos (2 ^ 63)) (drop l.line-index l.lines) × (l.done ≡ l.sum * l.seen / l.total)
