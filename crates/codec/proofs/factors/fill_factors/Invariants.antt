use Rattle.std.proofs.Common.{◌≡◌, ◌+◌, ◌≤◌, ◌++◌, length, take, drop, map}
use Rattle.codec.specs.Records.{factors_at}
use Rattle.codec.proofs.Pairs.{factor_of}
use Rattle.codec.proofs.factors.fill_factors.Given as goal

abbrev pub invariant-loop-n : goal.invariant-loop-n
invariant-loop-n l =
    (factors_at l.bytes ≡ take l.n l.table ++ map factor_of (drop l.n l.pairs))
    × (l.n + length (map factor_of (drop l.n l.pairs)) ≤ length l.table)
    × (drop l.n l.table ≡ drop l.n l.initial.table)
