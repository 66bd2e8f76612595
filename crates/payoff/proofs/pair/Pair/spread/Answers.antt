use Rattle.std.proofs.Common.{arith}
use borrow.Author.Differences.{ints}
use Rattle.payoff.proofs.pair.Pair.spread.Goals as goal

pub invariant_of-result : goal.invariant_of-result
invariant_of-result c = record { low = omega (arith, ints); high = omega (arith, ints) }
