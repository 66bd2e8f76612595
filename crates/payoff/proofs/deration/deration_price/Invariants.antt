use Rattle.std.proofs.Common.{◌≡◌, ◌*◌, ◌≤◌}
use Rattle.payoff.specs.Prices.{sum_to, deration_term}
use Rattle.payoff.specs.View.{tables_of}
use Rattle.payoff.proofs.deration.deration_price.Given as goal

abbrev pub invariant-loop-c : goal.invariant-loop-c
invariant-loop-c l = (l.sum ≡ sum_to (deration_term (tables_of l.hour) l.holding.source l.holding.sink) l.c) × (l.sum ≤ l.c * 200000000000000)
