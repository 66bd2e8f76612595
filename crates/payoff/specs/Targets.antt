-- The target price of a spread, by the rule of a plain instrument.
use Rattle.std.specs.Prelude.{ℤ, pos}
use Rattle.std.specs.Int.{int_max}
use Rattle.payoff.specs.declared.target.TargetRule.{TargetRule}
use Rattle.payoff.specs.declared.target.TargetRule.TheVariants.{Spread, PositiveSpread}

-- the spread itself, or the spread where it is positive
abbrev pub target_by : TargetRule → ℤ → ℤ
target_by Spread z = z
target_by PositiveSpread z = int_max z (pos 0)
