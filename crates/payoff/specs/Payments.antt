-- What a holding is paid by, of its four figures.
use Rattle.std.specs.Prelude.{ℕ, ℤ, ◌-ℤ◌}
use Rattle.std.specs.Int.{int_max}
use Rattle.payoff.specs.Rules.{Payoff}

-- what is paid for each MWh: the target price less the deration price, but no less than the floor price
abbrev pub payment_price : Payoff → ℤ
payment_price f = int_max (f.target -ℤ f.deration) f.floor

-- counted quantity, target price, and the price that is paid
pub record Rate : Type 0 where
  pub quantity : ℕ
  pub target : ℤ
  pub price : ℤ

abbrev pub rate_of : Payoff → Rate
rate_of f = record { quantity = f.quantity; target = f.target; price = payment_price f }
