-- The settled examples: figures that the definitions give, beside what they must be.
use Rattle.std.specs.Prelude.{◌≡◌, List, [], ◌∷◌, ℤ, pos, neg_ℤ, Ok, Err, Result}
use Rattle.refusals.specs.Numbers.{Told}
use Rattle.rows.specs.declared.plain.HoldingRow.{HoldingRow}
use Rattle.rows.specs.declared.letters.InstrumentKind.TheVariants.{Obligation, PtpOption, OptionWithRefund}
use Rattle.payoff.specs.Tables.{Tables}
use Rattle.payoff.specs.Instruments.{standard}
use Rattle.pricing.specs.Amounts.{amount_of}
use Rattle.pricing.specs.Calls.{Priced, pricing_of}
use Rattle.examples.specs.Shared.{shared_evenly, shortfalls, month_at_end}
use Rattle.examples.specs.Hour.{hour, hour_at, held, held_with}

-- some figures of a pricing, or none where it is refused
abbrev figures_of : (Priced → List ℤ) → Result Priced Told → List ℤ
figures_of f (Ok p) = f p
figures_of f (Err e) = []

-- a holding of an hour, priced by the rule of its letter
abbrev priced : (Priced → List ℤ) → Tables → HoldingRow → List ℤ
priced f t h = figures_of f (pricing_of standard t h)

abbrev amount : Priced → List ℤ
amount p = p.amount ∷ []

abbrev deration_hedge_amount : Priced → List ℤ
deration_hedge_amount p = p.payoff.deration ∷ p.hedge_price ∷ p.amount ∷ []

abbrev quantity_amount : Priced → List ℤ
quantity_amount p = pos p.payoff.quantity ∷ p.amount ∷ []

-- the amount of a tenth of a MW at a price that is not derated
abbrev tenth_at : ℤ → List ℤ
tenth_at z = amount_of record { quantity = 1; target = z; deration = pos 0; floor = z } ∷ []

pub record Example : Type 0 where
  pub gives : List ℤ
  pub must : List ℤ

abbrev example : List ℤ → List ℤ → Example
example gives must = record { gives = gives; must = must }

abbrev pub examples : List Example
examples =
    example (priced amount hour (held Obligation 2 0)) (neg_ℤ (pos 5000) ∷ []) ∷ example (priced amount hour (held PtpOption 0 2)) (pos 0 ∷ []) ∷ example (priced deration_hedge_amount hour (held Obligation 1 0)) (pos 500 ∷ pos 2500 ∷ neg_ℤ (pos 10000) ∷ []) ∷ example (priced deration_hedge_amount hour (held Obligation 3 0)) (pos 400 ∷ pos 300 ∷ neg_ℤ (pos 16000) ∷ []) ∷ example (priced amount (hour_at 50000 10000) (held Obligation 3 0)) (neg_ℤ (pos 3000) ∷ []) ∷ example (priced quantity_amount hour (held_with OptionWithRefund 3 0 50 25)) (pos 40 ∷ neg_ℤ (pos 6400) ∷ []) ∷ example (tenth_at (pos 5)) (neg_ℤ (pos 1) ∷ []) ∷ example (tenth_at (neg_ℤ (pos 5))) (pos 1 ∷ []) ∷ example (tenth_at (pos 4)) (pos 0 ∷ []) ∷ example shared_evenly (pos 0 ∷ pos 1 ∷ pos 1 ∷ []) ∷ example shortfalls (pos 3000 ∷ pos 2000 ∷ pos 0 ∷ []) ∷ example month_at_end (pos 3000 ∷ pos 2000 ∷ pos 4000 ∷ pos 1000 ∷ pos 3000 ∷ []) ∷ []

-- every example gives what it must
abbrev pub AllHold : List Example → Type 0
AllHold [] = Unit {0}
AllHold (e ∷ es) = (e.gives ≡ e.must) × AllHold es
