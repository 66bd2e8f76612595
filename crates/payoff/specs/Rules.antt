-- The payoff rules: what every instrument keeps.
use Rattle.std.specs.Prelude.{◌≡◌, ℕ, ◌≤◌, true, ℤ, pos, neg_ℤ, ◌≤ℤ◌, Some, None, Option}
use Rattle.rows.specs.declared.plain.HoldingRow.{HoldingRow}
use Rattle.payoff.specs.Tables.{Tables, servable}

-- the four figures of a holding: counted quantity, target price, deration price and floor price
pub record Payoff : Type 0 where
  pub quantity : ℕ
  pub target : ℤ
  pub deration : ℤ
  pub floor : ℤ

-- what a meaning of an instrument is: nothing for a holding that is not served, else its four figures
abbrev pub Meaning : Type 0
Meaning = Tables → HoldingRow → Option Payoff

pub record Served (t : Tables) (h : HoldingRow) (f : Payoff) : Type 0 where
  pub servable : servable t h ≡ true
  pub held : f.quantity ≤ h.quantity
  pub target_low : neg_ℤ (pos 2000000) ≤ℤ f.target
  pub target_high : f.target ≤ℤ pos 2000000
  pub floor_low : neg_ℤ (pos 2000000) ≤ℤ f.floor
  pub floor_under : f.floor ≤ℤ f.target
  pub deration_low : pos 0 ≤ℤ f.deration
  pub deration_high : f.deration ≤ℤ pos 64000000

abbrev pub Lawful : Tables → HoldingRow → Option Payoff → Type 0
Lawful t h None = Unit {0}
Lawful t h (Some f) = Served t h f
