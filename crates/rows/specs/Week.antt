-- The block of an hour: hours ending 7 to 22 are Peak Weekday on Monday to Friday and Peak Weekend on Saturday and
-- Sunday, and every other hour is Off-Peak.
use Rattle.std.specs.Prelude.{ℕ, cond, ◌&&◌, nat_le, nat_lt}
use Rattle.rows.specs.declared.letters.Block.{Block}
use Rattle.rows.specs.declared.letters.Block.TheVariants.{PeakWeekday, PeakWeekend, OffPeak}

abbrev pub block_at : ℕ → ℕ → Block
block_at weekday ending = cond (nat_le 7 ending && nat_le ending 22) (cond (nat_lt weekday 5) PeakWeekday PeakWeekend) OffPeak
