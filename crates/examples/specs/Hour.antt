-- The hour of the settled examples: four points and one constraint.
use Rattle.std.specs.Prelude.{ℕ, [], ◌∷◌, ℤ, pos, neg_ℤ}
use Rattle.rows.specs.declared.plain.PointRow.{PointRow}
use Rattle.rows.specs.declared.plain.HoldingRow.{HoldingRow}
use Rattle.rows.specs.declared.letters.PointKind.{PointKind}
use Rattle.rows.specs.declared.letters.PointKind.TheVariants.{LoadZone, Hub, ResourceNode}
use Rattle.rows.specs.declared.letters.InstrumentKind.{InstrumentKind}
use Rattle.rows.specs.declared.letters.Block.TheVariants.{PeakWeekday}
use Rattle.rows.specs.Letters.{point_letter, instrument_letter, block_letter}
use Rattle.payoff.specs.Tables.{Tables, tables}

abbrev point : PointKind → ℤ → ℤ → ℤ → PointRow
point k price minimum maximum = record { letter = point_letter k; price = price; minimum = minimum; maximum = maximum }

-- the hour at a shadow price and a deration factor of its constraint
abbrev pub hour_at : ℕ → ℕ → Tables
hour_at shadow deration =
    tables (record { shadow = shadow; deration = deration } ∷ []) (point LoadZone (pos 3000) (pos 0) (pos 0) ∷ point ResourceNode (pos 2000) (pos 500) (pos 6000) ∷ point Hub (pos 2500) (pos 0) (pos 0) ∷ point ResourceNode (pos 1000) (pos 2700) (pos 5000) ∷ []) (neg_ℤ (pos 1000) ∷ pos 4000 ∷ pos 0 ∷ pos 3000 ∷ [])

abbrev pub hour : Tables
hour = hour_at 5000 2000

-- 10 MW from one point to another
abbrev pub held : InstrumentKind → ℕ → ℕ → HoldingRow
held k source sink = record { owner = 0; letter = instrument_letter k; source = source; sink = sink; quantity = 100; block = block_letter PeakWeekday; actual = 0; real_time = 0 }

-- the same with an actual output and a Real-Time quantity
abbrev pub held_with : InstrumentKind → ℕ → ℕ → ℕ → ℕ → HoldingRow
held_with k source sink actual realTime =
    record { owner = 0; letter = instrument_letter k; source = source; sink = sink; quantity = 100; block = block_letter PeakWeekday; actual = actual; real_time = realTime }
