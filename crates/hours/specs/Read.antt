-- The hour that a package is read as.
use Rattle.std.specs.Prelude.{ℕ, List, [], take, ℤ, Result}
use Rattle.refusals.specs.Numbers.{Told}
use Rattle.rows.specs.declared.plain.ConstraintRow.{ConstraintRow}
use Rattle.rows.specs.declared.plain.HoldingRow.{HoldingRow}
use Rattle.rows.specs.declared.plain.PointRow.{PointRow}
use Rattle.rows.specs.Plain.{plain_day}
use Rattle.format.specs.Hours.{Tables, tables}
use Rattle.format.specs.Reading.{reads_tables, roomed}
use Rattle.packages.specs.declared.filled.Filled.{Filled}
use Rattle.hours.specs.declared.hour_tables.HourTables.{HourTables}

-- what stands in front of the tables
abbrev pub tables_in : HourTables → Tables
tables_in h =
    tables (plain_day h.found.day) (take h.found.constraints h.constraints) (take h.found.points h.points) (take h.found.factors h.factors) (take h.found.holdings h.holdings)

-- all that the tables hold, past what was told too
pub record Held : Type 0 where
  pub found : Filled
  pub constraints : List ConstraintRow
  pub points : List PointRow
  pub factors : List ℤ
  pub holdings : List HoldingRow

abbrev pub held_in : HourTables → Held
held_in h = record { found = h.found; constraints = h.constraints; points = h.points; factors = h.factors; holdings = h.holdings }

-- an hour with nothing in it
abbrev pub no_hour : Tables
no_hour = tables (record { hour = 1; weekday = 0; ending = 1; rent = 0 }) [] [] [] []

-- a package, read into tables of the largest hour
unfoldable pub hour_read : List ℕ → Result Tables Told
hour_read bs = roomed 32 256 8192 1024 (reads_tables bs)
