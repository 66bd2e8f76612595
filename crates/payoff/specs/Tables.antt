-- The hour's tables and their tests.
use Rattle.std.specs.Prelude.{ℕ, ◌*◌, Bool, cond, not, ◌&&◌, List, [], length, ℤ, pos, is_some, Some, None, Option, ◌==◌, nat_le, nat_lt, slice_index_or}
use Rattle.std.specs.Option.{option_map}
use Rattle.refusals.specs.Numbers.{Told, refused_at}
use Rattle.rows.specs.declared.plain.ConstraintRow.{ConstraintRow}
use Rattle.rows.specs.declared.plain.PointRow.{PointRow}
use Rattle.rows.specs.declared.plain.HoldingRow.{HoldingRow}
use Rattle.rows.specs.Firsts.{first_bad}
use Rattle.rows.specs.Ranges.{constraint_ok, point_ok, factor_ok, holding_ok}

-- constraints, points, and the shift factors by point and then by constraint
pub record Tables : Type 0 where
  pub constraints : List ConstraintRow
  pub points : List PointRow
  pub factors : List ℤ

abbrev pub tables : List ConstraintRow → List PointRow → List ℤ → Tables
tables cs ps fs = record { constraints = cs; points = ps; factors = fs }

-- the hour that has nothing
abbrev pub empty_hour : Tables
empty_hour = tables [] [] []

-- at most 256 points and 32 constraints, and a shift factor for each point and constraint
unfoldable pub sizes_ok : Tables → Bool
sizes_ok t = nat_le (length t.points) 256 && (nat_le (length t.constraints) 32 && length t.factors == length t.points * length t.constraints)

abbrev pub or_else : {X : Type 0} → Option X → Option X → Option X
or_else None next = next
or_else (Some x) next = Some x

-- the first entry out of range, numbered in its own table: constraints first, then points and shift factors
abbrev pub bad_entry : Tables → Option ℕ
bad_entry t = or_else (first_bad constraint_ok t.constraints) (or_else (first_bad point_ok t.points) (first_bad factor_ok t.factors))

-- the refusal of the tables, if any: their sizes, and then their entries
unfoldable pub tables_test : Tables → Option Told
tables_test t = cond (sizes_ok t) (option_map (refused_at 18) (bad_entry t)) (Some (refused_at 11 0))

-- whether the tables pass
abbrev pub tables_ok : Tables → Bool
tables_ok t = not (is_some (tables_test t))

-- the tables where they pass, else the empty hour
abbrev pub passing : Option Told → Tables → Tables
passing None t = t
passing (Some e) t = empty_hour

-- source and sink are two points of the table
abbrev pub pair_ok : Tables → HoldingRow → Bool
pair_ok t h = nat_lt h.source (length t.points) && (nat_lt h.sink (length t.points) && not (h.source == h.sink))

-- tables that pass their tests, a holding whose figures are in range, and two of its points
unfoldable pub servable : Tables → HoldingRow → Bool
servable t h = tables_ok t && (holding_ok h && pair_ok t h)

abbrev pub no_point : PointRow
no_point = record { letter = 0; price = pos 0; minimum = pos 0; maximum = pos 0 }

abbrev pub no_constraint : ConstraintRow
no_constraint = record { shadow = 0; deration = 0 }

-- the two ends of a holding
pub record Ends : Type 0 where
  pub source : PointRow
  pub sink : PointRow

abbrev pub ends_of : Tables → HoldingRow → Ends
ends_of t h = record { source = slice_index_or t.points h.source no_point; sink = slice_index_or t.points h.sink no_point }
