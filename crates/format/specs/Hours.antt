-- An hour, the tables that it lies in, and its package.
use Rattle.std.specs.Prelude.{ℕ, suc, List, [], ◌∷◌, ◌++◌, map, length, take, drop, ℤ}
use Rattle.rows.specs.declared.plain.ConstraintRow.{ConstraintRow}
use Rattle.rows.specs.declared.plain.DayRow.{DayRow}
use Rattle.rows.specs.declared.plain.HoldingRow.{HoldingRow}
use Rattle.rows.specs.declared.plain.PointRow.{PointRow}
use Rattle.codec.specs.Bytes.{be4}
use Rattle.codec.specs.Records.{Placed, encode_day, encode_constraint, encode_placed, encode_holding}
use Rattle.records.specs.Frames.{framed}

-- an hour: its day row, its constraints, its points each with a shift factor for every constraint, and its holdings
pub record Hour : Type 0 where
  pub day : DayRow
  pub constraints : List ConstraintRow
  pub points : List Placed
  pub holdings : List HoldingRow

abbrev pub hour : DayRow → List ConstraintRow → List Placed → List HoldingRow → Hour
hour d cs ps hs = record { day = d; constraints = cs; points = ps; holdings = hs }

-- the same as it lies in tables, with the shift factors in one of their own, a row for each point
pub record Tables : Type 0 where
  pub day : DayRow
  pub constraints : List ConstraintRow
  pub points : List PointRow
  pub factors : List ℤ
  pub holdings : List HoldingRow

abbrev pub tables : DayRow → List ConstraintRow → List PointRow → List ℤ → List HoldingRow → Tables
tables d cs ps fs hs = record { day = d; constraints = cs; points = ps; factors = fs; holdings = hs }

abbrev pub points_of : List Placed → List PointRow
points_of xs = map (λ x. x.point) xs

abbrev pub factors_of : List Placed → List ℤ
factors_of [] = []
factors_of (x ∷ xs) = x.factors ++ factors_of xs

abbrev pub tables_of : Hour → Tables
tables_of h = tables h.day h.constraints (points_of h.points) (factors_of h.points) h.holdings

-- points with rows of n shift factors
abbrev pub placed : ℕ → List PointRow → List ℤ → List Placed
placed n [] fs = []
placed n (p ∷ ps) fs = record { point = p; factors = take n fs } ∷ placed n ps (drop n fs)

abbrev pub hour_of : Tables → Hour
hour_of t = hour t.day t.constraints (placed (length t.constraints) t.points t.factors) t.holdings

-- records of one kind, one after the other
abbrev pub records_of : {X : Type 0} → ℕ → (X → List ℕ) → List X → List ℕ
records_of letter fields [] = []
records_of letter fields (x ∷ xs) = framed letter (fields x) ++ records_of letter fields xs

-- one D, and then every C, P and H
unfoldable pub body : Hour → List ℕ
body h =
    framed 68 (encode_day h.day) ++ (records_of 67 encode_constraint h.constraints ++ (records_of 80 encode_placed h.points ++ records_of 72 encode_holding h.holdings))

-- the length of what follows, version 1, and the records
unfoldable pub package_of : Hour → List ℕ
package_of h = be4 (suc (length (body h))) ++ (1 ∷ body h)
