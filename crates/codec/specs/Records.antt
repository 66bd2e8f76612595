-- The fields of a record of each kind as bytes, and what reading them answers.
use Rattle.std.specs.Prelude.{ℕ, ◌+◌, ◌*◌, ◌^◌, ◌<◌, Bool, true, cond, ◌&&◌, List, [], ◌∷◌, ◌++◌, length, drop, ℤ, Some, None, Ok, Err, Option, Result, ◌==◌, nat_le, slice_index}
use Rattle.refusals.specs.Numbers.{Told, refused_at}
use Rattle.rows.specs.declared.plain.ConstraintRow.{ConstraintRow}
use Rattle.rows.specs.declared.plain.DayRow.{DayRow}
use Rattle.rows.specs.declared.plain.HoldingRow.{HoldingRow}
use Rattle.rows.specs.declared.plain.PointRow.{PointRow}
use Rattle.rows.specs.Ranges.{day_ok, constraint_ok, point_ok, factor_ok, holding_ok}
use Rattle.codec.specs.Bytes.{be2, be4, be8, twos2, twos4, num2_at, num4_at, num8_at, int2, int4_at}

-- D: hour 2, weekday 1, hour ending 1, rent 8
abbrev pub encode_day : DayRow → List ℕ
encode_day r = be2 r.hour ++ (r.weekday ∷ r.ending ∷ be8 r.rent)

abbrev pub day_at : List ℕ → DayRow
day_at bs = record { hour = num2_at bs 0; weekday = slice_index bs 2; ending = slice_index bs 3; rent = num8_at bs 4 }

-- C: shadow price 4, deration factor 2
abbrev pub encode_constraint : ConstraintRow → List ℕ
encode_constraint r = be4 r.shadow ++ be2 r.deration

abbrev pub constraint_at : List ℕ → ConstraintRow
constraint_at bs = record { shadow = num4_at bs 0; deration = num2_at bs 4 }

-- P: letter 1, price 4, minimum 4, maximum 4, and a shift factor of 2 for each constraint
abbrev pub encode_point : PointRow → List ℕ
encode_point r = r.letter ∷ (twos4 r.price ++ (twos4 r.minimum ++ twos4 r.maximum))

abbrev pub point_at : List ℕ → PointRow
point_at bs = record { letter = slice_index bs 0; price = int4_at bs 1; minimum = int4_at bs 5; maximum = int4_at bs 9 }

abbrev pub encode_factors : List ℤ → List ℕ
encode_factors [] = []
encode_factors (z ∷ zs) = twos2 z ++ encode_factors zs

abbrev pub factors_at : List ℕ → List ℤ
factors_at [] = []
factors_at (a ∷ []) = []
factors_at (a ∷ b ∷ rest) = int2 a b ∷ factors_at rest

-- H: owner 2, letter 1, source 2, sink 2, quantity 4, block 1, actual output 4, Real-Time quantity 4
abbrev pub encode_holding : HoldingRow → List ℕ
encode_holding r =
    be2 r.owner ++ (r.letter ∷ (be2 r.source ++ (be2 r.sink ++ (be4 r.quantity ++ (r.block ∷ (be4 r.actual ++ be4 r.real_time))))))

abbrev pub holding_at : List ℕ → HoldingRow
holding_at bs =
    record { owner = num2_at bs 0; letter = slice_index bs 2; source = num2_at bs 3; sink = num2_at bs 5; quantity = num4_at bs 7; block = slice_index bs 11; actual = num4_at bs 12; real_time = num4_at bs 16 }

-- a figure that has no other range is one of 16 bits
pub record HoldingFits (r : HoldingRow) : Type 0 where
  pub owner : r.owner < 2 ^ 16
  pub source : r.source < 2 ^ 16
  pub sink : r.sink < 2 ^ 16

-- whether every entry passes its test
abbrev pub every : {X : Type 0} → (X → Bool) → List X → Bool
every p [] = true
every p (x ∷ xs) = p x && every p xs

-- the row of a record's fields, if their length is its kind's
abbrev pub sized : {X : Type 0} → ℕ → (List ℕ → X) → List ℕ → Option X
sized n at bs = cond (length bs == n) (Some (at bs)) None

-- the same, where several lengths may be those of the kind
abbrev pub row_of : {X : Type 0} → (ℕ → Bool) → (List ℕ → X) → List ℕ → Option X
row_of is_len at bs = cond (is_len (length bs)) (Some (at bs)) None

-- what reading the fields of record p answers: 3 where their length is not n, 6 where the row is out of range
abbrev pub decoded : {X : Type 0} → ℕ → ℕ → (X → Bool) → (List ℕ → X) → List ℕ → Result X Told
decoded p n ok at bs = cond (length bs == n) (cond (ok (at bs)) (Ok (at bs)) (Err (refused_at 6 p))) (Err (refused_at 3 p))

abbrev pub decode_row : {X : Type 0} → (ℕ → Bool) → (X → Bool) → (List ℕ → X) → ℕ → List ℕ → Result X Told
decode_row is_len ok at p bs = cond (is_len (length bs)) (cond (ok (at bs)) (Ok (at bs)) (Err (refused_at 6 p))) (Err (refused_at 3 p))

abbrev pub decode_day : ℕ → List ℕ → Result DayRow Told
decode_day p bs = decoded p 12 day_ok day_at bs

abbrev pub decode_constraint : ℕ → List ℕ → Result ConstraintRow Told
decode_constraint p bs = decoded p 6 constraint_ok constraint_at bs

-- a point with its shift factors
pub record Placed : Type 0 where
  pub point : PointRow
  pub factors : List ℤ

abbrev pub placed_at : List ℕ → Placed
placed_at bs = record { point = point_at bs; factors = factors_at (drop 13 bs) }

abbrev pub placed_ok : Placed → Bool
placed_ok x = point_ok x.point && every factor_ok x.factors

abbrev pub encode_placed : Placed → List ℕ
encode_placed x = encode_point x.point ++ encode_factors x.factors

-- in an hour of n constraints
abbrev pub decode_point : ℕ → ℕ → List ℕ → Result Placed Told
decode_point p n bs = decoded p (13 + 2 * n) placed_ok placed_at bs

abbrev pub decode_holding : ℕ → List ℕ → Result HoldingRow Told
decode_holding p bs = decoded p 20 holding_ok holding_at bs

-- an answer, seen by f
abbrev pub answered : {X Y E : Type 0} → (X → Y) → Result X E → Result Y E
answered f (Ok x) = Ok (f x)
answered f (Err e) = Err e

-- a table whose front is filled where it has room, and which stays where it has not
abbrev pub filled : {X : Type 0} → List X → List X → List X
filled xs t = cond (nat_le (length xs) (length t)) (xs ++ drop (length xs) t) t
