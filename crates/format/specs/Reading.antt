-- What reading a package answers, test by test.
use Rattle.std.specs.Prelude.{ℕ, zero, suc, ◌+◌, ◌-◌, Bool, true, cond, ◌&&◌, List, [], ◌∷◌, ◌++◌, length, drop, ℤ, Ok, Err, Result, ◌==◌, nat_le, nat_lt, slice_index}
use Rattle.refusals.specs.Numbers.{Told, refused_at}
use Rattle.rows.specs.declared.plain.ConstraintRow.{ConstraintRow}
use Rattle.rows.specs.declared.plain.HoldingRow.{HoldingRow}
use Rattle.rows.specs.declared.plain.PointRow.{PointRow}
use Rattle.rows.specs.Ranges.{between}
use Rattle.codec.specs.Bytes.{num4_at}
use Rattle.codec.specs.Records.{Placed, decode_day, decode_constraint, decode_point, decode_holding, answered}
use Rattle.records.specs.Frames.{Frame, End, Bad, One, frame_of}
use Rattle.format.specs.Hours.{Hour, hour, Tables, tables_of}

abbrev pub none : {X : Type 0} → List X → Bool
none xs = length xs == 0

-- test 4, that the letter is in order; test 5, that there is room for one more; and then those of the fields
abbrev pub admit : {X Y : Type 0} → ℕ → Bool → Bool → Result X Told → (X → Y) → Result Y Told
admit p inOrder more fields kept = cond inOrder (cond more (answered kept fields) (Err (refused_at 5 p))) (Err (refused_at 4 p))

abbrev pub with_constraint : Hour → ConstraintRow → Hour
with_constraint t x = hour t.day (t.constraints ++ (x ∷ [])) t.points t.holdings

abbrev pub with_point : Hour → Placed → Hour
with_point t x = hour t.day t.constraints (t.points ++ (x ∷ [])) t.holdings

abbrev pub with_holding : Hour → HoldingRow → Hour
with_holding t x = hour t.day t.constraints t.points (t.holdings ++ (x ∷ []))

-- record p after the hour so far: C, P or H, in this order, at most 32, 256 and 1,024 of them
abbrev pub takes : ℕ → Hour → ℕ → List ℕ → Result Hour Told
takes p t letter fields =
    cond (letter == 67) (admit p (none t.points && none t.holdings) (nat_lt (length t.constraints) 32) (decode_constraint p fields) (with_constraint t))
    (cond (letter == 80) (admit p (none t.holdings) (nat_lt (length t.points) 256) (decode_point p (length t.constraints) fields) (with_point t))
    (cond (letter == 72) (admit p true (nat_lt (length t.holdings) 1024) (decode_holding p fields) (with_holding t)) (Err (refused_at 4 p))))

-- what follows an answer
abbrev pub after : {X Y : Type 0} → Result X Told → (X → Result Y Told) → Result Y Told
after (Ok x) go = go x
after (Err e) go = Err e

-- test 3, that the record is not empty and not past the end, and then its own
abbrev pub on_frame : ℕ → Hour → Frame → (Hour → List ℕ → Result Hour Told) → Result Hour Told
on_frame p t End go = Ok t
on_frame p t Bad go = Err (refused_at 3 p)
on_frame p t (One letter fields rest) go = after (takes p t letter fields) (λ u. go u rest)

-- the records from number p on, of which there are fewer than k
unfoldable pub run : ℕ → ℕ → Hour → List ℕ → Result Hour Told
run zero p t bs = Err (refused_at 3 p)
run (suc k) p t bs = on_frame p t (frame_of bs) (λ u rest. run k (p + 1) u rest)

-- record 0 is the day row's
abbrev pub on_first : ℕ → Frame → Result Hour Told
on_first k End = Err (refused_at 4 0)
on_first k Bad = Err (refused_at 3 0)
on_first k (One letter fields rest) =
    cond (letter == 68) (after (decode_day 0 fields) (λ d. run k 1 (hour d [] [] []) rest)) (Err (refused_at 4 0))

-- test 1, that the length is true; test 2, that the version is 1; and then the records in turn
unfoldable pub reads : List ℕ → Result Hour Told
reads bs =
    cond (between 5 44340 (length bs))
    (cond (num4_at bs 0 == length bs - 4)
    (cond (slice_index bs 4 == 1) (on_first (length bs) (frame_of (drop 5 bs))) (Err (refused_at 2 0)))
    (Err (refused_at 1 0)))
    (Err (refused_at 1 0))

-- the tables of a package
abbrev pub reads_tables : List ℕ → Result Tables Told
reads_tables bs = answered tables_of (reads bs)

-- the last test, 7: tables of these lengths have room
abbrev pub roomed : ℕ → ℕ → ℕ → ℕ → Result Tables Told → Result Tables Told
roomed cs ps fs hs (Ok t) =
    cond (nat_le (length t.constraints) cs && (nat_le (length t.points) ps && (nat_le (length t.factors) fs && nat_le (length t.holdings) hs))) (Ok t) (Err (refused_at 7 0))
roomed cs ps fs hs (Err e) = Err e

-- all the tests, for a caller with these tables
abbrev pub reads_into : List ℕ → List ConstraintRow → List PointRow → List ℤ → List HoldingRow → Result Tables Told
reads_into bs cs ps fs hs = roomed (length cs) (length ps) (length fs) (length hs) (reads_tables bs)

-- a table afterwards: rows at its front and what lay past them, and on refusal what it held
abbrev pub laid : {X : Type 0} → Result Tables Told → (Tables → List X) → List X → List X
laid (Ok t) rows was = rows t ++ drop (length (rows t)) was
laid (Err e) rows was = was
