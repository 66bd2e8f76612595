-- What writing a package answers, test by test.
use Rattle.std.specs.Prelude.{ℕ, ◌*◌, Bool, true, false, cond, ◌&&◌, List, ◌++◌, length, drop, ℤ, Some, None, Ok, Err, Option, Result, ◌==◌, nat_le}
use Rattle.refusals.specs.Numbers.{Told, refused_at}
use Rattle.rows.specs.declared.plain.ConstraintRow.{ConstraintRow}
use Rattle.rows.specs.declared.plain.HoldingRow.{HoldingRow}
use Rattle.rows.specs.declared.plain.PointRow.{PointRow}
use Rattle.rows.specs.Firsts.{first_bad}
use Rattle.rows.specs.Ranges.{constraint_ok, point_ok, factor_ok, holding_ok}
use Rattle.format.specs.Hours.{Tables, hour_of, package_of}

-- test 11, by how many constraints, points, shift factors and holdings there are
abbrev pub sizes_in : ℕ → ℕ → ℕ → ℕ → Bool
sizes_in cs ps fs hs = nat_le cs 32 && (nat_le ps 256 && (nat_le hs 1024 && fs == ps * cs))

abbrev pub sizes_ok : Tables → Bool
sizes_ok t = sizes_in (length t.constraints) (length t.points) (length t.factors) (length t.holdings)

abbrev pub first_refusal : Option ℕ → Option ℕ → Option ℕ
first_refusal (Some p) o = Some p
first_refusal None o = o

-- test 18: the first bad entry, constraints before points, shift factors and holdings
abbrev pub bad_in : List ConstraintRow → List PointRow → List ℤ → List HoldingRow → Option ℕ
bad_in cs ps fs hs = first_refusal (first_bad constraint_ok cs) (first_refusal (first_bad point_ok ps) (first_refusal (first_bad factor_ok fs) (first_bad holding_ok hs)))

abbrev pub bad_entry : Tables → Option ℕ
bad_entry t = bad_in t.constraints t.points t.factors t.holdings

-- the tests in order, the last of them 7, that the room suffices
abbrev pub tested : Bool → Option ℕ → List ℕ → ℕ → Result (List ℕ) Told
tested false bad bs room = Err (refused_at 11 0)
tested true (Some p) bs room = Err (refused_at 18 p)
tested true None bs room = cond (nat_le (length bs) room) (Ok bs) (Err (refused_at 7 0))

-- the package of tables, in a buffer with so much room
abbrev pub writes : Tables → ℕ → Result (List ℕ) Told
writes t room = tested (sizes_ok t) (bad_entry t) (package_of (hour_of t)) room

-- a buffer afterwards
abbrev pub written : Result (List ℕ) Told → List ℕ → List ℕ
written (Ok bs) was = bs ++ drop (length bs) was
written (Err e) was = was
