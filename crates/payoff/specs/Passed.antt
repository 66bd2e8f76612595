-- What tables that pass their tests keep.
use Rattle.std.specs.Prelude.{◌≡◌, ℕ, ◌+◌, ◌*◌, ◌<◌, ◌≤◌, Bool, true, false, cond, not, length, pos, is_some, Some, None, Option, slice_index_or, refl}
use Rattle.std.proofs.Common.{add-mul, arith}
use Rattle.std.specs.Option.{option_map}
use Rattle.std.proofs.lemmas.Nat.{mul-le}
use Rattle.std.proofs.lemmas.Bool.Decides.{nat_tests}
use Rattle.refusals.specs.Numbers.{refused_at}
use Rattle.rows.specs.Firsts.{first_bad}
use Rattle.rows.specs.Ranges.{constraint_ok, point_ok, factor_ok}
use Rattle.rows.proofs.Firsts.{none_bad}
use Rattle.payoff.specs.Tables.{Tables, sizes_ok, or_else, bad_entry, tables_test, tables_ok, no_point, no_constraint}

passes : (b : Bool) (o : Option ℕ) → not (is_some (cond b (option_map (refused_at 18) o) (Some (refused_at 11 0)))) ≡ true → (b ≡ true) × (o ≡ None)
passes true None e = (refl, refl)
passes true (Some k) e = grind arith
passes false o e = grind arith

none_first : {X : Type 0} (a b : Option X) → or_else a b ≡ None → (a ≡ None) × (b ≡ None)
none_first None b e = (refl, e)
none_first (Some x) b e = grind arith

pub record Passed (t : Tables) : Type 0 where
  pub points : length t.points ≤ 256
  pub constraints : length t.constraints ≤ 32
  pub factors : length t.factors ≡ length t.points * length t.constraints
  pub constraint : (c : ℕ) → c < length t.constraints → constraint_ok (slice_index_or t.constraints c no_constraint) ≡ true
  pub point : (i : ℕ) → i < length t.points → point_ok (slice_index_or t.points i no_point) ≡ true
  pub factor : (k : ℕ) → k < length t.factors → factor_ok (slice_index_or t.factors k (pos 0)) ≡ true

pub passed : (t : Tables) → tables_ok t ≡ true → Passed t
unfolding tables_test sizes_ok
passed t ok =
    let p = passes (sizes_ok t) (bad_entry t) ok in
    let a = none_first (first_bad constraint_ok t.constraints) (or_else (first_bad point_ok t.points) (first_bad factor_ok t.factors)) p.1 in
    let b = none_first (first_bad point_ok t.points) (first_bad factor_ok t.factors) a.1 in
    let s : sizes_ok t ≡ true = p.0 in
    record {
      points = grind (arith, nat_tests);
      constraints = grind (arith, nat_tests);
      factors = grind (arith, nat_tests);
      constraint = λ c lt. none_bad constraint_ok t.constraints c no_constraint a.0 lt;
      point = λ i lt. none_bad point_ok t.points i no_point b.0 lt;
      factor = λ k lt. none_bad factor_ok t.factors k (pos 0) b.1 lt;
    }

pub factors_le : (t : Tables) → Passed t → length t.factors ≤ 8192
factors_le t p = omega (arith, p.factors, mul-le (length t.points) (length t.constraints) 256 32 p.points p.constraints)

-- a point's row of shift factors lies within the table
pub row_fits : (t : Tables) → Passed t → (i : ℕ) → i < length t.points → i * length t.constraints + length t.constraints ≤ length t.factors
row_fits t p i lt =
    omega (arith, p.factors, mul-le (i + 1) (length t.constraints) (length t.points) (length t.constraints) (omega arith) (omega arith), add-mul i 1 (length t.constraints))
