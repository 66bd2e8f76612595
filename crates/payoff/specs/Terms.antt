-- The bounds of the deration's terms and of their sum.
use Rattle.std.specs.Prelude.{◌≡◌, ℕ, zero, suc, ◌+◌, ◌*◌, ◌<◌, ◌≤◌, true, length, ℤ, ◌-ℤ◌, slice_index_or}
use Rattle.std.proofs.Common.{suc-mul, add-one, arith}
use Rattle.std.proofs.lemmas.Int.{ints}
use Rattle.std.proofs.lemmas.Nat.{mul-le}
use Rattle.units.specs.Parts.{positive}
use Rattle.units.specs.Rounding.{round_deration}
use Rattle.units.proofs.Positive.{positive_is}
use Rattle.rows.specs.Ranges.{factor_ok}
use Rattle.rows.proofs.Ranges.{factor_range, constraint_range}
use Rattle.payoff.specs.Tables.{Tables, no_constraint}
use Rattle.payoff.specs.Prices.{sum_to, shift_factor, deration_term}
use Rattle.payoff.specs.Passed.{Passed, row_fits}

pub gap_le : (a b : ℤ) → factor_ok a ≡ true → factor_ok b ≡ true → positive (a -ℤ b) ≤ 20000
gap_le a b p q =
    let x = factor_range a p in
    let y = factor_range b q in
    omega (arith, ints, positive_is)

pub product_le : (g s d : ℕ) → g ≤ 20000 → s ≤ 1000000 → d ≤ 10000 → g * s * d ≤ 200000000000000
product_le g s d p q r = mul-le (g * s) d 20000000000 10000 (mul-le g s 20000 1000000 p q) r

-- a point and a constraint have a place in the table of shift factors
pub factor_place : (t : Tables) → Passed t → (i c : ℕ) → i < length t.points → c < length t.constraints → i * length t.constraints + c < length t.factors
factor_place t p i c lt in_c = omega (arith, row_fits t p i lt)

pub term_le : (t : Tables) → Passed t → (source sink c : ℕ) → source < length t.points → sink < length t.points → c < length t.constraints → deration_term t source sink c ≤ 200000000000000
term_le t p source sink c a b in_c =
    let row = constraint_range (slice_index_or t.constraints c no_constraint) (p.constraint c in_c) in
    product_le (positive (shift_factor t source c -ℤ shift_factor t sink c)) _ _ (gap_le (shift_factor t source c) (shift_factor t sink c) (p.factor _ (factor_place t p source c a in_c)) (p.factor _ (factor_place t p sink c b in_c))) row.0 row.1

pub sum_to_more : (f : ℕ → ℕ) (n : ℕ) → sum_to f (n + 1) ≡ sum_to f n + f n
sum_to_more f n = rw (add-one n)

pub sum_to_le : (f : ℕ → ℕ) (n m : ℕ) → ((c : ℕ) → c < n → f c ≤ m) → sum_to f n ≤ n * m
sum_to_le f zero m h = omega arith
sum_to_le f (suc n) m h = omega (arith, sum_to_le f n m (λ c lt. h c (omega arith)), h n (omega arith), suc-mul n m)

pub round_le : (n : ℕ) → n ≤ 6400000000000000 → round_deration n ≤ 64000000
unfolding round_deration
round_le n h = omega arith
