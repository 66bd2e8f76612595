-- The part of a sum that falls to a weight, and sums over the lines before a line.
use Rattle.std.proofs.Common.{◌≡◌, ℕ, zero, suc, ◌+◌, ◌*◌, ◌/◌, ◌<◌, ◌≤◌, List, [], ◌∷◌, length, sum_by, refl, add-zero, add-suc, mul_comm, mul-le-mul_left, div-mul-le_self, arith}
use native.Mathlib.Nat.{div-zero, div-le_of_le-mul}
use Rattle.std.proofs.lemmas.Nat.{le-div}
use Rattle.std.proofs.lemmas.List.Sums.{sum_by-cons}
use Rattle.sharing.specs.Shares.{up_to, weights_of}

pub div_mono : (a b v : ℕ) → a ≤ b → a / v ≤ b / v
div_mono a b zero h = rw (div-zero a) (omega arith)
div_mono a b (suc v) h = le-div (a / suc v) b (suc v) (omega arith) (omega (arith, div-mul-le_self a (suc v)))

-- what falls to more weight is no less
pub part_mono : (s b w v : ℕ) → s * b / v ≤ s * (b + w) / v
part_mono s b w v = div_mono (s * b) (s * (b + w)) v (mul-le-mul_left s (omega arith))

-- and no more than the sum, where the weight is at most the total
pub part_le : (s b v : ℕ) → b ≤ v → s * b / v ≤ s
part_le s b zero h = rw (div-zero (s * b)) (omega arith)
part_le s b (suc v) h = div-le_of_le-mul (suc v) (omega (arith, mul-le-mul_left {m = b} {n = suc v} s h, mul_comm s (suc v)))

pub up_to_same : (f g : ℕ → ℕ) (n : ℕ) → ((k : ℕ) → k < n → f k ≡ g k) → up_to f n ≡ up_to g n
up_to_same f g zero h = refl
up_to_same f g (suc n) h = omega (arith, up_to_same f g n (λ k l. h k (omega arith)), h n (omega arith))

pub up_to_le : (f : ℕ → ℕ) (m k : ℕ) → up_to f m ≤ up_to f (m + k)
up_to_le f m zero = rw (add-zero m) (omega arith)
up_to_le f m (suc k) = rw (add-suc m k) (omega (arith, up_to_le f m k))

module _ {L : Type 0} (weight : L → ℕ) where
  pub up_to_cons : (x : L) (xs : List L) (d : L) (i : ℕ) → up_to (weights_of weight (x ∷ xs) d) (suc i) ≡ weight x + up_to (weights_of weight xs d) i
  up_to_cons x xs d zero = omega arith
  up_to_cons x xs d (suc i) = omega (arith, up_to_cons x xs d i)

  pub up_to_all : (xs : List L) (d : L) → up_to (weights_of weight xs d) (length xs) ≡ sum_by weight xs
  up_to_all [] d = refl
  up_to_all (x ∷ xs) d = omega (arith, up_to_cons x xs d (length xs), up_to_all xs d, sum_by-cons weight x xs)
