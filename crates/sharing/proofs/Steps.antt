-- The steps of the loop that shares.
use Rattle.std.proofs.Common.{◌≡◌, ℕ, zero, suc, ◌+◌, ◌-◌, ◌*◌, ◌/◌, ◌<◌, ◌≤◌, List, [], ◌∷◌, ◌++◌, length, get_or, take, drop, refl, ap, ◌∙◌, arith}
use Rattle.std.proofs.lemmas.List.{take_all, drop_all, append-nil}
use Rattle.sharing.specs.Shares.{up_to, share_of, weights_of}
use Rattle.sharing.proofs.Parts.{up_to_cons}

-- the share of a line of weight w after lines of weight b
abbrev pub share_after : (s v b w : ℕ) → ℕ
share_after s v b w = s * (b + w) / v - s * b / v

module _ {L : Type 0} where
  module _ (weight : L → ℕ) (given : L → ℕ → L) where
    -- lines after lines of weight b, each with its share
    abbrev pub shared_from : (s v b : ℕ) → List L → List L
    shared_from s v b [] = []
    shared_from s v b (x ∷ xs) = given x (share_after s v b (weight x)) ∷ shared_from s v (b + weight x) xs

    pub shared_all : (s v b : ℕ) (xs : List L) (i : ℕ) → length xs ≤ i → take i xs ++ shared_from s v b (drop i xs) ≡ xs
    shared_all s v b xs i h = rw (take_all i xs h, drop_all i xs h) (append-nil xs)

    pub length_shared : (s v b : ℕ) (xs : List L) → length (shared_from s v b xs) ≡ length xs
    length_shared s v b [] = refl
    length_shared s v b (x ∷ xs) = ap (λ (n : ℕ). suc n) (length_shared s v (b + weight x) xs)

    -- what stands at each place
    shared_at : (s v b : ℕ) (xs : List L) (d : L) (i : ℕ) → i < length xs → get_or (shared_from s v b xs) i d ≡ given (get_or xs i d) (s * (b + up_to (weights_of weight xs d) (suc i)) / v - s * (b + up_to (weights_of weight xs d) i) / v)
    shared_at s v b [] d i h = absurd (omega arith)
    shared_at s v b (x ∷ xs) d zero h =
        ap (given x) (ap (λ (k : ℕ). s * (b + k) / v - s * b / v) (omega arith) ∙ ap (λ (k : ℕ). s * (b + (0 + weight x)) / v - s * k / v) (omega arith))
    shared_at s v b (x ∷ xs) d (suc i) h =
        shared_at s v (b + weight x) xs d i (omega arith) ∙ ap (given (get_or xs i d)) (ap (λ (k : ℕ). s * k / v - s * (b + weight x + up_to (weights_of weight xs d) i) / v) (omega (arith, up_to_cons weight x xs d (suc i))) ∙ ap (λ (k : ℕ). s * (b + up_to (weights_of weight (x ∷ xs) d) (suc (suc i))) / v - s * k / v) (omega (arith, up_to_cons weight x xs d i)))

    pub shared_out : (s v : ℕ) (xs : List L) (d : L) (i : ℕ) → i < length xs → get_or (shared_from s v 0 xs) i d ≡ given (get_or xs i d) (share_of s v (weights_of weight xs d) i)
    shared_out s v xs d i h =
        shared_at s v 0 xs d i h ∙ ap (given (get_or xs i d)) (ap (λ (k : ℕ). s * k / v - s * (0 + up_to (weights_of weight xs d) i) / v) (omega arith) ∙ ap (λ (k : ℕ). s * up_to (weights_of weight xs d) (suc i) / v - s * k / v) (omega arith))
