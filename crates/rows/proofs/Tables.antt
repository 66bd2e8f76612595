-- A rule of a table, at all of its entries, by one test that is computed over the whole table.
use Rattle.std.proofs.Common.{ℕ, zero, suc, ◌+◌, ◌<◌, Bool, true, false, T, List, [], ◌∷◌, length, get_or, sym, ◌∙◌, subst, le_of_suc-le-suc, not-suc-le-zero, add-zero, add-suc, suc-add, zero-add}

abbrev both : Bool → Bool → Bool
both true b = b
both false b = false

both_left : (a b : Bool) → T (both a b) → T a
both_left true b t = tt
both_left false b t = t

both_right : (a b : Bool) → T (both a b) → T b
both_right true b t = t
both_right false b t = absurd t

-- the test passes at each entry of the list and its place, counted from i
abbrev pub every_at : {X : Type 0} → (ℕ → X → Bool) → ℕ → List X → Bool
every_at f i [] = true
every_at f i (x ∷ xs) = both (f i x) (every_at f (suc i) xs)

from : {X : Type 0} (f : ℕ → X → Bool) (d : X) (xs : List X) (i : ℕ) → T (every_at f i xs) → (k : ℕ) → k < length xs → T (f (i + k) (get_or xs k d))
from f d [] i t k h = absurd (not-suc-le-zero h)
from f d (x ∷ xs) i t zero h = subst (λ (m : ℕ). T (f m x)) (sym (add-zero i)) (both_left (f i x) (every_at f (suc i) xs) t)
from f d (x ∷ xs) i t (suc k) h =
    subst (λ (m : ℕ). T (f m (get_or xs k d))) (suc-add i k ∙ sym (add-suc i k))
    (from f d xs (suc i) (both_right (f i x) (every_at f (suc i) xs) t) k (le_of_suc-le-suc h))

pub entry : {X : Type 0} (f : ℕ → X → Bool) (d : X) (xs : List X) → T (every_at f 0 xs) → (k : ℕ) → k < length xs → T (f k (get_or xs k d))
entry f d xs t k h = subst (λ (m : ℕ). T (f m (get_or xs k d))) (zero-add k) (from f d xs 0 t k h)
