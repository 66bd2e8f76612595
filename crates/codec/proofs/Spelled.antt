-- A list of bytes by its places.
use Rattle.std.proofs.Common.{◌≡◌, ℕ, zero, suc, ◌+◌, List, [], ◌∷◌, ◌++◌, length, get_or, drop, refl, ap, ◌∙◌, arith, lit<}
use Rattle.codec.specs.Bytes.{Bytes}

-- n elements from place i on
abbrev pub spell : ℕ → ℕ → List ℕ → List ℕ
spell zero i bs = []
spell (suc n) i bs = get_or bs i 0 ∷ spell n (suc i) bs

shifted : (n i x : ℕ) (bs : List ℕ) → spell n (suc i) (x ∷ bs) ≡ spell n i bs
shifted zero i x bs = refl
shifted (suc n) i x bs = ap (λ ys. get_or bs i 0 ∷ ys) (shifted n (suc i) x bs)

pub spelled : (n : ℕ) (bs : List ℕ) → length bs ≡ n → spell n 0 bs ≡ bs
spelled zero [] e = refl
spelled zero (x ∷ bs) e = absurd (omega arith)
spelled (suc n) [] e = absurd (omega arith)
spelled (suc n) (x ∷ bs) e = ap (λ ys. x ∷ ys) (shifted n 0 x bs ∙ spelled n bs (omega arith))

-- the first n, and what follows them
pub spelled_front : (n : ℕ) (bs : List ℕ) (m : ℕ) → length bs ≡ n + m → spell n 0 bs ++ drop n bs ≡ bs
spelled_front zero bs m e = refl
spelled_front (suc n) [] m e = absurd (omega arith)
spelled_front (suc n) (x ∷ bs) m e = ap (λ ys. x ∷ (ys ++ drop n bs)) (shifted n 0 x bs) ∙ ap (λ ys. x ∷ ys) (spelled_front n bs m (omega arith))

pub bytes_left : (xs ys : List ℕ) → Bytes (xs ++ ys) → Bytes xs
bytes_left [] ys h k = lit< tt
bytes_left (x ∷ xs) ys h zero = h 0
bytes_left (x ∷ xs) ys h (suc k) = bytes_left xs ys (λ j. h (suc j)) k

pub bytes_right : (xs ys : List ℕ) → Bytes (xs ++ ys) → Bytes ys
bytes_right [] ys h k = h k
bytes_right (x ∷ xs) ys h k = bytes_right xs ys (λ j. h (suc j)) k

pub bytes_drop : (n : ℕ) (bs : List ℕ) → Bytes bs → Bytes (drop n bs)
bytes_drop zero bs h k = h k
bytes_drop (suc n) [] h k = lit< tt
bytes_drop (suc n) (x ∷ bs) h k = bytes_drop n bs (λ j. h (suc j)) k
