-- The rule of the table of pairs, proved at all of its entries by one test that antt computes.
use Rattle.std.proofs.Common.{◌≡◌, ℕ, zero, suc, ◌+◌, ◌*◌, ◌/◌, ◌%◌, ◌<◌, Bool, true, false, ◌&&◌, T, eqb, List, [], ◌∷◌, length, get_or, codes, sym, ap, ◌∙◌, arith, eqb→eq}
use Rattle.statement.specs.Groups.{pair_of}

both_left : (a b : Bool) → T (a && b) → T a
both_left true b t = tt
both_left false b t = t

both_right : (a b : Bool) → T (a && b) → T b
both_right true b t = t
both_right false b t = absurd t

-- the bytes are the digits of i, of the next number, and so on
abbrev right : ℕ → List ℕ → Bool
right i [] = true
right i (a ∷ []) = false
right i (a ∷ (b ∷ xs)) = eqb a (48 + i / 10) && (eqb b (48 + i % 10) && right (suc i) xs)

from : (k i : ℕ) (xs : List ℕ) → T (right i xs) → 2 * k + 1 < length xs → (get_or xs (2 * k) 0 ≡ 48 + (i + k) / 10) × (get_or xs (2 * k + 1) 0 ≡ 48 + (i + k) % 10)
from k i [] t h = absurd (omega arith)
from k i (a ∷ []) t h = absurd t
from zero i (a ∷ (b ∷ xs)) t h =
    let z : i + 0 ≡ i = omega arith in
    let r = both_right (eqb a (48 + i / 10)) _ t in (
      eqb→eq a (48 + i / 10) (both_left (eqb a (48 + i / 10)) _ t) ∙ ap (λ m. 48 + m / 10) (sym z),
      eqb→eq b (48 + i % 10) (both_left (eqb b (48 + i % 10)) _ r) ∙ ap (λ m. 48 + m % 10) (sym z),
    )
from (suc k) i (a ∷ (b ∷ xs)) t h =
    let s : 2 * suc k ≡ suc (suc (2 * k)) = omega arith in
    let p : 2 * suc k + 1 ≡ suc (suc (2 * k + 1)) = omega arith in
    let m : suc i + k ≡ i + suc k = omega arith in
    let r = both_right (eqb b (48 + i % 10)) _ (both_right (eqb a (48 + i / 10)) _ t) in
    let f = from k (suc i) xs r (omega arith) in (
      ap (λ n. get_or (a ∷ (b ∷ xs)) n 0) s ∙ f.0 ∙ ap (λ n. 48 + n / 10) m,
      ap (λ n. get_or (a ∷ (b ∷ xs)) n 0) p ∙ f.1 ∙ ap (λ n. 48 + n % 10) m,
    )

abbrev pub pairs : List ℕ
pairs = codes "00010203040506070809101112131415161718192021222324252627282930313233343536373839404142434445464748495051525354555657585960616263646566676869707172737475767778798081828384858687888990919293949596979899"

pub pair_right : (n : ℕ) → n < 100 → (get_or pairs (2 * n) 0 ∷ (get_or pairs (2 * n + 1) 0 ∷ [])) ≡ pair_of n
pair_right n h =
    let z : 0 + n ≡ n = omega arith in
    let f = from n 0 pairs tt (omega arith) in
    ap (λ a. a ∷ (get_or pairs (2 * n + 1) 0 ∷ [])) f.0 ∙ ap (λ b. (48 + (0 + n) / 10) ∷ (b ∷ [])) f.1 ∙ ap pair_of z
