-- Shift factors, two bytes at a time.
use Rattle.std.proofs.Common.{◌≡◌, ℕ, suc, ◌*◌, ◌/◌, ◌%◌, Bool, true, false, ◌&&◌, List, [], ◌∷◌, ◌++◌, length, get_or, map, ℤ, pos, negsuc, sym, refl, ap, ◌∙◌, arith, w16, SFits}
use Rattle.std.specs.List.{fold}
use Rattle.std.specs.Simd.{first_chunks}
use Rattle.std.proofs.lemmas.Bool.Decides.{nat_tests}
use Rattle.rows.specs.Ranges.{factor_ok}
use Rattle.codec.specs.Bytes.{Bytes, int2}
use Rattle.codec.specs.Records.{every, factors_at, encode_factors}
use Rattle.codec.proofs.Trips.{int2_twos2, twos2_int2}

abbrev pub factor_of : List ℕ → ℤ
factor_of pair = int2 (get_or pair 0 0) (get_or pair 1 0)

-- by the pairs that the bytes are cut into
pub factors_pairs : (bs : List ℕ) → factors_at bs ≡ map factor_of (first_chunks 2 (length bs / 2) bs)
factors_pairs [] = refl
factors_pairs (a ∷ []) = refl
factors_pairs (a ∷ b ∷ bs) =
    let n : length (a ∷ b ∷ bs) / 2 ≡ suc (length bs / 2) = omega arith in
    let i = factors_pairs bs in
    rw n (ap (λ zs. int2 a b ∷ zs) i)

pub factors_length : (bs : List ℕ) → length (factors_at bs) ≡ length bs / 2
factors_length [] = refl
factors_length (a ∷ []) = refl
factors_length (a ∷ b ∷ bs) = let i = factors_length bs in omega arith

pub encoded_length : (zs : List ℤ) → length (encode_factors zs) ≡ 2 * length zs
encoded_length [] = refl
encoded_length (z ∷ zs) = let i = encoded_length zs in omega arith

pub factor_fits : (z : ℤ) → factor_ok z ≡ true → SFits w16 z
factor_fits (pos n) e = record { sfits = grind (arith, nat_tests) }
factor_fits (negsuc n) e = record { sfits = grind (arith, nat_tests) }

pub and_left : (a b : Bool) → (a && b) ≡ true → a ≡ true
and_left true b e = refl
and_left false b e = e

pub and_right : (a b : Bool) → (a && b) ≡ true → b ≡ true
and_right true b e = e
and_right false true e = refl
and_right false false e = e

-- what is read of shift factors in range that were written
pub factors_back : (zs : List ℤ) → every factor_ok zs ≡ true → factors_at (encode_factors zs) ≡ zs
factors_back [] e = refl
factors_back (z ∷ zs) e =
    let i = factors_back zs (and_right (factor_ok z) (every factor_ok zs) e) in
    let b = int2_twos2 z (factor_fits z (and_left (factor_ok z) (every factor_ok zs) e)) in
    cc

-- what is written of the shift factors of an even number of bytes
pub factors_canon : (bs : List ℕ) → length bs % 2 ≡ 0 → Bytes bs → encode_factors (factors_at bs) ≡ bs
factors_canon [] e h = refl
factors_canon (a ∷ []) e h = absurd (omega arith)
factors_canon (a ∷ b ∷ bs) e h =
    let i = factors_canon bs (omega arith) (λ k. h (suc (suc k))) in
    ap (λ ys. ys ++ encode_factors (factors_at bs)) (twos2_int2 a b (h 0) (h 1)) ∙ ap (λ ys. a ∷ b ∷ ys) i

folded : {X Y : Type 0} (p : Y → Bool) (f : X → Y) (a : Bool) (xs : List X) → fold (λ all x. all && p (f x)) a xs ≡ (a && every p (map f xs))
folded p f true [] = refl
folded p f false [] = refl
folded p f true (x ∷ xs) = folded p f (p (f x)) xs
folded p f false (x ∷ xs) = folded p f false xs

-- all tests of the shift factors joined say whether each passes
pub factors_joined : (b : Bool) (pairs : List (List ℕ)) (fs : List ℤ) → fs ≡ map factor_of pairs → b ≡ fold (λ all pair. all && factor_ok (factor_of pair)) true pairs → b ≡ every factor_ok fs
factors_joined b pairs fs e h = h ∙ folded factor_ok factor_of true pairs ∙ ap (every factor_ok) (sym e)
