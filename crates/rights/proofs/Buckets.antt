-- What a bucket and its last link tell of the holdings.
use Rattle.std.proofs.Common.{◌≡◌, ℕ, zero, suc, ◌≤◌, true, eqb, List, sym, ap, ◌∙◌, arith}
use Rattle.std.proofs.lemmas.Bool.{eqb-true, cond_both}
use Rattle.std.proofs.lemmas.Bool.Decides.{nat_tests}
use Rattle.rows.specs.declared.plain.HoldingRow.{HoldingRow}
use Rattle.rights.specs.Rights.{same_right}
use Rattle.rights.specs.Chains.{packed, bucket_of, bucket_at, last_in}

same_packed : (e h : HoldingRow) → same_right e h ≡ true → packed e ≡ packed h
same_packed e h s =
    let o : e.owner ≡ h.owner = grind (arith, nat_tests) in
    let l : e.letter ≡ h.letter = grind (arith, nat_tests) in
    let p : e.source ≡ h.source = grind (arith, nat_tests) in
    let q : e.sink ≡ h.sink = grind (arith, nat_tests) in
    cc

-- the same right falls into the same bucket
pub same_bucket : (e h : HoldingRow) → same_right e h ≡ true → bucket_of e ≡ bucket_of h
unfolding bucket_of
same_bucket e h s = let k = same_packed e h s in cc

-- a link leads back
pub last_within : (hs : List HoldingRow) (b n : ℕ) → last_in hs b n ≤ n
last_within hs b zero = omega arith
last_within hs b (suc n) =
    cond_both (eqb (bucket_at hs n) b) (suc n) (last_in hs b n) (λ m. m ≤ suc n) (λ is. omega arith) (λ is. omega (arith, last_within hs b n))

-- a link leads to a holding of the bucket
pub last_there : (hs : List HoldingRow) (b n k : ℕ) → last_in hs b n ≡ suc k → bucket_at hs k ≡ b
last_there hs b zero k = λ e. absurd (omega arith)
last_there hs b (suc n) k =
    cond_both (eqb (bucket_at hs n) b) (suc n) (last_in hs b n) (λ m. m ≡ suc k → bucket_at hs k ≡ b) (λ is e. let m : n ≡ k = omega arith in sym (ap (bucket_at hs) m) ∙ eqb-true (bucket_at hs n) b is) (λ is. last_there hs b n k)
