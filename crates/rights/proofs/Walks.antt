-- A walk back through earlier holdings.
use Rattle.std.proofs.Common.{◌≡◌, ℕ, zero, suc, ◌<◌, ◌≤◌, Bool, true, false, ◌||◌, eqb, List, [], ◌∷◌, length, get_or, take, sym, refl, ap, ◌∙◌, le_of_suc-le-suc, arith}
use mathlib.Core.Bool.{or-false, or_assoc}
use Rattle.std.proofs.lemmas.Bool.{eqb-false, cond_both}
use Rattle.rows.specs.declared.plain.HoldingRow.{HoldingRow}
use Rattle.rights.specs.Rights.{same_right, some, no_holding, repeated_at}
use Rattle.rights.specs.Chains.{bucket_of, bucket_at, last_in}
use Rattle.rights.proofs.Buckets.{same_bucket, last_within, last_there}

not_own : (t : Bool) → (t ≡ true → ⊥) → t ≡ false
not_own true h = absurd (h refl)
not_own false h = refl

-- one holding more
some_more : {X : Type 0} (p : X → Bool) (xs : List X) (i : ℕ) (d : X) → i < length xs → some p (take (suc i) xs) ≡ (some p (take i xs) || p (get_or xs i d))
some_more p [] i d h = absurd (omega arith)
some_more p (x ∷ xs) zero d h = or-false (p x)
some_more p (x ∷ xs) (suc i) d h =
    ap (λ t. p x || t) (some_more p xs i d (le_of_suc-le-suc h)) ∙ sym (or_assoc (p x) (some p (take i xs)) (p (get_or xs i d)))

-- the holdings after a bucket's last are not of the bucket, so none of them is the right
some_last : (p : HoldingRow → Bool) (hs : List HoldingRow) (b n : ℕ) → n ≤ length hs → ((e : HoldingRow) → p e ≡ true → bucket_of e ≡ b) → some p (take (last_in hs b n) hs) ≡ some p (take n hs)
some_last p hs b zero h own = refl
some_last p hs b (suc n) h own =
    let more = some_more p hs n no_holding (omega arith) in
    let back = some_last p hs b n (omega arith) own in
    let other : eqb (bucket_at hs n) b ≡ false → p (get_or hs n no_holding) ≡ false = λ is. not_own (p (get_or hs n no_holding)) (λ t. eqb-false (bucket_at hs n) b is (own (get_or hs n no_holding) t)) in
    let none : eqb (bucket_at hs n) b ≡ false → some p (take (last_in hs b n) hs) ≡ some p (take (suc n) hs) = λ is. back ∙ sym (more ∙ ap (λ t. some p (take n hs) || t) (other is) ∙ or-false (some p (take n hs))) in
    cond_both (eqb (bucket_at hs n) b) (suc n) (last_in hs b n) (λ m. some p (take m hs) ≡ some p (take (suc n) hs)) (λ is. refl) none

-- a walk for the right at a place, with the first n holdings still to see
pub record Walk (hs : List HoldingRow) (place n : ℕ) : Type 0 where
  pub within : n ≤ place
  pub rest : some (λ e. same_right e (get_or hs place no_holding)) (take n hs) ≡ repeated_at hs place

-- and with the last of these in the bucket of the place
pub record ChainWalk (hs : List HoldingRow) (place n : ℕ) : Type 0 where
  pub walk : Walk hs place n
  pub there : (k : ℕ) → n ≡ suc k → bucket_at hs k ≡ bucket_at hs place

module _ (hs : List HoldingRow) (place : ℕ) (inside : place < length hs) where
  pub walk_start : Walk hs place place
  walk_start = record { within = omega arith; rest = refl }

  -- what the last of the holdings still to see tells of all of them
  rest_more : (n k : ℕ) (t : Bool) → n ≡ suc k → Walk hs place n → same_right (get_or hs k no_holding) (get_or hs place no_holding) ≡ t → (some (λ e. same_right e (get_or hs place no_holding)) (take k hs) || t) ≡ repeated_at hs place
  rest_more n k t is w match =
      let p = λ (e : HoldingRow). same_right e (get_or hs place no_holding) in
      let more = some_more p hs k no_holding (omega (arith, w.within)) in
      sym (ap (λ m. some p (take m hs)) is ∙ more ∙ ap (λ u. some p (take k hs) || u) match) ∙ w.rest

  pub walk_on : (n k : ℕ) → n ≡ suc k → Walk hs place n → same_right (get_or hs k no_holding) (get_or hs place no_holding) ≡ false → Walk hs place k
  walk_on n k is w other =
      record { within = omega (arith, w.within); rest = sym (or-false (some (λ e. same_right e (get_or hs place no_holding)) (take k hs))) ∙ rest_more n k false is w other }

  -- on to the last of the bucket among those that are left
  pub to_last : (b n link : ℕ) → Walk hs place n → b ≡ bucket_at hs place → link ≡ last_in hs b n → ChainWalk hs place link
  to_last b n link w own is =
      let p = λ (e : HoldingRow). same_right e (get_or hs place no_holding) in
      let back : (e : HoldingRow) → p e ≡ true → bucket_of e ≡ b = λ e s. same_bucket e (get_or hs place no_holding) s ∙ sym own in
      record { walk = record { within = omega (arith, w.within, last_within hs b n); rest = ap (λ m. some p (take m hs)) is ∙ some_last p hs b n (omega (arith, w.within)) back ∙ w.rest }; there = λ k e. last_there hs b n k (sym is ∙ e) ∙ own }
