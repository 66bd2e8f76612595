-- What the joined tests of all entries, and the place of one that fails, tell of the first bad entry.
use Rattle.std.proofs.Common.{◌≡◌, ℕ, zero, suc, ◌+◌, ◌<◌, Bool, true, false, cond, not, ◌&&◌, List, [], ◌∷◌, length, get_or, is_some, Some, None, Option, refl, sym, ◌∙◌, le_of_suc-le-suc, arith}
use Rattle.std.specs.Option.{option_map}
use Rattle.std.specs.List.{fold, position, position_or_len}
use Rattle.std.specs.Prelude.{nat_lt}
use Rattle.std.proofs.lemmas.Bool.Decides.{nat_tests}
use Rattle.rows.specs.Firsts.{first_bad}

none_cond : (b : Bool) (o : Option ℕ) → cond b (option_map (λ k. suc k) o) (Some 0) ≡ None → (b ≡ true) × (o ≡ None)
none_cond true None e = (refl, refl)
none_cond true (Some k) e = grind arith
none_cond false o e = grind arith

-- where none is bad, each entry passes
pub none_bad : {X : Type 0} (p : X → Bool) (xs : List X) (i : ℕ) (d : X) → first_bad p xs ≡ None → i < length xs → p (get_or xs i d) ≡ true
none_bad p [] i d e lt = absurd (omega arith)
none_bad p (x ∷ xs) zero d e lt = (none_cond (p x) (first_bad p xs) e).0
none_bad p (x ∷ xs) (suc i) d e lt = none_bad p xs i d (none_cond (p x) (first_bad p xs) e).1 (le_of_suc-le-suc lt)

-- whether none is bad
abbrev sound : {X : Type 0} → (X → Bool) → List X → Bool
sound p xs = not (is_some (first_bad p xs))

none_front : (a b : Bool) (o : Option ℕ) → ((a && b) && not (is_some o)) ≡ (a && not (is_some (cond b (option_map (λ k. suc k) o) (Some 0))))
none_front true true None = refl
none_front true true (Some k) = refl
none_front true false o = refl
none_front false b o = refl

none_left : (a : Bool) → a ≡ (a && true)
none_left true = refl
none_left false = refl

-- all tests joined say whether none is bad
pub joined : {X : Type 0} (p : X → Bool) (a : Bool) (xs : List X) → fold (λ all x. all && p x) a xs ≡ (a && sound p xs)
joined p a [] = none_left a
joined p a (x ∷ xs) = joined p (a && p x) xs ∙ none_front a (p x) (first_bad p xs)

next_place : (b : Bool) (o : Option ℕ) (k n : ℕ) → o ≡ cond (nat_lt k n) (Some k) None → cond b (option_map (λ k. suc k) o) (Some 0) ≡ cond (nat_lt (cond (not (not b)) (1 + k) 0) (suc n)) (Some (cond (not (not b)) (1 + k) 0)) None
next_place true o k n e = grind (arith, nat_tests)
next_place false o k n e = grind (arith, nat_tests)

-- the first that fails is the first bad one
pub failing : {X : Type 0} (p : X → Bool) (xs : List X) → first_bad p xs ≡ position (λ x. not (p x)) xs
failing p [] = refl
failing p (x ∷ xs) = next_place (p x) (first_bad p xs) (position_or_len (λ x. not (p x)) xs) (length xs) (failing p xs)

pub sound_none : (o : Option ℕ) → true ≡ not (is_some o) → None ≡ o
sound_none None e = refl
sound_none (Some k) e = absurd (let z : ◌≡◌ {A = Bool} true false = e in grind arith)

-- where all tests joined pass, there is no bad one
pub none_told : {X : Type 0} (p : X → Bool) (xs : List X) → fold (λ all x. all && p x) true xs ≡ true → None ≡ first_bad p xs
none_told p xs e = sound_none (first_bad p xs) (sym e ∙ joined p true xs)

-- what is told of the first that fails is told of the first bad one
pub place_told : {X : Type 0} (p : X → Bool) (xs : List X) (o : Option ℕ) → o ≡ position (λ x. not (p x)) xs → o ≡ first_bad p xs
place_told p xs o e = e ∙ sym (failing p xs)
