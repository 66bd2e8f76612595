-- The place of the first entry of a table that fails its test.
use Rattle.std.specs.Prelude.{ℕ, suc, Bool, cond, List, [], ◌∷◌, Some, None, Option}
use Rattle.std.specs.Option.{option_map}

abbrev pub first_bad : {X : Type 0} → (X → Bool) → List X → Option ℕ
first_bad p [] = None
first_bad p (x ∷ xs) = cond (p x) (option_map (λ k. suc k) (first_bad p xs)) (Some 0)
