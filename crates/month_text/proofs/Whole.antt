-- Four texts, one appended after the other.
use Rattle.std.proofs.Common.{◌≡◌, ℕ, ◌-◌, List, [], ◌++◌, take, ap, ◌∙◌}
use native.Mathlib.Nat.{sub-zero}
use Rattle.explanation.proofs.Joins.{joined}

pub four : (none t₁ t₂ t₃ t₄ a b c d : List ℕ) → none ≡ [] → t₁ ≡ none ++ a → t₂ ≡ t₁ ++ b → t₃ ≡ t₂ ++ c → t₄ ≡ t₃ ++ d → t₄ ≡ a ++ (b ++ (c ++ d))
four none t₁ t₂ t₃ t₄ a b c d e e₁ e₂ e₃ e₄ =
    joined none t₁ t₄ a (b ++ (c ++ d)) e₁ (joined t₁ t₂ t₄ b (c ++ d) e₂ (joined t₂ t₃ t₄ c d e₃ e₄)) ∙ ap (λ (l : List ℕ). l ++ (a ++ (b ++ (c ++ d)))) e

-- the front of a table, as far as a number that is known by another name
pub front_as : {X : Type 0} (k n : ℕ) (xs : List X) → k ≡ n → take (k - 0) xs ≡ take n xs
front_as k n xs e = ap (λ (i : ℕ). take i xs) (sub-zero k ∙ e)
