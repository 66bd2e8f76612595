-- Lines of the entries of a table.
use Rattle.std.specs.Prelude.{ℕ, suc, List, [], ◌∷◌, ◌++◌}

-- one for each, numbered from i
abbrev pub lines_by : {X : Type 0} → (ℕ → X → List ℕ) → ℕ → List X → List ℕ
lines_by line i [] = []
lines_by line i (x ∷ xs) = line i x ++ lines_by line (suc i) xs
