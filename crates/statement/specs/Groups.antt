-- Digits in groups, with the zeros in front.
use Rattle.std.specs.Prelude.{ℕ, ◌+◌, ◌/◌, ◌%◌, List, [], ◌∷◌, ◌++◌}

-- the two digits of a number below 100
abbrev pub pair_of : ℕ → List ℕ
pair_of n = (48 + n / 10) ∷ (48 + n % 10) ∷ []

-- the four of one below 10,000
abbrev pub four_of : ℕ → List ℕ
four_of n = pair_of (n / 100) ++ pair_of (n % 100)
