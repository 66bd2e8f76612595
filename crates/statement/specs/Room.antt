-- Room for a text, which is known without counting the text where the longest of its kind has room.
use Rattle.std.specs.Prelude.{ℕ, ◌≤◌, ◌⊎◌}

abbrev pub Room : ℕ → ℕ → ℕ → Type 0
Room room longest long = (longest ≤ room) ⊎ (long ≤ room)
