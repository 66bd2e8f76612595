-- When two holdings are the same right, and the first place of a list that holds an earlier one's right.
use Rattle.std.specs.Prelude.{◌≡◌, ℕ, ◌<◌, Bool, true, false, ◌&&◌, ◌||◌, List, [], ◌∷◌, length, take, Option, MatchOption, ◌==◌, slice_index_or}
use Rattle.rows.specs.declared.plain.HoldingRow.{HoldingRow}

-- the same right: owner, instrument, source and sink
abbrev pub same_right : HoldingRow → HoldingRow → Bool
same_right e h = e.owner == h.owner && (e.letter == h.letter && (e.source == h.source && e.sink == h.sink))

abbrev pub some : {X : Type 0} → (X → Bool) → List X → Bool
some p [] = false
some p (x ∷ xs) = p x || some p xs

abbrev pub no_holding : HoldingRow
no_holding = record { owner = 0; letter = 0; source = 0; sink = 0; quantity = 0; block = 0; actual = 0; real_time = 0 }

-- whether the holding at a place is the same right as an earlier one
abbrev pub repeated_at : List HoldingRow → ℕ → Bool
repeated_at hs i = some (λ e. same_right e (slice_index_or hs i no_holding)) (take i hs)

-- no place below n repeats
abbrev pub NoneBelow : List HoldingRow → ℕ → Type 0
NoneBelow hs n = (i : ℕ) → i < n → repeated_at hs i ≡ false

-- the first place that repeats, or none
abbrev pub FirstRepeat : List HoldingRow → Option ℕ → Type 0
FirstRepeat hs r = MatchOption r (NoneBelow hs (length hs)) (λ k. (k < length hs) × (repeated_at hs k ≡ true) × NoneBelow hs k)
