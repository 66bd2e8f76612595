use Rattle.std.proofs.Common.{◌≡◌, ℕ, List, ◌++◌, length, take, drop}
use Rattle.codec.specs.Records.{row_of}
use Rattle.std.specs.List.{AllByRecursion}
use Rattle.packages.specs.Filling.{Spelt, IsRead, records, rows_of}
use Rattle.packages.proofs.filling.fill.Given as goal

-- what is left of the records, and the rows of those that are gone
abbrev pub invariant-loop-cell : goal.invariant-loop-cell
invariant-loop-cell g l =
    (letter : ℕ) (ks : List (Spelt g.row.R.Denot)) (more : List ℕ) → l.initial.reader.rest.now ≡ records letter ks ++ more → length ks ≡ length l.initial.table → AllByRecursion (IsRead (row_of g.R.Row.is_len g.R.Row.row_at)) ks
    → (l.reader.rest.now ≡ records letter (drop l.cell-index ks) ++ more) × (take l.cell-index l.table ≡ rows_of (take l.cell-index ks))
