use Rattle.std.proofs.Common.{◌≡◌, ℕ, ◌*◌, List, ◌++◌, length, take, drop}
use Rattle.std.specs.List.{AllByRecursion}
use Rattle.codec.specs.Records.{Placed, encode_placed}
use Rattle.format.specs.Hours.{records_of, factors_of}
use Rattle.packages.specs.Filling.{IsPlaced}
use Rattle.packages.proofs.filling.fill_rows.Given as goal

abbrev pub invariant-loop-i : goal.invariant-loop-i
invariant-loop-i l =
    (xs : List Placed) (more : List ℕ) → l.initial.reader.rest.now ≡ records_of 80 encode_placed xs ++ more → length xs ≡ l.points → AllByRecursion (IsPlaced l.columns) xs
    → (l.reader.rest.now ≡ records_of 80 encode_placed (drop l.i xs) ++ more) × (take (l.i * l.columns) l.table ≡ factors_of (take l.i xs))
