use Rattle.std.proofs.Common.{◌≡◌, ℕ, ◌<◌, length}
use Rattle.format.specs.Hours.{Hour}
use Rattle.format.specs.Reading.{run}
use Rattle.packages.specs.Counting.{counts, counted}
use Rattle.packages.proofs.rest.test_rest.Given as goal

-- what is left to do, from some hour with the counts so far, is all that was to do
abbrev pub invariant-loop-entry : goal.invariant-loop-entry
invariant-loop-entry l =
    (k : ℕ) (t : Hour) → length l.initial.reader.rest.now < k → counted t ≡ counts 0 0 0
    → (j : ℕ) × (u : Hour) × (length l.reader.rest.now < j) × (counted u ≡ l.seen)
    × (run k l.initial.reader.place t l.initial.reader.rest.now ≡ run j l.reader.place u l.reader.rest.now)

abbrev pub decreases-loop-entry : goal.decreases-loop-entry
decreases-loop-entry l = length l.reader.rest.now
