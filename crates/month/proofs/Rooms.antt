-- Lines that have room for a share, and lines with their shares.
use Rattle.std.proofs.Common.{◌≡◌, ℕ, ◌+◌, ◌*◌, ◌^◌, ◌<◌, ◌≤◌, true, ◌&&◌, leb, List, [], ◌∷◌, length, get_or, ℤ, pos, negsuc, ◌+ℤ◌, ◌<ℤ◌, arith}
use borrow.Author.Differences.{ints}
use lib.Signed.{le_z}
use Rattle.std.proofs.lemmas.List.FromFn.{fill_by_all}
use Rattle.std.proofs.lemmas.List.Sums.{sum_by-cons}
use Rattle.std.proofs.lemmas.Bool.{and_parts, leb-true}
use Rattle.ledger.specs.declared.lines.LoadLine.{LoadLine}
use Rattle.ledger.specs.Lines.{lines_of}
use Rattle.ledger.specs.Figures.{every}
use Rattle.ledger.specs.Calls.{load_ok, load_total}

-- a figure within a total has room for a share
pub within_room : (t s : ℕ) (z : ℤ) → (le_z (pos 0) z && le_z z (pos t)) ≡ true → t + s < 2 ^ 63 → (z +ℤ pos s) <ℤ pos (2 ^ 63)
within_room t s (pos n) e h =
    let l : n ≤ t = leb-true n t (and_parts (leb 0 n) (leb n t) e).1 in
    omega (arith, ints)
within_room t s (negsuc n) e h = omega (arith, ints)

-- lines that stand where a rule puts them
pub by_rule : {L : Type 0} (d : L) (xs ys : List L) (line : ℕ → L) → length ys ≡ length xs → ((i : ℕ) → i < length xs → get_or ys i d ≡ line i) → ys ≡ lines_of (length xs) line
by_rule d xs ys line len at = fill_by_all line ys (length xs) d len at

pub load_le : (loads : List LoadLine) → every load_ok loads ≡ true → load_total loads ≤ 40000000 * length loads
load_le [] e = omega arith
load_le (x ∷ xs) e =
    let p = and_parts (load_ok x) (every load_ok xs) e in
    let q = and_parts (leb x.mwh 40000000) _ p.0 in
    omega (arith, sum_by-cons (λ y. y.mwh) x xs, load_le xs p.1, leb-true x.mwh 40000000 q.0)
