-- The largest owner so far, and of all holdings.
use Rattle.std.proofs.Common.{◌≡◌, ℕ, ◌+◌, max, List, [], ◌∷◌, arith}
use Rattle.std.specs.List.{fold}
use Rattle.rows.specs.declared.plain.HoldingRow.{HoldingRow}
use Rattle.hour_explained.specs.Explained.{owners_in}

counted : (n : ℕ) (hs : List HoldingRow) → fold (λ n h. max n (h.owner + 1)) n hs ≡ max n (owners_in hs)
counted n [] = omega arith
counted n (h ∷ hs) = let e = counted (max n (h.owner + 1)) hs in omega arith

pub counted_all : (n : ℕ) (hs : List HoldingRow) → n ≡ fold (λ n h. max n (h.owner + 1)) 0 hs → n ≡ owners_in hs
counted_all n hs e = let c = counted 0 hs in omega arith
