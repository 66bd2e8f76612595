-- Records whose fields are read as rows.
use Rattle.std.specs.Prelude.{◌≡◌, ℕ, ◌<◌, List, map, length, Some, None, Option, ◌≢◌}
use Rattle.std.specs.Borrow.{Bor}
use Rattle.codec.specs.Records.{Placed, placed_at, encode_placed}
use Rattle.records.specs.Frames.{One, frame_of}
use Rattle.format.specs.Hours.{records_of}

-- fields, with the row that is read of them
pub record Spelt (X : Type 0) : Type 0 where
  pub fields : List ℕ
  pub row : X

abbrev pub IsRead : {X : Type 0} → (List ℕ → Option X) → Spelt X → Type 0
IsRead row k = (length k.fields < 65535) × (row k.fields ≡ Some k.row)

abbrev pub records : {X : Type 0} → ℕ → List (Spelt X) → List ℕ
records letter ks = records_of letter (λ k. k.fields) ks

abbrev pub rows_of : {X : Type 0} → List (Spelt X) → List X
rows_of ks = map (λ k. k.row) ks

-- the fields of the record that comes next, and what follows it
abbrev pub NextFields : Option (Bor (List ℕ)) → List ℕ → List ℕ → Type 0
NextFields None bs left = (l : ℕ) (f rest : List ℕ) → frame_of bs ≢ One l f rest
NextFields (Some f) bs left = (l : ℕ) × (frame_of bs ≡ One l f.now left)

-- a point's record with so many shift factors
abbrev pub IsPlaced : ℕ → Placed → Type 0
IsPlaced n x = (length (encode_placed x) < 65535) × (placed_at (encode_placed x) ≡ x) × (length x.factors ≡ n)
