-- Holdings in chains, by the bucket of their right. A link is a place counted from 1; 0 ends the chain.
use Rattle.std.specs.Prelude.{◌≡◌, ℕ, zero, suc, ◌+◌, ◌*◌, ◌/◌, ◌%◌, ◌^◌, ◌<◌, cond, List, length, ◌==◌, slice_index, slice_index_or}
use Rattle.rows.specs.declared.plain.HoldingRow.{HoldingRow}
use Rattle.rights.specs.Rights.{no_holding}

-- owner, letter, source and sink as one number
abbrev pub packed : HoldingRow → ℕ
packed h = ((h.owner * 2 ^ 8 + h.letter) * 2 ^ 16 + h.source) * 2 ^ 16 + h.sink

-- the highest 10 of the 64 bits of the right times 2^64 over the golden ratio
unfoldable pub bucket_of : HoldingRow → ℕ
bucket_of h = ((packed h * 0x9E3779B97F4A7C15) % 2 ^ 64) / 2 ^ 54

abbrev pub bucket_at : List HoldingRow → ℕ → ℕ
bucket_at hs i = bucket_of (slice_index_or hs i no_holding)

-- the link to the last holding of a bucket among the first n
abbrev pub last_in : List HoldingRow → (bucket : ℕ) → ℕ → ℕ
last_in hs b zero = 0
last_in hs b (suc n) = cond (bucket_at hs n == b) (suc n) (last_in hs b n)

-- each bucket's chain begins at its last holding among the first n, and each of these leads to the one before
pub record Chained (hs : List HoldingRow) (heads next : List ℕ) (n : ℕ) : Type 0 where
  pub buckets : length heads ≡ 1024
  pub links : length next ≡ 1024
  pub begins : (b : ℕ) → b < 1024 → slice_index heads b ≡ last_in hs b n
  pub leads : (a : ℕ) → a < n → slice_index next a ≡ last_in hs (bucket_at hs a) a
