-- Sharing a sum over lines by weight, in whole cents.
use Rattle.std.specs.Prelude.{◌≡◌, ℕ, zero, suc, ◌+◌, ◌-◌, ◌*◌, ◌/◌, ◌<◌, ◌≤◌, List, slice_index_or}

-- the largest sum of money that is shared, and the largest total weight: cents, or MWh
abbrev pub limit : ℕ
limit = 3000000000

-- the sum of w over the lines before line i
abbrev pub up_to : (ℕ → ℕ) → ℕ → ℕ
up_to w zero = 0
up_to w (suc i) = up_to w i + w i

-- the share of line i of the sum s over lines of weights w with the total v: what falls to the lines up to and
-- including it, rounded down, less the same figure for the line before; nothing where nothing weighs
abbrev pub share_of : (s v : ℕ) → (ℕ → ℕ) → ℕ → ℕ
share_of s v w i = s * up_to w (suc i) / v - s * up_to w i / v

-- the weight of line i of a table
abbrev pub weights_of : {L : Type 0} → (L → ℕ) → List L → L → ℕ → ℕ
weights_of weight lines none i = weight (slice_index_or lines i none)

-- what holds of the shares of n lines
pub record Fair (s v : ℕ) (w : ℕ → ℕ) (n : ℕ) : Type 0 where
  -- they add up to the sum
  pub whole : up_to (share_of s v w) n ≡ s
  -- none passes its weight, where the sum is no more than the total
  pub within : s ≤ v → (i : ℕ) → i < n → share_of s v w i ≤ w i
  -- each is less than a cent off its exact share
  pub not_over : 0 < v → (i : ℕ) → i < n → share_of s v w i * v < s * w i + v
  pub not_under : 0 < v → (i : ℕ) → i < n → s * w i < share_of s v w i * v + v
