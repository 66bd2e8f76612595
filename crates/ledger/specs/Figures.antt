-- The figures of a month, and the roll that is its own.
use Rattle.std.specs.Prelude.{ℕ, Bool, true, ◌&&◌, List, [], ◌∷◌, length, pos, sum_by, ◌==◌, int_le}
use Rattle.units.specs.declared.numbers.Cents.{Cents}
use Rattle.units.specs.Parts.{positive}
use Rattle.ledger.specs.declared.lines.RollLine.{RollLine}

-- every figure of a month, in whatever state
pub record Figures : Type 0 where
  pub owners : ℕ
  -- how many hours were posted, and the number of the last; 0 before the first
  pub hours : ℕ
  pub last : ℕ
  pub rents : ℕ
  pub credits : ℕ
  pub charges : ℕ
  -- shortfall charges
  pub shorts : ℕ
  pub refunds : ℕ
  pub balance : ℕ
  -- load payments
  pub payments : ℕ

-- a month of n owners as it is opened
abbrev pub started : ℕ → Figures
started n = record { owners = n; hours = 0; last = 0; rents = 0; credits = 0; charges = 0; shorts = 0; refunds = 0; balance = 0; payments = 0 }

abbrev pub every : {X : Type 0} → (X → Bool) → List X → Bool
every p [] = true
every p (x ∷ xs) = p x && every p xs

-- a figure that is not negative and not above the month's
abbrev pub within : ℕ → Cents → Bool
within total c = int_le (pos 0) c.value && int_le c.value (pos total)

abbrev pub line_within : Figures → RollLine → Bool
line_within f x = within f.credits x.credit && (within f.charges x.charge && (within f.shorts x.short && within f.refunds x.refund))

-- the sum of a figure over the roll, where none is negative
abbrev pub column_sum : (RollLine → Cents) → List RollLine → ℕ
column_sum figure roll = sum_by (λ x. positive (figure x).value) roll

abbrev pub sums_equal : Figures → List RollLine → Bool
sums_equal f roll =
    (column_sum (λ x. x.credit) roll == f.credits) && (column_sum (λ x. x.charge) roll == f.charges && (column_sum (λ x. x.short) roll == f.shorts && column_sum (λ x. x.refund) roll == f.refunds))

-- whether the roll is the month's: its length, each figure, and the sums
unfoldable pub tied : Figures → List RollLine → Bool
tied f roll = length roll == f.owners && (every (line_within f) roll && sums_equal f roll)
