-- The letters of points, instruments and blocks, and what each letter means.
use Rattle.std.specs.Prelude.{ℕ, Bool, true, false, cond, Some, None, Option, ◌==◌}
use Rattle.rows.specs.declared.letters.PointKind.{PointKind}
use Rattle.rows.specs.declared.letters.PointKind.TheVariants.{LoadZone, Hub, ResourceNode}
use Rattle.rows.specs.declared.letters.InstrumentKind.{InstrumentKind}
use Rattle.rows.specs.declared.letters.InstrumentKind.TheVariants.{Obligation, PtpOption, ObligationWithRefund, OptionWithRefund}
use Rattle.rows.specs.declared.letters.Block.{Block}
use Rattle.rows.specs.declared.letters.Block.TheVariants.{PeakWeekday, PeakWeekend, OffPeak}

-- Z, H and R
abbrev pub point_letter : PointKind → ℕ
point_letter LoadZone = 90
point_letter Hub = 72
point_letter ResourceNode = 82

-- B and O, and in lower case the same with Refund
abbrev pub instrument_letter : InstrumentKind → ℕ
instrument_letter Obligation = 66
instrument_letter PtpOption = 79
instrument_letter ObligationWithRefund = 98
instrument_letter OptionWithRefund = 111

-- W, E and N
abbrev pub block_letter : Block → ℕ
block_letter PeakWeekday = 87
block_letter PeakWeekend = 69
block_letter OffPeak = 78

-- x where the letter is its own, else what follows
abbrev pub if_letter : {X : Type 0} → ℕ → (X → ℕ) → X → Option X → Option X
if_letter l letterOf x next = cond (l == letterOf x) (Some x) next

abbrev pub point_of : ℕ → Option PointKind
point_of l = if_letter l point_letter LoadZone (if_letter l point_letter Hub (if_letter l point_letter ResourceNode None))

abbrev pub instrument_of : ℕ → Option InstrumentKind
instrument_of l =
    if_letter l instrument_letter Obligation (if_letter l instrument_letter PtpOption (if_letter l instrument_letter ObligationWithRefund (if_letter l instrument_letter OptionWithRefund None)))

abbrev pub block_of : ℕ → Option Block
block_of l = if_letter l block_letter PeakWeekday (if_letter l block_letter PeakWeekend (if_letter l block_letter OffPeak None))

-- whether an instrument has Refund
abbrev pub has_refund : InstrumentKind → Bool
has_refund Obligation = false
has_refund PtpOption = false
has_refund ObligationWithRefund = true
has_refund OptionWithRefund = true
