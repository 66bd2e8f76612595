-- The range of every figure and letter of a row.
use Rattle.std.specs.Prelude.{ℕ, Bool, false, ◌&&◌, ◌||◌, ℤ, pos, neg_ℤ, is_some, Some, None, ◌==◌, int_le, nat_le}
use Rattle.rows.specs.declared.letters.PointKind.{PointKind}
use Rattle.rows.specs.declared.letters.PointKind.TheVariants.{LoadZone, Hub, ResourceNode}
use Rattle.rows.specs.declared.letters.InstrumentKind.{InstrumentKind}
use Rattle.rows.specs.declared.plain.ConstraintRow.{ConstraintRow}
use Rattle.rows.specs.declared.plain.PointRow.{PointRow}
use Rattle.rows.specs.declared.plain.HoldingRow.{HoldingRow}
use Rattle.rows.specs.declared.plain.DayRow.{DayRow}
use Rattle.rows.specs.Letters.{point_of, instrument_of, block_of, has_refund}

abbrev pub between : ℕ → ℕ → ℕ → Bool
between low high n = nat_le low n && nat_le n high

abbrev pub between_z : ℤ → ℤ → ℤ → Bool
between_z low high z = int_le low z && int_le z high

-- a price of a point, in cents per MWh
abbrev pub price_ok : ℤ → Bool
price_ok z = between_z (neg_ℤ (pos 1000000)) (pos 1000000) z

-- a shift factor, in ten-thousandths
abbrev pub factor_ok : ℤ → Bool
factor_ok z = between_z (neg_ℤ (pos 10000)) (pos 10000) z

-- the quantity that a holding has, in tenths of a MW
abbrev pub quantity_ok : ℕ → Bool
quantity_ok q = between 1 100000 q

-- the Minimum and Maximum Resource Price: none but at a Resource Node, and there in order
abbrev pub resource_prices_ok : PointKind → ℤ → ℤ → Bool
resource_prices_ok LoadZone low high = between_z (pos 0) (pos 0) low && between_z (pos 0) (pos 0) high
resource_prices_ok Hub low high = between_z (pos 0) (pos 0) low && between_z (pos 0) (pos 0) high
resource_prices_ok ResourceNode low high = int_le low high

-- actual output and Real-Time quantity: none but with Refund
abbrev pub refund_figures_ok : InstrumentKind → ℕ → ℕ → Bool
refund_figures_ok k actual realTime = has_refund k || (actual == 0 && realTime == 0)

unfoldable pub constraint_ok : ConstraintRow → Bool
constraint_ok r = nat_le r.shadow 1000000 && nat_le r.deration 10000

unfoldable pub point_ok : PointRow → Bool
point_ok r =
    elim (point_of r.letter) [ None ↦ false | Some k ↦ price_ok r.price && (price_ok r.minimum && (price_ok r.maximum && resource_prices_ok k r.minimum r.maximum)) ]

unfoldable pub holding_ok : HoldingRow → Bool
holding_ok r =
    elim (instrument_of r.letter) [ None ↦ false | Some k ↦ is_some (block_of r.block) && (quantity_ok r.quantity && (nat_le r.actual 800000 && (nat_le r.real_time 100000 && refund_figures_ok k r.actual r.real_time))) ]

unfoldable pub day_ok : DayRow → Bool
day_ok r = between 1 744 r.hour && (nat_le r.weekday 6 && (between 1 24 r.ending && nat_le r.rent 3000000000))
