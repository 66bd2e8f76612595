-- The prices between the two ends of a holding.
use Rattle.std.specs.Prelude.{ℕ, zero, suc, ◌+◌, ◌*◌, Bool, cond, ◌&&◌, ◌||◌, length, get_or, ℤ, pos, ◌-ℤ◌, ◌==◌, int_lt, slice_index_or}
use Rattle.std.specs.Int.{int_max, int_min}
use Rattle.units.specs.Parts.{positive}
use Rattle.units.specs.Rounding.{round_deration}
use Rattle.rows.specs.declared.plain.PointRow.{PointRow}
use Rattle.rows.specs.declared.plain.HoldingRow.{HoldingRow}
use Rattle.rows.specs.declared.letters.PointKind.{PointKind}
use Rattle.rows.specs.declared.letters.PointKind.TheVariants.{LoadZone, Hub, ResourceNode}
use Rattle.rows.specs.Letters.{point_letter}
use Rattle.payoff.specs.Tables.{Tables, Ends, no_constraint}

abbrev pub is_kind : PointKind → PointRow → Bool
is_kind k p = p.letter == point_letter k

-- the sink's price less the source's
abbrev pub spread : Ends → ℤ
spread e = e.sink.price -ℤ e.source.price

-- what the sink is worth at most: the Maximum Resource Price of a Resource Node, else its price
abbrev pub high_price : PointRow → ℤ
high_price p = cond (is_kind ResourceNode p) p.maximum p.price

-- what the source costs at least: the Minimum Resource Price of a Resource Node, else its price
abbrev pub low_price : PointRow → ℤ
low_price p = cond (is_kind ResourceNode p) p.minimum p.price

abbrev pub hedge_price_of : Ends → ℤ
hedge_price_of e = int_max (high_price e.sink -ℤ low_price e.source) (pos 0)

-- a charge, or a pair without a Resource Node, is never derated; else the hedge price holds the payment up
abbrev pub floor_price_of : Ends → ℤ → ℤ
floor_price_of e target =
    cond (int_lt (pos 0) target && (is_kind ResourceNode e.source || is_kind ResourceNode e.sink)) (int_min target (hedge_price_of e)) target

-- Refund is for a Resource Node that sells to a Load Zone or a Hub
abbrev pub refundable : Ends → Bool
refundable e = is_kind ResourceNode e.source && (is_kind LoadZone e.sink || is_kind Hub e.sink)

-- the sum of f c over each c below n
abbrev pub sum_to : (ℕ → ℕ) → ℕ → ℕ
sum_to f zero = 0
sum_to f (suc n) = sum_to f n + f n

-- the shift factor of a point on a constraint
abbrev pub shift_factor : Tables → ℕ → ℕ → ℤ
shift_factor t point c = slice_index_or t.factors (point * length t.constraints + c) (pos 0)

-- what a constraint adds to the deration: how far the source's factor is above the sink's, times shadow price, times
-- deration factor, in hundred-millionths of a cent per MWh
abbrev pub deration_term : Tables → ℕ → ℕ → ℕ → ℕ
deration_term t source sink c =
    positive (shift_factor t source c -ℤ shift_factor t sink c) * (get_or t.constraints c no_constraint).shadow * (get_or t.constraints c no_constraint).deration

-- summed over every constraint of the hour, and rounded once
abbrev pub deration_price_of : Tables → HoldingRow → ℤ
deration_price_of t h = pos (round_deration (sum_to (deration_term t h.source h.sink) (length t.constraints)))
