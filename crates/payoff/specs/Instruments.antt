-- The meaning of each instrument.
use Rattle.std.specs.Prelude.{ℕ, ◌+◌, ◌*◌, ◌/◌, min, cond, not, ◌&&◌, ℤ, pos, Some, None, ◌==◌, int_lt}
use Rattle.std.specs.Option.{option_map}
use Rattle.rows.specs.declared.plain.HoldingRow.{HoldingRow}
use Rattle.rows.specs.declared.letters.InstrumentKind.TheVariants.{Obligation, PtpOption, ObligationWithRefund, OptionWithRefund}
use Rattle.payoff.specs.declared.letters.LetterSet.{LetterSet}
use Rattle.payoff.specs.declared.target.TargetRule.TheVariants.{Spread, PositiveSpread}
use Rattle.payoff.specs.Tables.{Tables, servable, ends_of}
use Rattle.payoff.specs.Prices.{spread, floor_price_of, refundable, deration_price_of}
use Rattle.payoff.specs.Rules.{Payoff, Meaning}
use Rattle.payoff.specs.Targets.{target_by}
use Rattle.payoff.specs.Letters.{has_letter, no_letters, with_kind}

-- the four figures of a holding at a target price, with the quantity held
abbrev pub figures_at : Tables → HoldingRow → ℤ → Payoff
figures_at t h target = record { quantity = h.quantity; target = target; deration = deration_price_of t h; floor = floor_price_of (ends_of t h) target }

-- a plain instrument, by what it makes of the spread
abbrev pub plainly : (ℤ → ℤ) → Meaning
plainly f t h = cond (servable t h) (Some (figures_at t h (f (spread (ends_of t h))))) None

-- pays or charges the spread
abbrev pub obligation : Meaning
obligation = plainly (target_by Spread)

-- pays the spread where it is positive
abbrev pub ptp_option : Meaning
ptp_option = plainly (target_by PositiveSpread)

-- the quantity that Refund counts: of a payment no more than the part of the actual output that falls to it, beside
-- the Real-Time quantity
abbrev pub refund_quantity : HoldingRow → Payoff → ℕ
refund_quantity h f =
    cond (int_lt (pos 0) f.target && not (f.quantity == 0)) (min f.quantity (h.actual * f.quantity / (f.quantity + h.real_time))) f.quantity

-- the same, of a quantity and a target price by themselves
abbrev pub refund_quantity_of : HoldingRow → ℕ → ℤ → ℕ
refund_quantity_of h q target = cond (int_lt (pos 0) target && not (q == 0)) (min q (h.actual * q / (q + h.real_time))) q

abbrev pub refunded : HoldingRow → Payoff → Payoff
refunded h f = record { quantity = refund_quantity h f; target = f.target; deration = f.deration; floor = f.floor }

-- Refund over any instrument
abbrev pub refund : Meaning → Meaning
refund inner t h = cond (refundable (ends_of t h)) (option_map (refunded h) (inner t h)) None

-- the first of two instruments whose set has the holding's letter
abbrev pub choice : Meaning → LetterSet → Meaning → LetterSet → Meaning
choice first ls second ms t h = cond (has_letter ls h.letter) (first t h) (cond (has_letter ms h.letter) (second t h) None)

-- each letter under its own instrument: B and O plain, b and o with Refund
abbrev pub standard : Meaning
standard =
    choice (choice obligation (with_kind no_letters Obligation) ptp_option (with_kind no_letters PtpOption)) (with_kind (with_kind no_letters Obligation) PtpOption) (choice (refund obligation) (with_kind no_letters ObligationWithRefund) (refund ptp_option) (with_kind no_letters OptionWithRefund)) (with_kind (with_kind no_letters ObligationWithRefund) OptionWithRefund)
