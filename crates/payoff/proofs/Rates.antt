-- What a holding is paid by, where its four figures are not all worked out.
use Rattle.std.proofs.Common.{◌≡◌, ℕ, true, ℤ, pos, ◌-ℤ◌, ◌≤ℤ◌, Some, None, Option, ap, arith}
use borrow.Author.Differences.{ints}
use Rattle.std.specs.Int.{int_max}
use Rattle.std.specs.Option.{option_map}
use Rattle.std.proofs.lemmas.Int.{clamps}
use Rattle.rows.specs.declared.plain.HoldingRow.{HoldingRow}
use Rattle.rows.specs.Ranges.{holding_ok}
use Rattle.payoff.specs.Tables.{Tables, tables_ok, pair_ok, ends_of}
use Rattle.payoff.specs.Prices.{spread, refundable}
use Rattle.payoff.specs.Rules.{Payoff, Meaning}
use Rattle.payoff.specs.Payments.{payment_price, Rate, rate_of}
use Rattle.payoff.specs.Instruments.{figures_at, plainly, refund_quantity_of, refunded, refund}
use Rattle.payoff.specs.Laws.{plainly_is}

-- a floor price that is the target price is what is paid, whatever the deration
pub floor_pays : (target deration floor : ℤ) → pos 0 ≤ℤ deration → floor ≡ target → target ≡ int_max (target -ℤ deration) floor
floor_pays target deration floor low e = omega (arith, ints, clamps)

-- a plain instrument pays by its target price
pub plainly_rate : (f : ℤ → ℤ) (t : Tables) (h : HoldingRow) (q : ℕ) (target price : ℤ) → tables_ok t ≡ true → holding_ok h ≡ true → pair_ok t h ≡ true → q ≡ h.quantity → target ≡ f (spread (ends_of t h)) → price ≡ payment_price (figures_at t h target) → Some record { quantity = q; target = target; price = price } ≡ option_map rate_of (plainly f t h)
plainly_rate f t h q target price a b p held e paid =
    rw (held, paid) (ap (option_map rate_of) (plainly_is f t h (figures_at t h target) a b p (ap (figures_at t h) e)))

refunded_by : (h : HoldingRow) (o : Option Payoff) (p : Rate) → Some p ≡ option_map rate_of o → Some record { quantity = refund_quantity_of h p.quantity p.target; target = p.target; price = p.price } ≡ option_map rate_of (option_map (refunded h) o)
refunded_by h (Some f) p s = let e : p ≡ rate_of f = cc in rw e
refunded_by h None p s = grind arith

-- Refund keeps the price that is paid
pub refund_rate : (m : Meaning) (t : Tables) (h : HoldingRow) (p : Rate) (q : ℕ) → refundable (ends_of t h) ≡ true → Some p ≡ option_map rate_of (m t h) → q ≡ refund_quantity_of h p.quantity p.target → Some record { quantity = q; target = p.target; price = p.price } ≡ option_map rate_of (refund m t h)
refund_rate m t h p q e s r = rw (e, r) (refunded_by h (m t h) p s)
