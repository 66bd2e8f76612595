-- Each letter names its own case, and a typed row seen plain passes its test.
use Rattle.std.proofs.Common.{◌≡◌, ◌≤◌, true, false, ◌&&◌, leb, is_some, Some, None, Option, sym, refl, ap, subst, arith}
use Rattle.std.proofs.lemmas.Bool.Decides.{nat_tests}
use Rattle.rows.specs.declared.letters.InstrumentKind.{InstrumentKind}
use Rattle.rows.specs.declared.letters.InstrumentKind.TheVariants.{Obligation, PtpOption, ObligationWithRefund, OptionWithRefund}
use Rattle.rows.specs.declared.letters.Block.{Block}
use Rattle.rows.specs.declared.letters.Block.TheVariants.{PeakWeekday, PeakWeekend, OffPeak}
use Rattle.rows.specs.declared.plain.HoldingRow.{HoldingRow}
use Rattle.rows.specs.declared.holding.Holding.{Holding}
use Rattle.rows.specs.Letters.{instrument_letter, block_letter, instrument_of, block_of}
use Rattle.rows.specs.Plain.{plain_holding}
use Rattle.rows.specs.Ranges.{holding_ok, quantity_ok, refund_figures_ok}

pub instrument_named : (k : InstrumentKind) → instrument_of (instrument_letter k) ≡ Some k
instrument_named Obligation = refl
instrument_named PtpOption = refl
instrument_named ObligationWithRefund = refl
instrument_named OptionWithRefund = refl

pub block_named : (b : Block) → block_of (block_letter b) ≡ Some b
block_named PeakWeekday = refl
block_named PeakWeekend = refl
block_named OffPeak = refl

passes : (r : HoldingRow) (k : InstrumentKind) (o : Option InstrumentKind) → o ≡ Some k → is_some (block_of r.block) ≡ true → quantity_ok r.quantity ≡ true → r.actual ≤ 800000 → r.real_time ≤ 100000 → refund_figures_ok k r.actual r.real_time ≡ true → elim o [ None ↦ false | Some k ↦ is_some (block_of r.block) && (quantity_ok r.quantity && (leb r.actual 800000 && (leb r.real_time 100000 && refund_figures_ok k r.actual r.real_time))) ] ≡ true
passes r k o e b q a t f =
    let x : leb r.actual 800000 ≡ true = grind (arith, nat_tests) in
    let y : leb r.real_time 100000 ≡ true = grind (arith, nat_tests) in
    subst (λ (o : Option InstrumentKind). elim o [ None ↦ false | Some k ↦ is_some (block_of r.block) && (quantity_ok r.quantity && (leb r.actual 800000 && (leb r.real_time 100000 && refund_figures_ok k r.actual r.real_time))) ] ≡ true) (sym e) (rw (b, q, x, y) f)

pub plain_holding_ok : (h : Holding) → holding_ok (plain_holding h) ≡ true
unfolding holding_ok
plain_holding_ok h =
    let b : is_some (block_of (block_letter h.block)) ≡ true = ap is_some (block_named h.block) in
    let q : quantity_ok h.quantity.value ≡ true = grind (arith, nat_tests) in
    passes (plain_holding h) h.instrument _ (instrument_named h.instrument) b q h.actual.high h.traded h.refund
