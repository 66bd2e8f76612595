use Rattle.std.proofs.Common.{sym, ap, ◌∙◌}
use Rattle.rows.specs.Plain.{plain_holding}
use Rattle.payoff.specs.Prices.{refundable}
use Rattle.payoff.specs.View.{tables_of, payoff_of}
use Rattle.payoff.specs.Laws.{found, refund_lost, refund_not, refund_is}
use Rattle.payoff.proofs.refund.RefundInstrument.figures.Goals as goal

pub returns-in_err-pair : goal.returns-in_err-pair
returns-in_err-pair g c =
    let m = g.I.Instrument.means c.args.self.now.0 in
    let t = tables_of c.args.hour.now in
    let h = plain_holding c.args.holding.now in
    rw c.from_residual.ensures (refund_lost m t h (g.met.I.Instrument.rules c.args.self.now.0 t h) c.in_err-pair.ensures)

pub returns-then-not-refundable : goal.returns-then-not-refundable
returns-then-not-refundable g c =
    let t = tables_of c.args.hour.now in
    let h = plain_holding c.args.holding.now in
    let f = found t h _ c.in_ok-pair.ensures in
    refund_not (g.I.Instrument.means c.args.self.now.0) t h (ap refundable (sym f.ends) ∙ sym c.if-not-refundable.ensures)

pub returns : goal.returns
returns g c =
    let t = tables_of c.args.hour.now in
    let h = plain_holding c.args.holding.now in
    let f = found t h _ c.in_ok-pair.ensures in
    refund_is (g.I.Instrument.means c.args.self.now.0) t h (payoff_of c.in_ok-inner.inner) _ (ap refundable (sym f.ends) ∙ sym c.if-not-refundable.ensures) c.in_ok-inner.ensures c.refund_quantity.ensures
