use Rattle.std.proofs.Common.{ℕ, ◌^◌, leb, get_or, pos, ◌+ℤ◌, ◌<ℤ◌, sym, ap, ◌∙◌, arith}
use Rattle.std.proofs.lemmas.Bool.{and_parts}
use Rattle.sharing.specs.Shares.{share_of}
use Rattle.ledger.specs.declared.lines.LoadLine.{LoadLine}
use Rattle.ledger.specs.Lines.{clear_load, paid_out}
use Rattle.ledger.specs.Calls.{load_ok, paid_line, mwh_in}
use Rattle.month.specs.Months.{of_refunded}
use Rattle.ledger.proofs.Closable.{each_of, closable}
use Rattle.month.proofs.Rooms.{within_room, by_rule, load_le}
use Rattle.month.proofs.state.RefundedMonth.close.Goals as goal

pub share-requires : goal.share-requires
share-requires c =
    let f = of_refunded c.args.self in
    let loads = c.args.loads.now in
    let p = closable f c.args.roll.now loads c.in_default.ensures in
    let rest = c.args.self.balance in
    record {
      small = (omega arith, omega (arith, c.load_total-total.ensures, load_le loads p.sound, p.few));
      zero = λ z. p.load (sym c.load_total-total.ensures ∙ z);
      weighed = sym c.load_total-total.ensures;
      room = each_of (λ (x : LoadLine). (x.paid.value +ℤ pos rest) <ℤ pos (2 ^ 63)) load_ok (λ x e. within_room 0 rest x.paid.value (and_parts (leb x.mwh 40000000) _ e).1 (omega arith)) loads p.sound;
    }

pub returns : goal.returns
returns c =
    let f = of_refunded c.args.self in
    let loads = c.args.loads.now in
    record {
      tests = c.in_default.ensures;
      month_after = c.paid_out.ensures;
      loads_after = by_rule clear_load loads c.share.new.lines (paid_line f.balance loads) c.share.ensures.kept (λ i h. c.share.ensures.shared clear_load i h ∙ ap (λ (n : ℕ). paid_out (get_or loads i clear_load) (share_of f.balance n (mwh_in loads) i)) c.load_total-total.ensures);
    }
