use Rattle.std.proofs.Common.{◌≡◌, ℕ, ◌^◌, cond, get_or, pos, ◌+ℤ◌, ◌<ℤ◌, Some, None, sym, refl, ap, ◌∙◌, arith}
use Rattle.refusals.specs.Numbers.{refused_at}
use Rattle.sharing.specs.Shares.{share_of}
use Rattle.ledger.specs.declared.lines.RollLine.{RollLine}
use Rattle.ledger.specs.Lines.{clear_roll, refunded}
use Rattle.ledger.specs.Figures.{line_within}
use Rattle.ledger.specs.Calls.{refunded_line, short_in}
use Rattle.month.specs.Months.{of_open}
use Rattle.month.proofs.Columns.{tied_true, line_fits}
use Rattle.ledger.proofs.Closable.{each_of}
use Rattle.month.proofs.Rooms.{within_room, by_rule}
use Rattle.month.proofs.Moves.{refund_figures}
use Rattle.month.proofs.state.OpenMonth.refund.Goals as goal

pub share-requires : goal.share-requires
share-requires c =
    let f = of_open c.args.self in
    let roll = c.args.roll.now in
    let t = tied_true f roll (sym (c.if-not-holds.ensures _ _)) in
    let s = c.refund_sum-refunds.result in
    record {
      small = (omega arith, omega arith);
      zero = λ z. omega arith;
      weighed = t.shorts;
      room = each_of (λ (x : RollLine). (x.refund.value +ℤ pos s) <ℤ pos (2 ^ 63)) (line_within f) (λ x e. within_room 0 s x.refund.value (line_fits f x e).refund (omega arith)) roll t.lines;
    }

pub returns : goal.returns
returns c =
    let f = of_open c.args.self in
    let roll = c.args.roll.now in
    let k : c.refund_sum-refunds.result ≡ _ = c.refund_sum-refunds.ensures in
    record {
      tests = ap (λ b. cond b None (Some (refused_at 22 0))) (sym (c.if-not-holds.ensures _ _));
      month_after = refund_figures f c.refund_sum-refunds.result k refl;
      roll_after = by_rule clear_roll roll c.share.new.lines (refunded_line f roll) c.share.ensures.kept (λ i h. c.share.ensures.shared clear_roll i h ∙ ap (λ (n : ℕ). refunded (get_or roll i clear_roll) (share_of n f.shorts (short_in roll) i)) k);
    }
