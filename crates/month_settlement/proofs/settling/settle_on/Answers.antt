use Rattle.std.proofs.Common.{length}
use Rattle.std.proofs.lemmas.Result.{err_from_is_err_and}
use Rattle.month_settlement.specs.Books.{bytes_of}
use Rattle.month_settlement.proofs.Turns.{posted_as_lem}
use Rattle.month_settlement.proofs.Ends.{settled_end, refused_end}
use Rattle.month_settlement.proofs.settling.settle_on.Goals as goal

pub returns-in_err-refund_and_close : goal.returns-in_err-refund_and_close
returns-in_err-refund_and_close g c =
    let m = g.I.Instrument.means c.args.instrument.now in
    let n = length c.args.roll.now in
    let st = c.in_ok-month.ensures.runs in
    let all = posted_as_lem m n _ (bytes_of c.args.packages.now) _ _ _ _ _ _ c.open.auto.roll st c.in_ok-post_all.ensures in
    let p = err_from_is_err_and c.from_residual-in_err-refund_and_close.result c.from_residual-in_err-refund_and_close.ensures.1 in
    rw (p.1, p.2) (refused_end m n (bytes_of c.args.packages.now) _ _ _ _ _ _ _ _ _ st c.in_ok-month.ensures.done.tests all c.in_err-refund_and_close.ensures)

pub returns : goal.returns
returns g c =
    let m = g.I.Instrument.means c.args.instrument.now in
    let n = length c.args.roll.now in
    let st = c.in_ok-month.ensures.runs in
    let all = posted_as_lem m n _ (bytes_of c.args.packages.now) _ _ _ _ _ _ c.open.auto.roll st c.in_ok-post_all.ensures in
    settled_end m n (bytes_of c.args.packages.now) _ _ _ _ _ _ _ _ _ _ st c.in_ok-month.ensures.done.tests c.requires all c.in_ok-refund_and_close.ensures
