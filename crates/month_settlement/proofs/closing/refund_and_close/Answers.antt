use Rattle.std.proofs.Common.{refl}
use Rattle.std.proofs.lemmas.Result.{err_from_is_err_and}
use Rattle.month_settlement.specs.Running.{no_refund, no_close}
use Rattle.month_settlement.proofs.closing.refund_and_close.Goals as goal

pub returns-in_err-refunded : goal.returns-in_err-refunded
returns-in_err-refunded c =
    let p = err_from_is_err_and c.from_residual.result c.from_residual.ensures.1 in
    rw (p.1, p.2) (no_refund _ _ c.in_err-refunded.ensures refl)

pub returns-in_err-close : goal.returns-in_err-close
returns-in_err-close c =
    let p = err_from_is_err_and c.from_residual-in_err-close.result c.from_residual-in_err-close.ensures.1 in
    rw (p.1, p.2) (no_close _ _ _ c.in_ok-refunded.ensures c.in_err-close.ensures)
