-- The figures of a month after a call.
use Rattle.std.proofs.Common.{◌≡◌, ℕ, ◌+◌, ◌-◌, min, ap, arith}
use Rattle.ledger.specs.Figures.{Figures}
use Rattle.ledger.specs.Calls.{refund_sum, after_refund}

pub refund_figures : (f : Figures) (k : ℕ) → k ≡ min f.balance f.shorts → f.refunds ≡ 0 → record { owners = f.owners; hours = f.hours; last = f.last; rents = f.rents; credits = f.credits; charges = f.charges; shorts = f.shorts; refunds = k; balance = f.balance - k; payments = f.payments } ≡ after_refund f
refund_figures f k e z =
    let a : k ≡ f.refunds + refund_sum f = omega arith in
    let b : f.balance - k ≡ f.balance - refund_sum f = ap (λ n. f.balance - n) e in
    cc
