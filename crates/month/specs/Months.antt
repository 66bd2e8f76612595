-- A month seen by its figures, in each of its states.
use Rattle.std.specs.Prelude.{ℕ}
use Rattle.ledger.specs.Figures.{Figures}
use Rattle.month.specs.declared.books.Books.{Books}
use Rattle.month.specs.declared.state.OpenMonth.{OpenMonth}
use Rattle.month.specs.declared.state.RefundedMonth.{RefundedMonth}
use Rattle.month.specs.declared.state.ClosedMonth.{ClosedMonth}
use Rattle.month.specs.declared.told.ClosedFigures.{ClosedFigures}

-- what every month has, with what was refunded, what is left, and what was paid to loads
abbrev pub of_books : Books → (refunds balance payments : ℕ) → Figures
of_books b refunds balance payments =
    record { owners = b.owners; hours = b.hours; last = b.last; rents = b.rents; credits = b.credits; charges = b.charges; shorts = b.shorts; refunds = refunds; balance = balance; payments = payments }

-- nothing is refunded or paid to loads
abbrev pub of_open : OpenMonth → Figures
of_open m = of_books m.books 0 m.balance 0

-- nothing is paid to loads
abbrev pub of_refunded : RefundedMonth → Figures
of_refunded m = of_books m.books m.refunds m.balance 0

-- no balance is left
abbrev pub of_closed : ClosedMonth → Figures
of_closed m = of_books m.books m.refunds 0 m.payments

-- the same, as a closed month is told
abbrev pub of_told : ClosedFigures → Figures
of_told t =
    record { owners = t.owners; hours = t.hours; last = t.last_hour; rents = t.rents; credits = t.credits; charges = t.charges; shorts = t.shortfall_charges; refunds = t.refunds; balance = 0; payments = t.load_payments }
