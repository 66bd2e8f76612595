use Rattle.std.proofs.Common.{length, vec_items}
use Rattle.ledger.specs.Runs.{Stands}
use Rattle.month.specs.Months.{of_open}
use Rattle.month_settlement.specs.Running.{SoFar}
use Rattle.month_settlement.proofs.posting_all.post_all.Given as goal

abbrev pub invariant-loop-package : goal.invariant-loop-package
invariant-loop-package g l =
    Stands (length l.initial.roll) (of_open l.initial.month) l.initial.roll → SoFar (g.I.Instrument.means l.instrument) (length l.initial.roll) l.packages l.package-index (of_open l.initial.month) l.initial.roll (vec_items l.initial.hours) (of_open l.month) l.roll (vec_items l.hours)
