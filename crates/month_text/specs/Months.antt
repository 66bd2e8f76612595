-- A settled month in text.
use Rattle.std.specs.Prelude.{ℕ, List, ◌++◌, Result}
use Rattle.refusals.specs.declared.refusal.Refusal.{Refusal}
use Rattle.ledger.specs.declared.lines.LoadLine.{LoadLine}
use Rattle.ledger.specs.declared.lines.RollLine.{RollLine}
use Rattle.ledger.specs.Figures.{Figures}
use Rattle.line_text.specs.Lines.{lines_by}
use Rattle.line_text.specs.Money.{owner_text, load_text}
use Rattle.month_settlement.specs.declared.outcomes.BookedHour.{BookedHour}
use Rattle.month_text.specs.Lines.{outcome_line}
use Rattle.month_text.specs.Totals.{month_totals}

-- the packages in turn, the owners, the loads, and the totals
abbrev pub month_text : List (List ℕ) → List (Result BookedHour Refusal) → List RollLine → List LoadLine → Figures → List ℕ
month_text names hours roll loads f =
    lines_by (outcome_line names) 0 hours ++ (lines_by owner_text 0 roll ++ (lines_by load_text 0 loads ++ month_totals f))
