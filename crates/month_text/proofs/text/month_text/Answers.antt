use Rattle.std.proofs.Common.{◌≡◌, List, ◌++◌, vec_items, string_bytes, Result, ap, ◌∙◌}
use Rattle.refusals.specs.declared.refusal.Refusal.{Refusal}
use Rattle.ledger.specs.declared.lines.RollLine.{RollLine}
use Rattle.line_text.specs.Lines.{lines_by}
use Rattle.line_text.specs.Money.{owner_text}
use Rattle.month_settlement.specs.declared.outcomes.BookedHour.{BookedHour}
use Rattle.month_text.specs.Lines.{outcome_line, names_of}
use Rattle.month_text.proofs.Whole.{four, front_as}
use Rattle.month_text.proofs.text.month_text.Goals as goal

pub returns : goal.returns
returns c =
    let none = string_bytes c.new-text.result in
    let first = string_bytes c.push_outcomes.new.text in
    let names = names_of c.args.names.now in
    let hours : first ≡ none ++ lines_by (outcome_line names) 0 (vec_items c.args.month.now.hours) = c.in_ok-push_outcomes.ensures ∙ ap (λ (l : List (Result BookedHour Refusal)). none ++ lines_by (outcome_line names) 0 l) c.as_slice.ensures.value in
    let owners = c.in_ok-push_lines.ensures ∙ ap (λ (l : List RollLine). first ++ lines_by owner_text 0 l) (front_as c.min-owners.result _ c.args.month.now.roll c.min-owners.ensures) in
    four none first _ _ _ _ _ _ _ c.new-text.ensures.bytes hours owners c.in_ok-push_lines-2.ensures c.in_ok-push_totals.ensures
