use Rattle.std.proofs.Common.{ℕ, List, ◌++◌, get_or, string_bytes, ap, ◌∙◌}
use Rattle.line_text.proofs.Listed.{line_at, line_all}
use Rattle.month_text.specs.Lines.{outcome_text, outcome_line, names_of}
use Rattle.month_text.proofs.hour_lines.push_outcomes.Goals as goal

pub loop-place-preserved : goal.loop-place-preserved
loop-place-preserved c =
    let x = string_bytes c.loop-place.text in
    let h = get_or c.args.hours.now c.loop-place.place _ in
    let e = c.in_ok-push_outcome.ensures ∙ ap (λ (n : List ℕ). x ++ outcome_text n h) c.name_at.ensures in
    line_at (outcome_line (names_of c.args.names.now)) c.args.hours.now c.loop-place.place _ x (string_bytes c.push_outcome.new.text) c.loop-place-test.true e ∙ c.loop-place.invariant

pub returns : goal.returns
returns c =
    line_all (outcome_line (names_of c.args.names.now)) c.args.hours.now c.loop-place.place _ (string_bytes c.loop-place.text) c.loop-place-test.false c.loop-place.invariant
