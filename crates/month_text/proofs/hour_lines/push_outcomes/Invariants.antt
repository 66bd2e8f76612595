use Rattle.std.proofs.Common.{◌≡◌, ◌++◌, drop, string_bytes}
use Rattle.line_text.specs.Lines.{lines_by}
use Rattle.month_text.specs.Lines.{outcome_line, names_of}
use Rattle.month_text.proofs.hour_lines.push_outcomes.Given as goal

abbrev pub invariant-loop-place : goal.invariant-loop-place
invariant-loop-place l =
    string_bytes l.text ++ lines_by (outcome_line (names_of l.names)) l.place (drop l.place l.hours) ≡ string_bytes l.initial.text ++ lines_by (outcome_line (names_of l.names)) 0 l.hours
