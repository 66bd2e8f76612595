use Rattle.std.proofs.Common.{◌≡◌, ◌++◌, drop, string_bytes}
use Rattle.line_text.specs.Lines.{lines_by}
use Rattle.line_text.proofs.listing.push_lines.Given as goal

abbrev pub invariant-loop-place : goal.invariant-loop-place
invariant-loop-place g l =
    string_bytes l.text ++ lines_by g.L.TextLine.line l.place (drop l.place l.entries) ≡ string_bytes l.initial.text ++ lines_by g.L.TextLine.line 0 l.entries
