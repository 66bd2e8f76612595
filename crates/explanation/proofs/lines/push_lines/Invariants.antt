use Rattle.std.proofs.Common.{◌≡◌, ◌++◌, drop, string_bytes}
use Rattle.payoff.specs.View.{tables_of}
use Rattle.explanation.specs.Lines.{lines_from}
use Rattle.explanation.proofs.lines.push_lines.Given as goal

abbrev pub invariant-loop-place : goal.invariant-loop-place
invariant-loop-place g l =
    string_bytes l.text ++ lines_from (g.I.Instrument.means l.instrument) (tables_of l.hour) l.place (drop l.place l.holdings) ≡ string_bytes l.initial.text ++ lines_from (g.I.Instrument.means l.instrument) (tables_of l.hour) 0 l.holdings
