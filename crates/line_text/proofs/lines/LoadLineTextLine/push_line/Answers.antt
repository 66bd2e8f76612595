use Rattle.std.proofs.Common.{rules}
use Rattle.line_text.specs.Money.{load_text}
use Rattle.line_text.proofs.lines.LoadLineTextLine.push_line.Goals as goal

pub returns : goal.returns
unfolding load_text
returns c = search rules
