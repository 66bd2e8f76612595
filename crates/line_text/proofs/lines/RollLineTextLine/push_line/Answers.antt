use Rattle.std.proofs.Common.{rules}
use Rattle.line_text.specs.Money.{owner_text}
use Rattle.line_text.proofs.lines.RollLineTextLine.push_line.Goals as goal

pub returns : goal.returns
unfolding owner_text
returns c = search rules
