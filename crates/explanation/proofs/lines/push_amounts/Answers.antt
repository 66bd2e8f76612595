use Rattle.std.proofs.Common.{rules}
use Rattle.explanation.specs.Lines.{amounts_text}
use Rattle.explanation.proofs.lines.push_amounts.Goals as goal

pub returns : goal.returns
unfolding amounts_text
returns c = search rules
