use Rattle.std.proofs.Common.{rules}
use Rattle.explanation.specs.Lines.{prices_text}
use Rattle.explanation.proofs.lines.push_prices.Goals as goal

pub returns : goal.returns
unfolding prices_text
returns c = search rules
