use Rattle.std.proofs.Common.{rules}
use Rattle.month_text.specs.Totals.{in_text}
use Rattle.month_text.proofs.totals.push_in.Goals as goal

pub returns : goal.returns
unfolding in_text
returns c = search rules
