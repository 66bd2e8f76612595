use Rattle.std.proofs.Common.{rules}
use Rattle.month_text.specs.Totals.{repaid_text}
use Rattle.month_text.proofs.totals.push_repaid.Goals as goal

pub returns : goal.returns
unfolding repaid_text
returns c = search rules
