use Rattle.std.proofs.Common.{rules}
use Rattle.month_text.specs.Totals.{earned_text}
use Rattle.month_text.proofs.totals.push_earned.Goals as goal

pub returns : goal.returns
unfolding earned_text
returns c = search rules
