use Rattle.std.proofs.Common.{rules}
use Rattle.month_text.specs.Totals.{out_text}
use Rattle.month_text.proofs.totals.push_out.Goals as goal

pub returns : goal.returns
unfolding out_text
returns c = search rules
