use Rattle.std.proofs.Common.{rules}
use Rattle.month_text.specs.Lines.{booked_head}
use Rattle.month_text.proofs.hour_lines.push_head.Goals as goal

pub returns : goal.returns
unfolding booked_head
returns c = search rules
