use Rattle.std.proofs.Common.{rules}
use Rattle.month_text.specs.Lines.{booked_tail}
use Rattle.month_text.proofs.hour_lines.push_tail.Goals as goal

pub returns : goal.returns
unfolding booked_tail
returns c = search rules
