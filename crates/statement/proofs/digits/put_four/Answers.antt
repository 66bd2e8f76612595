use Rattle.buffer.proofs.Joins.{appended}
use Rattle.statement.proofs.digits.put_four.Goals as goal

pub returns : goal.returns
returns c = appended _ _ _ _ _ c.put_pair.ensures c.put_pair-2.ensures
