use Rattle.buffer.proofs.Joins.{appended}
use Rattle.statement.proofs.numbers.put_count.Goals as goal

pub returns : goal.returns
returns c = appended _ _ _ _ _ c.put_word.ensures c.put_eight.ensures
