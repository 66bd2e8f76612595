use Rattle.buffer.proofs.Joins.{appended}
use Rattle.statement.proofs.lines.put_hour.Goals as goal

pub returns : goal.returns
returns c = appended _ _ _ _ _ c.put_count.ensures (appended _ _ _ _ _ c.put_told.ensures (appended _ _ _ _ _ c.put_told-2.ensures (appended _ _ _ _ _ c.put_told-3.ensures (appended _ _ _ _ _ c.put_told-4.ensures (appended _ _ _ _ _ c.put_told-5.ensures c.put_word.ensures)))))
