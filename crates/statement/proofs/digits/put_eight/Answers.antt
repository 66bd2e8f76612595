use Rattle.std.proofs.Common.{ℕ, List, sym, subst, arith}
use Rattle.buffer.specs.Appends.{Appends}
use Rattle.buffer.proofs.Joins.{appended}
use Rattle.statement.proofs.Groups.{last_four, last_four_long}
use Rattle.statement.proofs.digits.put_eight.Goals as goal

pub put_short-requires-else-n-lt10000-clause-room : goal.put_short-requires-else-n-lt10000-clause-room
put_short-requires-else-n-lt10000-clause-room c = omega (arith, c.requires.room, last_four_long c.args.n c.if-n-lt10000.false (omega arith))

pub put_four-requires-clause-room : goal.put_four-requires-clause-room
put_four-requires-clause-room c = omega (arith, c.requires.room, c.put_short-else-n-lt10000.ensures.wrote.end, c.put_short-else-n-lt10000.ensures.wrote.len, last_four_long c.args.n c.if-n-lt10000.false (omega arith))

pub returns-else-n-lt10000 : goal.returns-else-n-lt10000
returns-else-n-lt10000 c =
    subst (λ (ds : List ℕ). Appends c.args.out.now ds c.put_four.new.out) (sym (last_four c.args.n c.if-n-lt10000.false (omega arith)))
    (appended _ _ _ _ _ c.put_short-else-n-lt10000.ensures c.put_four.ensures)
