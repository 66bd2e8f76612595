use Rattle.std.proofs.Common.{ℕ, List, sym, subst, arith}
use Rattle.buffer.specs.Appends.{Appends}
use Rattle.buffer.proofs.Joins.{appended}
use Rattle.statement.proofs.Groups.{last_four, last_four_long}
use Rattle.statement.proofs.digits.+put_long.Goals as goal

pub put_long-requires : goal.put_long-requires
put_long-requires t c = omega (arith, c.requires, last_four_long c.args.n (omega arith) (omega arith))

pub put_four-requires-clause-room : goal.put_four-requires-clause-room
put_four-requires-clause-room t c = omega (arith, c.requires, c.put_long.ensures.wrote.end, c.put_long.ensures.wrote.len, last_four_long c.args.n (omega arith) (omega arith))

pub returns-else-n-lt100000000 : goal.returns-else-n-lt100000000
returns-else-n-lt100000000 t c =
    subst (λ (ds : List ℕ). Appends c.args.out.now ds c.put_four.new.out) (sym (last_four c.args.n (omega arith) (omega arith)))
    (appended _ _ _ _ _ c.put_long.ensures c.put_four.ensures)
