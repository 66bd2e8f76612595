use Rattle.std.proofs.Common.{ℕ, List, length, sym, ap, subst, arith}
use Rattle.std.proofs.lemmas.Fmt.{decimal_digit}
use Rattle.buffer.specs.Appends.{Appends}
use Rattle.buffer.proofs.Joins.{appended}
use Rattle.statement.proofs.Groups.{of_two, of_three, of_four}
use Rattle.statement.proofs.digits.put_short.Goals as goal

pub put_word-requires : goal.put_word-requires
put_word-requires c = omega (arith, c.requires.room, ap length (decimal_digit c.args.n c.if-n-lt10.true))

pub returns-then-n-lt10 : goal.returns-then-n-lt10
returns-then-n-lt10 c = subst (λ (ds : List ℕ). Appends c.args.out.now ds c.put_word.new.out) (sym (decimal_digit c.args.n c.if-n-lt10.true)) c.put_word.ensures

pub put_pair-requires-clause-room : goal.put_pair-requires-clause-room
put_pair-requires-clause-room c = omega (arith, c.requires.room, ap length (of_two c.args.n c.if-n-lt10.false c.if-n-lt100.true))

pub returns-then-n-lt100 : goal.returns-then-n-lt100
returns-then-n-lt100 c = subst (λ (ds : List ℕ). Appends c.args.out.now ds c.put_pair.new.out) (sym (of_two c.args.n c.if-n-lt10.false c.if-n-lt100.true)) c.put_pair.ensures

pub put_word-requires-then-n-lt1000 : goal.put_word-requires-then-n-lt1000
put_word-requires-then-n-lt1000 c = omega (arith, c.requires.room, ap length (of_three c.args.n c.if-n-lt100.false c.if-n-lt1000.true))

pub put_pair-requires-then-n-lt1000-clause-room : goal.put_pair-requires-then-n-lt1000-clause-room
put_pair-requires-then-n-lt1000-clause-room c = omega (arith, c.requires.room, c.put_word-then-n-lt1000.ensures.wrote.end, c.put_word-then-n-lt1000.ensures.wrote.len, ap length (of_three c.args.n c.if-n-lt100.false c.if-n-lt1000.true))

pub returns-then-n-lt1000 : goal.returns-then-n-lt1000
returns-then-n-lt1000 c =
    subst (λ (ds : List ℕ). Appends c.args.out.now ds c.put_pair-then-n-lt1000.new.out) (sym (of_three c.args.n c.if-n-lt100.false c.if-n-lt1000.true))
    (appended _ _ _ _ _ c.put_word-then-n-lt1000.ensures c.put_pair-then-n-lt1000.ensures)

pub put_four-requires-clause-room : goal.put_four-requires-clause-room
put_four-requires-clause-room c = omega (arith, c.requires.room, ap length (of_four c.args.n c.if-n-lt1000.false c.requires.small))

pub returns-else-n-lt1000 : goal.returns-else-n-lt1000
returns-else-n-lt1000 c = subst (λ (ds : List ℕ). Appends c.args.out.now ds c.put_four.new.out) (sym (of_four c.args.n c.if-n-lt1000.false c.requires.small)) c.put_four.ensures
