use Rattle.std.proofs.Common.{ℕ, ◌+◌, ◌^◌, ◌<◌, length, ℤ, codes, decimal, ap, subst, arith, w64, SFits}
use Rattle.std.specs.Fmt.{signed_decimal}
use Rattle.std.proofs.lemmas.Int.{to_z-of_z}
use Rattle.buffer.specs.Appends.{Appends, HasRoom}
use Rattle.buffer.specs.declared.output.Output.{Output}
use Rattle.buffer.proofs.Joins.{appended}
use Rattle.statement.specs.Lines.{told, holding_line}
use Rattle.statement.specs.Room.{Room}
use Rattle.statement.proofs.Longs.{holding_long, holding_longest, has_room}
use Rattle.statement.proofs.lines.put_holding.Goals as goal

held : (o : Output) (i w : ℕ) (a : ℤ) → i < 1024 → w < 2 ^ 16 → SFits w64 a → Room (length o.buffer.now) (o.len + 53) (o.len + length (holding_line i w a)) → HasRoom o (24 + length (decimal i) + length (decimal w) + length (signed_decimal a))
held o i w a h k f r = omega (arith, holding_long i w a, has_room (length o.buffer.now) (o.len + 53) (o.len + length (holding_line i w a)) (omega (arith, holding_longest i w a h k f)) r)

pub put_count-requires-clause-room : goal.put_count-requires-clause-room
put_count-requires-clause-room c =
    let r = held c.args.out.now c.args.i c.args.owner c.args.amount c.requires.number (omega arith) c.ranges.amount c.requires.room in
    omega arith

pub put_count-requires-2-clause-room : goal.put_count-requires-2-clause-room
put_count-requires-2-clause-room c =
    let r = held c.args.out.now c.args.i c.args.owner c.args.amount c.requires.number (omega arith) c.ranges.amount c.requires.room in
    omega arith

pub put_told-requires : goal.put_told-requires
put_told-requires c =
    let z = ap (λ a. length (signed_decimal a)) (to_z-of_z w64 c.args.amount c.ranges.amount) in
    let r = held c.args.out.now c.args.i c.args.owner c.args.amount c.requires.number (omega arith) c.ranges.amount c.requires.room in
    omega arith

pub put_word-requires : goal.put_word-requires
put_word-requires c =
    let z = ap (λ a. length (signed_decimal a)) (to_z-of_z w64 c.args.amount c.ranges.amount) in
    let r = held c.args.out.now c.args.i c.args.owner c.args.amount c.requires.number (omega arith) c.ranges.amount c.requires.room in
    omega arith

pub returns : goal.returns
returns c =
    let t = subst (λ (a : ℤ). Appends c.put_count-2.new.out (told (codes " amount ") a) c.put_told.new.out) (to_z-of_z w64 c.args.amount c.ranges.amount) c.put_told.ensures in
    let w = appended _ _ _ _ _ c.put_count.ensures (appended _ _ _ _ _ c.put_count-2.ensures (appended _ _ _ _ _ t c.put_word.ensures)) in
    record { bound = omega (arith, w.wrote.end, holding_longest c.args.i c.args.owner c.args.amount c.requires.number (omega arith) c.ranges.amount); wrote = w }
