use Rattle.std.proofs.Common.{ℤ, subst, w64, SFits, rules}
use Rattle.std.specs.Fmt.{signed_decimal}
use Rattle.std.proofs.lemmas.Int.{to_z-of_z}
use Rattle.buffer.specs.Appends.{Appends}
use Rattle.buffer.proofs.Joins.{appended}
use Rattle.statement.proofs.numbers.put_told.Goals as goal

pub returns : goal.returns
returns c =
    let f : SFits w64 c.args.n.now = search rules in
    appended _ _ _ _ _ c.put_word.ensures
    (subst (λ (a : ℤ). Appends c.put_word.new.out (signed_decimal a) c.put_signed.new.out) (to_z-of_z w64 c.args.n.now f) c.put_signed.ensures)
