use Rattle.std.proofs.Common.{◌≡◌, None, refl, nat_abs, arith, w16, w32, to_z, rules}
use borrow.Author.Differences.{ints}
use Rattle.rows.specs.Plain.{plain_constraint}
use Rattle.rows.specs.Ranges.{constraint_ok}
use Rattle.rows.proofs.Rows.{typed, untyped}
use Rattle.rows.proofs.made.ConstraintFromRow.typed.Goals as goal

pub returns-then-row-gt1000000 : goal.returns-then-row-gt1000000
unfolding constraint_ok
returns-then-row-gt1000000 c = untyped constraint_ok plain_constraint c.args.row.now None (search rules) refl

pub returns : goal.returns
unfolding constraint_ok
returns c =
    let s : nat_abs (to_z w32 c.args.row.now.shadow) ≡ c.args.row.now.shadow = omega (arith, ints) in
    let d : nat_abs (to_z w16 c.args.row.now.deration) ≡ c.args.row.now.deration = omega (arith, ints) in
    typed constraint_ok c.args.row.now _ (search rules) (rw (s, d))
