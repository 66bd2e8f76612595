use Rattle.std.proofs.Common.{◌≡◌, None, refl, nat_abs, arith, w64, to_z, rules}
use borrow.Author.Differences.{ints}
use Rattle.rows.specs.Plain.{plain_day}
use Rattle.rows.specs.Ranges.{day_ok}
use Rattle.rows.proofs.Rows.{typed, untyped}
use Rattle.rows.proofs.made_days.DayFromRow.typed.Goals as goal

pub returns-then-not-contains : goal.returns-then-not-contains
unfolding day_ok
returns-then-not-contains c = untyped day_ok plain_day c.args.row.now None (search rules) refl

pub returns : goal.returns
unfolding day_ok
returns c =
    let t : nat_abs (to_z w64 c.args.row.now.rent) ≡ c.args.row.now.rent = omega (arith, ints) in
    typed day_ok c.args.row.now _ (search rules) (rw t)
