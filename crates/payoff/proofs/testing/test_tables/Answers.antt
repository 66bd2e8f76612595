use Rattle.std.proofs.Common.{◌≡◌, true, false, sym, rules}
use Rattle.payoff.specs.Plain.{plain_tables}
use Rattle.payoff.specs.Tables.{sizes_ok, tables_test}
use Rattle.payoff.proofs.testing.test_tables.Goals as goal

pub returns-then-tables-gt256 : goal.returns-then-tables-gt256
unfolding tables_test sizes_ok
returns-then-tables-gt256 c =
    let e : sizes_ok (plain_tables c.args.tables.now) ≡ false = search rules in
    rw (e, c.at.ensures.cause, c.at.ensures.place)

pub returns-in-Some : goal.returns-in-Some
unfolding tables_test sizes_ok
returns-in-Some c =
    let e : sizes_ok (plain_tables c.args.tables.now) ≡ true = search rules in
    rw (e, sym c.in-Some.ensures, c.at-in-Some.ensures.cause, c.at-in-Some.ensures.place)

pub invariant_of-result : goal.invariant_of-result
unfolding tables_test sizes_ok
invariant_of-result c =
    let e : sizes_ok (plain_tables c.args.tables.now) ≡ true = search rules in
    record { passed = rw (e, sym c.in_default.ensures) }
