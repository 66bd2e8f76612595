use Rattle.std.proofs.Common.{None, refl, rules}
use Rattle.rows.specs.Plain.{plain_holding}
use Rattle.rows.specs.Ranges.{holding_ok}
use Rattle.rows.proofs.Rows.{typed, untyped}
use Rattle.rows.proofs.made_holdings.HoldingFromRow.typed.Goals as goal

pub returns-in_err-instrument : goal.returns-in_err-instrument
unfolding holding_ok
returns-in_err-instrument c = untyped holding_ok plain_holding c.args.row.now c.from_residual.result (search rules) (search rules)

pub returns-in_err-block : goal.returns-in_err-block
unfolding holding_ok
returns-in_err-block c = untyped holding_ok plain_holding c.args.row.now c.from_residual-in_err-block.result (search rules) (search rules)

pub returns-then-not-quantity_ok : goal.returns-then-not-quantity_ok
unfolding holding_ok
returns-then-not-quantity_ok c = untyped holding_ok plain_holding c.args.row.now None (search rules) refl

pub returns-then-row-gt100000 : goal.returns-then-row-gt100000
unfolding holding_ok
returns-then-row-gt100000 c = untyped holding_ok plain_holding c.args.row.now None (search rules) refl

pub returns : goal.returns
unfolding holding_ok
returns c = typed holding_ok c.args.row.now _ (search rules) (search rules)
