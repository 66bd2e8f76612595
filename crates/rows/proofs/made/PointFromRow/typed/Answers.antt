use Rattle.std.proofs.Common.{None, refl, rules}
use Rattle.rows.specs.Plain.{plain_point}
use Rattle.rows.specs.Ranges.{point_ok}
use Rattle.rows.proofs.Rows.{typed, untyped}
use Rattle.rows.proofs.made.PointFromRow.typed.Goals as goal

pub returns-in_err-kind : goal.returns-in_err-kind
unfolding point_ok
returns-in_err-kind c = untyped point_ok plain_point c.args.row.now c.from_residual.result (search rules) (search rules)

pub returns-then-not-price_ok : goal.returns-then-not-price_ok
unfolding point_ok
returns-then-not-price_ok c = untyped point_ok plain_point c.args.row.now None (search rules) refl

pub returns-then-not-resource_prices_ok : goal.returns-then-not-resource_prices_ok
unfolding point_ok
returns-then-not-resource_prices_ok c = untyped point_ok plain_point c.args.row.now None (search rules) refl

pub returns : goal.returns
unfolding point_ok
returns c = typed point_ok c.args.row.now _ (search rules) (search rules)
