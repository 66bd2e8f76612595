use Rattle.std.proofs.Common.{ap, ◌∙◌}
use Rattle.rows.specs.Plain.{plain_holding}
use Rattle.rows.proofs.Named.{plain_holding_ok}
use Rattle.payoff.specs.Prices.{spread}
use Rattle.payoff.specs.Targets.{target_by}
use Rattle.payoff.specs.Instruments.{figures_at}
use Rattle.payoff.specs.View.{tables_of}
use Rattle.payoff.specs.Laws.{found, plainly_lost, plainly_is}
use Rattle.payoff.proofs.plain.plain_figures.Goals as goal

pub returns-in_err-pair : goal.returns-in_err-pair
returns-in_err-pair c =
    rw c.from_residual.ensures (plainly_lost (target_by c.args.rule) (tables_of c.args.hour.now) (plain_holding c.args.holding.now) c.in_err-pair.ensures)

pub returns : goal.returns
returns c =
    let t = tables_of c.args.hour.now in
    let h = plain_holding c.args.holding.now in
    let f = found t h _ c.in_ok-pair.ensures in
    let target = c.target_price-target.ensures ∙ ap (target_by c.args.rule) (c.spread.ensures ∙ ap spread f.ends) in
    plainly_is (target_by c.args.rule) t h _ c.args.hour.now.passed (plain_holding_ok c.args.holding.now) f.pair (c.figures_at.ensures ∙ ap (figures_at t h) target)
