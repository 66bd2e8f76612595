use Rattle.std.proofs.Common.{ap, ◌∙◌, arith}
use borrow.Author.Differences.{ints}
use Rattle.rows.specs.Plain.{plain_holding}
use Rattle.payoff.specs.Tables.{Ends}
use Rattle.payoff.specs.Prices.{floor_price_of}
use Rattle.payoff.specs.View.{tables_of, plain_pair}
use Rattle.payoff.specs.Laws.{found, floor_at_most}
use Rattle.payoff.proofs.plain.figures_at.Goals as goal

pub deration_price-requires : goal.deration_price-requires
deration_price-requires c = (found (tables_of c.args.hour.now) (plain_holding c.args.holding.now) (plain_pair c.args.pair.now) c.requires).pair

pub invariant_of-result : goal.invariant_of-result
invariant_of-result c = record {
  floor_under = rw c.floor_price.ensures (floor_at_most (plain_pair c.args.pair.now) c.args.target.value);
  deration_low = rw c.deration_price.ensures (omega (arith, ints));
}

pub returns : goal.returns
returns c =
    let f = found (tables_of c.args.hour.now) (plain_holding c.args.holding.now) (plain_pair c.args.pair.now) c.requires in
    let l = c.floor_price.ensures ∙ ap (λ (e : Ends). floor_price_of e c.args.target.value) f.ends in
    rw (c.quantity.ensures, c.deration_price.ensures, l)
