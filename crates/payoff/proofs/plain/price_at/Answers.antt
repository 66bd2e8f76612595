use Rattle.std.proofs.Common.{◌≡◌, ℤ, Some, sym, ap, ◌∙◌, arith}
use borrow.Author.Differences.{ints}
use Rattle.rows.specs.declared.holding.Holding.{Holding}
use Rattle.rows.specs.Plain.{plain_holding}
use Rattle.payoff.specs.declared.tested.TestedTables.{TestedTables}
use Rattle.payoff.specs.declared.pair.Pair.{Pair}
use Rattle.payoff.specs.Tables.{Ends, ends_of}
use Rattle.payoff.specs.Prices.{floor_price_of, deration_price_of}
use Rattle.payoff.specs.View.{tables_of, plain_pair, pair_of}
use Rattle.payoff.specs.Laws.{found, floor_at_most}
use Rattle.payoff.proofs.Rates.{floor_pays}
use Rattle.payoff.proofs.plain.price_at.Goals as goal

-- the floor price of the pair is that of the holding's two ends
floor_is : (v : TestedTables) (h : Holding) (p : Pair) (target floor : ℤ) → Some (plain_pair p) ≡ pair_of (tables_of v) (plain_holding h) → floor ≡ floor_price_of (plain_pair p) target → floor ≡ floor_price_of (ends_of (tables_of v) (plain_holding h)) target
floor_is v h p target floor s e = e ∙ ap (λ (x : Ends). floor_price_of x target) (found (tables_of v) (plain_holding h) (plain_pair p) s).ends

pub returns-then-floor-target : goal.returns-then-floor-target
returns-then-floor-target c =
    let l = floor_is c.args.hour.now c.args.holding.now c.args.pair.now c.args.target.value _ c.requires c.floor_price-floor.ensures in
    let same : c.floor_price-floor.result.value ≡ c.args.target.value = omega (arith, ints) in
    floor_pays c.args.target.value (deration_price_of (tables_of c.args.hour.now) (plain_holding c.args.holding.now)) _ (omega (arith, ints)) (sym l ∙ same)

pub deration_price-requires : goal.deration_price-requires
deration_price-requires c = (found (tables_of c.args.hour.now) (plain_holding c.args.holding.now) (plain_pair c.args.pair.now) c.requires).pair

pub payment_price-requires : goal.payment_price-requires
payment_price-requires c = record {
  under = rw c.floor_price-floor.ensures (floor_at_most (plain_pair c.args.pair.now) c.args.target.value);
  deration = rw c.deration_price.ensures (omega (arith, ints));
}

pub returns : goal.returns
returns c =
    let l = floor_is c.args.hour.now c.args.holding.now c.args.pair.now c.args.target.value _ c.requires c.floor_price-floor.ensures in
    rw (c.payment_price.ensures, c.deration_price.ensures, l)
