use Rattle.std.proofs.Common.{◌≡◌, ◌*◌, ◌≤◌, ◌-ℤ◌, ap, arith}
use borrow.Author.Differences.{ints}
use Rattle.units.specs.Parts.{positive}
use Rattle.units.proofs.Positive.{positive_is}
use Rattle.rows.proofs.Ranges.{constraint_range}
use Rattle.payoff.specs.Terms.{gap_le, product_le}
use Rattle.payoff.proofs.deration.deration_term.Goals as goal
use Rattle.payoff.proofs.deration.deration_term.Goals.{After-factor_gap}

gap : (c : After-factor_gap) → c.factor_gap.result ≡ positive (c.args.source -ℤ c.args.sink)
gap c = omega (arith, ints, positive_is)

bound : (c : After-factor_gap) → (c.factor_gap.result * c.args.row.now.shadow * c.args.row.now.deration) ≤ 200000000000000
bound c =
    let r = constraint_range c.args.row.now c.requires.row in
    let g = gap_le c.args.source c.args.sink c.requires.source c.requires.sink in
    product_le c.factor_gap.result _ _ (omega (arith, gap c)) r.0 r.1

pub overflow_mul-result-2 : goal.overflow_mul-result-2
overflow_mul-result-2 c = omega (arith, bound (goal.at.overflow_mul-result-2 c).After-factor_gap)

pub returns : goal.returns
returns c = record {
  value = ap (λ n. n * c.args.row.now.shadow * c.args.row.now.deration) (gap (goal.at.returns c).After-factor_gap);
  most = bound (goal.at.returns c).After-factor_gap;
}
