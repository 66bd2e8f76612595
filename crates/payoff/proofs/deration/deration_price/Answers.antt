use Rattle.std.proofs.Common.{◌≡◌, ◌+◌, ◌*◌, ◌<◌, ◌≤◌, true, length, pos, ap, ◌∙◌, arith, w16, w32, to_z, of_z}
use borrow.Author.Differences.{ints}
use Rattle.units.specs.Rounding.{round_deration}
use Rattle.rows.specs.declared.holding.Holding.{Holding}
use Rattle.rows.specs.Plain.{plain_holding}
use Rattle.rows.specs.Ranges.{factor_ok}
use Rattle.rows.proofs.Ranges.{factor_range}
use Rattle.payoff.specs.declared.tested.TestedTables.{TestedTables}
use Rattle.payoff.specs.Tables.{pair_ok}
use Rattle.payoff.specs.Prices.{shift_factor, deration_term, sum_to}
use Rattle.payoff.specs.View.{tables_of}
use Rattle.payoff.specs.Passed.{Passed, passed, row_fits, factors_le}
use Rattle.payoff.specs.Terms.{factor_place, sum_to_more, round_le}
use Rattle.payoff.specs.Laws.{placed}
use Rattle.payoff.proofs.deration.deration_price.Goals as goal
use Rattle.payoff.proofs.deration.deration_price.Goals.{After-deration_term-sum, After-deration_cents}

-- the rows of the two points in the table of shift factors
record Rows (v : TestedTables) (h : Holding) : Type 0 where
  tested : Passed (tables_of v)
  source : h.source < length (tables_of v).points
  sink : h.sink < length (tables_of v).points
  source_row : h.source * length (tables_of v).constraints + length (tables_of v).constraints ≤ length (tables_of v).factors
  sink_row : h.sink * length (tables_of v).constraints + length (tables_of v).constraints ≤ length (tables_of v).factors
  few : length (tables_of v).factors ≤ 8192

rows : (v : TestedTables) (h : Holding) → pair_ok (tables_of v) (plain_holding h) ≡ true → Rows v h
rows v h e =
    let w = passed (tables_of v) v.passed in
    let p = placed (tables_of v) (plain_holding h) e in
    record {
      tested = w;
      source = p.source;
      sink = p.sink;
      source_row = row_fits (tables_of v) w h.source p.source;
      sink_row = row_fits (tables_of v) w h.sink p.sink;
      few = factors_le (tables_of v) w;
    }

-- the shift factor of a point on a constraint passes its test
factor_ok_lem : (v : TestedTables) → Passed (tables_of v) → (i c : _) → i < length (tables_of v).points → c < length (tables_of v).constraints → factor_ok (shift_factor (tables_of v) i c) ≡ true
factor_ok_lem v w i c a b = w.factor _ (factor_place (tables_of v) w i c a b)

-- a number read from the table of shift factors
read : (z : _) → factor_ok z ≡ true → to_z w16 (of_z w16 z) ≡ z
read z e = let r = factor_range z e in omega (arith, ints)

pub overflow_mul-source : goal.overflow_mul-source
overflow_mul-source c = let r = rows c.args.hour.now c.args.holding.now c.requires in omega arith

pub overflow_mul-sink : goal.overflow_mul-sink
overflow_mul-sink c = let r = rows c.args.hour.now c.args.holding.now c.requires in omega arith

pub overflow_add-source : goal.overflow_add-source
overflow_add-source c = let r = rows c.args.hour.now c.args.holding.now c.requires in omega arith

pub offset_bounds-hour-source : goal.offset_bounds-hour-source
offset_bounds-hour-source c = let r = rows c.args.hour.now c.args.holding.now c.requires in omega arith

pub bounds-hour-source : goal.bounds-hour-source
bounds-hour-source c = let r = rows c.args.hour.now c.args.holding.now c.requires in omega arith

pub overflow_add-sink : goal.overflow_add-sink
overflow_add-sink c = let r = rows c.args.hour.now c.args.holding.now c.requires in omega arith

pub offset_bounds-hour-sink : goal.offset_bounds-hour-sink
offset_bounds-hour-sink c = let r = rows c.args.hour.now c.args.holding.now c.requires in omega arith

pub bounds-hour-sink : goal.bounds-hour-sink
bounds-hour-sink c = let r = rows c.args.hour.now c.args.holding.now c.requires in omega arith

pub deration_term-sum-requires : goal.deration_term-sum-requires
deration_term-sum-requires c =
    let v = c.args.hour.now in
    let r = rows v c.args.holding.now c.requires in
    let a = factor_ok_lem v r.tested c.args.holding.now.source c.loop-c.c r.source c.loop-c-test.true in
    let b = factor_ok_lem v r.tested c.args.holding.now.sink c.loop-c.c r.sink c.loop-c-test.true in
    record {
      row = r.tested.constraint c.loop-c.c c.loop-c-test.true;
      source = rw (read _ a) a;
      sink = rw (read _ b) b;
    }

-- what a turn adds is the constraint's term
added : (c : After-deration_term-sum) → c.deration_term-sum.result ≡ deration_term (tables_of c.args.hour.now) c.args.holding.now.source c.args.holding.now.sink c.loop-c.c
added c =
    let v = c.args.hour.now in
    let r = rows v c.args.holding.now c.requires in
    let a = factor_ok_lem v r.tested c.args.holding.now.source c.loop-c.c r.source c.loop-c-test.true in
    let b = factor_ok_lem v r.tested c.args.holding.now.sink c.loop-c.c r.sink c.loop-c-test.true in
    rw (read _ a, read _ b) at c.deration_term-sum.ensures.value

pub overflow_add-sum : goal.overflow_add-sum
overflow_add-sum c = let r = rows c.args.hour.now c.args.holding.now c.requires in omega (arith, r.tested.constraints)

pub loop-c-preserved : goal.loop-c-preserved
loop-c-preserved c =
    let m = sum_to_more (deration_term (tables_of c.args.hour.now) c.args.holding.now.source c.args.holding.now.sink) c.loop-c.c in
    (omega (arith, added c), omega arith)

small : (c : After-deration_cents) → c.deration_cents.result ≤ 64000000
small c =
    let r = rows c.args.hour.now c.args.holding.now c.requires in
    let s : c.loop-c.sum ≤ 6400000000000000 = omega (arith, r.tested.constraints) in
    omega (arith, round_le c.loop-c.sum s)

pub overflow_cast-result : goal.overflow_cast-result
overflow_cast-result c = omega (arith, ints, small c)

pub invariant_of-result : goal.invariant_of-result
invariant_of-result c = record { low = omega (arith, ints, small c); high = omega (arith, ints, small c) }

pub returns : goal.returns
returns c =
    let s = small (goal.at.returns c).After-deration_cents in
    let n : c.loop-c.c ≡ length (tables_of c.args.hour.now).constraints = omega arith in
    let e : to_z w32 c.deration_cents.result ≡ pos c.deration_cents.result = omega (arith, ints) in
    let f = sum_to (deration_term (tables_of c.args.hour.now) c.args.holding.now.source c.args.holding.now.sink) in
    e ∙ ap (λ k. pos k) (c.deration_cents.ensures ∙ ap round_deration (c.loop-c.invariant.0 ∙ ap f n))
