use Rattle.std.proofs.Common.{◌≡◌, ◌+◌, ◌*◌, ◌<◌, ◌≤◌, length, take, drop, sym, refl, ◌∙◌, arith}
use Rattle.std.proofs.lemmas.List.{take_rest}
use Rattle.format.specs.Hours.{factors_of}
use Rattle.packages.proofs.Nexts.{some_point, point_row, row_room, row_next, row_put}
use Rattle.packages.proofs.filling.fill_rows.Goals as goal

pub returns-in_err-next_fields : goal.returns-in_err-next_fields
returns-in_err-next_fields c = λ xs more e n a.
    let i = c.loop-i.invariant xs more e n a in
    let lt : c.loop-i.i < length xs = omega arith in
    absurd (some_point c.args.columns xs more a c.loop-i.reader.rest.now c.loop-i.i lt i.0 c.in_err-next_fields.ensures)

pub returns-in_err-get : goal.returns-in_err-get
returns-in_err-get c = λ xs more e n a.
    let i = c.loop-i.invariant xs more e n a in
    let lt : c.loop-i.i < length xs = omega arith in
    let f = c.in_ok-next_fields.ensures in
    let p = point_row c.args.columns xs more a c.loop-i.reader.rest.now c.loop-i.i lt i.0 f.0 c.in_ok-next_fields.field-0.now c.next_fields.new.reader.rest.now f.1 in
    absurd (omega (arith, p.1, c.in_err-get.ensures.lookup))

pub loop-i-preserved : goal.loop-i-preserved
loop-i-preserved c = λ xs more e n a.
    let h : c.loop-i.i * c.args.columns + c.args.columns ≤ length c.loop-i.table = row_room c.loop-i.i c.args.points c.args.columns _ _ c.loop-i-test.true refl (omega (arith, c.loop-i.auto.table, c.requires)) in
    let i = c.loop-i.invariant xs more e n a in
    let lt : c.loop-i.i < length xs = omega arith in
    let f = c.in_ok-next_fields.ensures in
    let p = point_row c.args.columns xs more a c.loop-i.reader.rest.now c.loop-i.i lt i.0 f.0 c.in_ok-next_fields.field-0.now c.next_fields.new.reader.rest.now f.1 in
    let g : c.in_ok-get.field-0.now ≡ drop 13 c.in_ok-next_fields.field-0.now = c.in_ok-get.ensures.lookup.0.2 ∙ take_rest c.in_ok-next_fields.field-0.now 13 in
    let q = row_put c.in_ok-next_fields.field-0.now c.in_ok-get.field-0.now c.loop-i.table c.fill_factors.new.table (factors_of (take c.loop-i.i xs)) (c.loop-i.i * c.args.columns) c.args.columns g c.fill_factors.ensures p.2 h i.1 in
    let w = row_next c.loop-i.i c.args.columns _ refl in
    (p.0, rw (← w) (q ∙ sym p.3))
