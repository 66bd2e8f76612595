use Rattle.std.proofs.Common.{◌<◌, length, arith}
use Rattle.codec.specs.Records.{row_of}
use Rattle.packages.proofs.Nexts.{some_record, some_row, row_stored}
use Rattle.packages.proofs.filling.fill.Goals as goal

pub returns-in_err-next_fields : goal.returns-in_err-next_fields
returns-in_err-next_fields g c = λ l ks more e n a.
    let i = c.loop-cell.invariant l ks more e n a in
    let lt : c.loop-cell.cell-index < length ks = omega (arith, c.loop-cell.auto.table) in
    absurd (some_record (row_of g.R.Row.is_len g.R.Row.row_at) l ks more a c.loop-cell.reader.rest.now c.loop-cell.cell-index lt i.0 c.in_err-next_fields.ensures)

pub returns-in_err-cell : goal.returns-in_err-cell
returns-in_err-cell g c = λ l ks more e n a.
    let i = c.loop-cell.invariant l ks more e n a in
    let lt : c.loop-cell.cell-index < length ks = omega (arith, c.loop-cell.auto.table) in
    let f = c.in_ok-next_fields.ensures in
    absurd (some_row (row_of g.R.Row.is_len g.R.Row.row_at) l ks more a c.loop-cell.reader.rest.now c.loop-cell.cell-index lt i.0 f.0 c.in_ok-next_fields.field-0.now c.next_fields.new.reader.rest.now f.1 c.in_err-cell.ensures)

pub loop-cell-preserved : goal.loop-cell-preserved
loop-cell-preserved g c = λ l ks more e n a.
    let i = c.loop-cell.invariant l ks more e n a in
    let lt : c.loop-cell.cell-index < length ks = omega (arith, c.loop-cell.auto.table) in
    let f = c.in_ok-next_fields.ensures in
    row_stored (row_of g.R.Row.is_len g.R.Row.row_at) l ks more a c.loop-cell.reader.rest.now c.loop-cell.cell-index lt i.0 f.0 c.in_ok-next_fields.field-0.now c.next_fields.new.reader.rest.now c.loop-cell.table c.in_ok-cell.field-0 f.1 c.in_ok-cell.ensures (omega (arith, c.loop-cell.auto.table)) i.1
