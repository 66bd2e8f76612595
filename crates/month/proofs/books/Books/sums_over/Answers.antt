use Rattle.std.proofs.Common.{◌≡◌, true, false, get_or, take, sym, ap, ◌∙◌, arith}
use Rattle.std.proofs.lemmas.List.{at_drop_all, take_all}
use Rattle.std.proofs.lemmas.List.Sums.{sum_by_more}
use Rattle.units.specs.Parts.{positive}
use Rattle.ledger.specs.declared.lines.RollLine.{RollLine}
use Rattle.ledger.specs.Lines.{clear_roll}
use Rattle.ledger.specs.Figures.{every, line_within, column_sum}
use Rattle.month.specs.Months.{of_books}
use Rattle.month.proofs.Columns.{within_le, line_fits, every_step}
use Rattle.month.proofs.books.Books.sums_over.Goals as goal

pub returns-then-not-bounds_line : goal.returns-then-not-bounds_line
returns-then-not-bounds_line c =
    let f = of_books c.args.self.now c.args.refunds 0 0 in
    sym c.loop-x.invariant.0 ∙ every_step (line_within f) c.args.roll.now c.loop-x.x-index clear_roll false c.loop-x-test.true (sym c.if-not-bounds_line.ensures)

pub overflow_add-credits : goal.overflow_add-credits
overflow_add-credits c =
    let x = get_or c.args.roll.now c.loop-x.x-index clear_roll in
    let l = line_fits (of_books c.args.self.now c.args.refunds 0 0) x (sym c.if-not-bounds_line.ensures) in
    omega (arith, within_le c.args.self.now.credits x.credit.value l.credit, c.args.self.now.credited, c.args.self.now.counted, c.args.self.now.month, c.requires.few, c.loop-x-test.true, c.loop-x.invariant.1.1)

pub overflow_add-charges : goal.overflow_add-charges
overflow_add-charges c =
    let x = get_or c.args.roll.now c.loop-x.x-index clear_roll in
    let l = line_fits (of_books c.args.self.now c.args.refunds 0 0) x (sym c.if-not-bounds_line.ensures) in
    omega (arith, within_le c.args.self.now.charges x.charge.value l.charge, c.args.self.now.charged, c.args.self.now.counted, c.args.self.now.month, c.requires.few, c.loop-x-test.true, c.loop-x.invariant.2.1)

pub overflow_add-shorts : goal.overflow_add-shorts
overflow_add-shorts c =
    let x = get_or c.args.roll.now c.loop-x.x-index clear_roll in
    let l = line_fits (of_books c.args.self.now c.args.refunds 0 0) x (sym c.if-not-bounds_line.ensures) in
    omega (arith, within_le c.args.self.now.shorts x.short.value l.short, c.args.self.now.short, c.args.self.now.counted, c.args.self.now.month, c.requires.few, c.loop-x-test.true, c.loop-x.invariant.3.1)

pub overflow_add-repaid : goal.overflow_add-repaid
overflow_add-repaid c =
    let x = get_or c.args.roll.now c.loop-x.x-index clear_roll in
    let l = line_fits (of_books c.args.self.now c.args.refunds 0 0) x (sym c.if-not-bounds_line.ensures) in
    omega (arith, within_le c.args.refunds x.refund.value l.refund, c.requires.small, c.args.self.now.counted, c.args.self.now.month, c.requires.few, c.loop-x-test.true, c.loop-x.invariant.4.1)

pub loop-x-preserved : goal.loop-x-preserved
loop-x-preserved c =
    let f = of_books c.args.self.now c.args.refunds 0 0 in
    let roll = c.args.roll.now in
    let i = c.loop-x.x-index in
    let h = c.loop-x-test.true in
    let x = get_or roll i clear_roll in
    let l = line_fits f x (sym c.if-not-bounds_line.ensures) in
    let b = c.args.self.now in (
      sym (every_step (line_within f) roll i clear_roll true h (sym c.if-not-bounds_line.ensures)) ∙ c.loop-x.invariant.0,
      (omega (arith, sum_by_more (λ (y : RollLine). positive y.credit.value) roll i clear_roll h, c.loop-x.invariant.1.0), omega (arith, within_le f.credits x.credit.value l.credit, b.credited, b.counted, b.month, c.loop-x.invariant.1.1)),
      (omega (arith, sum_by_more (λ (y : RollLine). positive y.charge.value) roll i clear_roll h, c.loop-x.invariant.2.0), omega (arith, within_le f.charges x.charge.value l.charge, b.charged, b.counted, b.month, c.loop-x.invariant.2.1)),
      (omega (arith, sum_by_more (λ (y : RollLine). positive y.short.value) roll i clear_roll h, c.loop-x.invariant.3.0), omega (arith, within_le f.shorts x.short.value l.short, b.short, b.counted, b.month, c.loop-x.invariant.3.1)),
      (omega (arith, sum_by_more (λ (y : RollLine). positive y.refund.value) roll i clear_roll h, c.loop-x.invariant.4.0), omega (arith, within_le f.refunds x.refund.value l.refund, c.requires.small, b.counted, b.month, c.loop-x.invariant.4.1)),
    )

pub returns : goal.returns
returns c =
    let f = of_books c.args.self.now c.args.refunds 0 0 in
    let roll = c.args.roll.now in
    let t : take c.loop-x.x-index roll ≡ roll = take_all c.loop-x.x-index roll c.loop-x-test.false in
    let credits = c.loop-x.invariant.1.0 ∙ ap (column_sum (λ y. y.credit)) t in
    let charges = c.loop-x.invariant.2.0 ∙ ap (column_sum (λ y. y.charge)) t in
    let shorts = c.loop-x.invariant.3.0 ∙ ap (column_sum (λ y. y.short)) t in
    let refunds = c.loop-x.invariant.4.0 ∙ ap (column_sum (λ y. y.refund)) t in
    (sym c.loop-x.invariant.0 ∙ at_drop_all (every (line_within f)) roll c.loop-x.x-index c.loop-x-test.false, (credits, (charges, (shorts, refunds))))
