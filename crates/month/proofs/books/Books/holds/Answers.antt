use Rattle.std.proofs.Common.{◌≡◌, true, ◌&&◌, eqb, length, sym, ap, ◌∙◌, arith}
use Rattle.std.proofs.lemmas.Bool.{eq-eqb, ne_eqb}
use Rattle.ledger.specs.Figures.{every, line_within, column_sum, sums_equal, tied}
use Rattle.month.specs.Months.{of_books}
use Rattle.month.proofs.books.Books.holds.Goals as goal

pub returns-then-roll-self : goal.returns-then-roll-self
unfolding tied
returns-then-roll-self c b p =
    let f = of_books c.args.self.now c.args.refunds 0 0 in
    sym (ap (λ k. k && (every (line_within f) c.args.roll.now && sums_equal f c.args.roll.now)) (ne_eqb (length c.args.roll.now) c.args.self.now.owners c.if-roll-self.true))

pub returns-in_default : goal.returns-in_default
unfolding tied
returns-in_default c b p =
    let f = of_books c.args.self.now c.args.refunds 0 0 in
    let roll = c.args.roll.now in
    let e : eqb (length roll) f.owners ≡ true = eq-eqb _ _ (omega arith) in
    sym (ap (λ k. k && (every (line_within f) roll && sums_equal f roll)) e ∙ ap (λ k. k && sums_equal f roll) c.in_default.ensures)

pub returns : goal.returns
unfolding tied
returns c b p =
    let f = of_books c.args.self.now c.args.refunds 0 0 in
    let roll = c.args.roll.now in
    let e : eqb (length roll) f.owners ≡ true = eq-eqb _ _ (omega arith) in
    let s = c.in-Some.sums in
    let h = c.in-Some.ensures in
    let one = ap (λ k. eqb k f.credits && (eqb s.charges f.charges && (eqb s.shorts f.shorts && eqb s.refunds f.refunds))) h.1.0 in
    let two = ap (λ k. eqb (column_sum (λ y. y.credit) roll) f.credits && (eqb k f.charges && (eqb s.shorts f.shorts && eqb s.refunds f.refunds))) h.1.1.0 in
    let three = ap (λ k. eqb (column_sum (λ y. y.credit) roll) f.credits && (eqb (column_sum (λ y. y.charge) roll) f.charges && (eqb k f.shorts && eqb s.refunds f.refunds))) h.1.1.1.0 in
    let four = ap (λ k. eqb (column_sum (λ y. y.credit) roll) f.credits && (eqb (column_sum (λ y. y.charge) roll) f.charges && (eqb (column_sum (λ y. y.short) roll) f.shorts && eqb k f.refunds))) h.1.1.1.1 in
    c.eq.ensures ∙ one ∙ two ∙ three ∙ four ∙ sym (ap (λ k. k && (every (line_within f) roll && sums_equal f roll)) e ∙ ap (λ k. k && sums_equal f roll) h.0)
