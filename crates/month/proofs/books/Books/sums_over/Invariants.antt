use Rattle.std.proofs.Common.{◌≡◌, ◌*◌, ◌^◌, ◌≤◌, take, drop}
use Rattle.ledger.specs.Figures.{every, line_within, column_sum}
use Rattle.month.specs.Months.{of_books}
use Rattle.month.proofs.books.Books.sums_over.Given as goal

abbrev pub invariant-loop-x : goal.invariant-loop-x
invariant-loop-x l =
    let f = of_books l.self l.refunds 0 0 in
    let front = take l.x-index l.roll in
    let most = 2 ^ 56 * l.x-index in
    (every (line_within f) (drop l.x-index l.roll) ≡ every (line_within f) l.roll) × ((l.credits ≡ column_sum (λ x. x.credit) front) × (l.credits ≤ most)) × ((l.charges ≡ column_sum (λ x. x.charge) front) × (l.charges ≤ most)) × ((l.shorts ≡ column_sum (λ x. x.short) front) × (l.shorts ≤ most)) × ((l.repaid ≡ column_sum (λ x. x.refund) front) × (l.repaid ≤ most))
