use Rattle.std.proofs.Common.{length, vec_items, sym}
use Rattle.month.specs.Months.{of_open}
use Rattle.month_settlement.proofs.Turns.{so_far_none, so_far_more, so_far_all, booking_as}
use Rattle.month_settlement.proofs.posting_all.post_all.Goals as goal

pub loop-package-init : goal.loop-package-init
loop-package-init g c = λ st. so_far_none (g.I.Instrument.means c.args.instrument.now) (length c.args.roll.now) c.args.packages.now (of_open c.args.month.now) c.args.roll.now (vec_items c.args.hours.now)

pub loop-package-preserved : goal.loop-package-preserved
loop-package-preserved g c = λ st.
    let m = g.I.Instrument.means c.args.instrument.now in
    let n = length c.args.roll.now in
    let b = booking_as m n _ _ _ _ _ _ _ _ (sym c.loop-package.auto.roll) (sym c.as_slice.ensures.value) c.book_hour-outcome.ensures in
    so_far_more m n c.args.packages.now c.loop-package.package-index c.package-item.result (of_open c.args.month.now) (of_open c.loop-package.month) (of_open c.book_hour-outcome.new.month) c.args.roll.now c.loop-package.roll c.book_hour-outcome.new.roll (vec_items c.args.hours.now) (vec_items c.loop-package.hours) (vec_items c.push.new.self) c.book_hour-outcome.result st (g.met.I.Instrument.rules c.args.instrument.now) c.loop-package-test.true c.package-item.is b c.in_ok-push.ensures.items (c.loop-package.invariant st)

pub returns : goal.returns
returns g c = λ st.
    so_far_all (g.I.Instrument.means c.args.instrument.now) (length c.args.roll.now) c.args.packages.now c.loop-package.package-index (of_open c.args.month.now) (of_open c.loop-package.month) c.args.roll.now c.loop-package.roll (vec_items c.args.hours.now) (vec_items c.loop-package.hours) c.loop-package-test.false (c.loop-package.invariant st)
