use Rattle.std.proofs.Common.{refl}
use Rattle.short_month.proofs.Whole.{two_hours}
use Rattle.short_month.proofs.settle_two_hours.Goals as goal

pub returns : goal.returns
returns g c =
    let keeps = g.met.I.Instrument.rules c.args.instrument.now in
    two_hours _ refl _ _ c.in_ok-m.ensures.runs _ _ keeps keeps _ _ _ _ _ _ _ _ _ _ _ _ _ _ _ c.in_ok-post.ensures c.in_ok-post-2.ensures c.in_ok-m-2.ensures c.in_ok-closed.ensures
