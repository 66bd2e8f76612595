use Rattle.std.proofs.Common.{length, refl, ap}
use Rattle.std.proofs.lemmas.Result.{err_from_is_err_and}
use Rattle.rows.specs.declared.plain.DayRow.{DayRow}
use Rattle.hours.specs.Read.{tables_in}
use Rattle.month_settlement.specs.Running.{unread, unposted, posted}
use Rattle.month_settlement.proofs.Fronts.{accepted_in, refused_in_lem}
use Rattle.month_settlement.proofs.booking.book_hour.Goals as goal

pub returns-in_err-read : goal.returns-in_err-read
returns-in_err-read g c =
    let p = err_from_is_err_and c.from_residual.result c.from_residual.ensures.1 in
    rw (p.1, p.2) (unread c.in_err-read.ensures.0 refl refl)

pub returns-in_err-answer : goal.returns-in_err-answer
returns-in_err-answer g c =
    let t = tables_in c.read.new.self in
    let p = err_from_is_err_and c.from_residual-in_err-answer.result c.from_residual-in_err-answer.ensures.1 in
    rw (p.1, p.2) (unposted t _ _ c.in_ok-read.ensures (refused_in_lem (g.I.Instrument.means c.args.instrument.now) (length c.args.roll.now) c.min-owners.result t c.min-owners.ensures c.in_err-answer.ensures))

pub returns : goal.returns
returns g c =
    let t = tables_in c.read.new.self in
    posted t _ _ c.in_ok-read.ensures (ap (λ (d : DayRow). d.hour) c.day.ensures) (accepted_in (g.I.Instrument.means c.args.instrument.now) (length c.args.roll.now) c.min-owners.result t c.min-owners.ensures c.in_ok-answer.ensures)
