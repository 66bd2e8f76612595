use Rattle.std.proofs.lemmas.Result.{err_from_is_err_and}
use Rattle.refusals.specs.Numbers.{told}
use Rattle.hours.specs.Read.{tables_in}
use Rattle.hour_explained.proofs.Sheets.{sheet_posted, sheet_refused}
use Rattle.hour_explained.proofs.owners.first_sheet.Goals as goal

pub returns-in_err-post_hour : goal.returns-in_err-post_hour
returns-in_err-post_hour g c =
    let p = err_from_is_err_and c.from_residual-in_err-post_hour.result c.from_residual-in_err-post_hour.ensures.1 in
    let o = c.in_ok-month.ensures.done in
    rw (p.1, p.2) (sheet_refused (g.I.Instrument.means c.args.instrument.now) (tables_in c.args.hour.now) _ _ _ _ _ _ o.month_after o.roll_after (told c.in_err-post_hour.field-0.0) c.in_err-post_hour.ensures)

pub returns : goal.returns
returns g c =
    let o = c.in_ok-month.ensures.done in
    sheet_posted (g.I.Instrument.means c.args.instrument.now) (tables_in c.args.hour.now) _ _ _ _ _ _ o.month_after o.roll_after _ c.in_ok-post_hour.ensures
