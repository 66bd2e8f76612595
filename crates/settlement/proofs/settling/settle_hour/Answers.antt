use Rattle.std.proofs.Common.{ℕ, List, length, Result, sym, refl, ap, ◌∙◌}
use Rattle.std.proofs.lemmas.Result.{err_from_is_err_and}
use Rattle.refusals.specs.Numbers.{Told}
use Rattle.rows.specs.Plain.{plain_day}
use Rattle.format.specs.Hours.{tables}
use Rattle.statement.specs.Lines.{length_of, written}
use Rattle.settlement.proofs.Stated.{stated_first, refused_first}
use Rattle.settlement.proofs.settling.settle_hour.Goals as goal

pub returns-in_err-answer : goal.returns-in_err-answer
returns-in_err-answer g c =
    let v = c.args.plain.now in
    let t = tables (plain_day c.args.day.now) v.constraints.now v.points.now v.factors.now c.args.holdings.now in
    let p = err_from_is_err_and c.from_residual-in_err-answer.result c.from_residual-in_err-answer.ensures.1 in
    let e = refused_first (g.I.Instrument.means c.args.instrument.now) t _ _ _ _ _ _ _ (length c.args.out.now) c.in_ok-month.ensures.done.month_after c.in_ok-month.ensures.done.roll_after c.in_err-answer.ensures in
    record { answer = rw (p.1, p.2) (sym (ap length_of e)); buffer = sym (ap (λ (r : Result (List ℕ) Told). written r c.args.out.now) e) }

pub returns : goal.returns
returns g c =
    let v = c.args.plain.now in
    let t = tables (plain_day c.args.day.now) v.constraints.now v.points.now v.factors.now c.args.holdings.now in
    let e = stated_first (g.I.Instrument.means c.args.instrument.now) t _ _ _ _ _ _ _ _ (length c.args.out.now) _ _ c.in_ok-month.ensures.done.month_after c.in_ok-month.ensures.done.roll_after c.in_ok-answer.ensures refl refl c.figures_of.ensures in
    record { answer = c.write_statement.ensures.answer ∙ ap length_of e; buffer = c.write_statement.ensures.buffer ∙ ap (λ (r : Result (List ℕ) Told). written r c.args.out.now) e }
