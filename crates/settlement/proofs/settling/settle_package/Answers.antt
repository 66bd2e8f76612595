use Rattle.std.proofs.Common.{ℕ, List, length, Result, sym, ap, ◌∙◌}
use Rattle.std.proofs.lemmas.Result.{err_from_is_err_and}
use Rattle.refusals.specs.Numbers.{Told, told}
use Rattle.packages.specs.Counting.{seen_in}
use Rattle.format.specs.Hours.{Tables}
use Rattle.statement.specs.Lines.{length_of, written}
use Rattle.hours.proofs.Fronts.{refused_read, read_slices}
use Rattle.settlement.specs.Settled.{read, within}
use Rattle.settlement.proofs.Printed.{made_fits}
use Rattle.settlement.proofs.settling.settle_package.Goals as goal

pub returns-in_err-hour : goal.returns-in_err-hour
returns-in_err-hour g c =
    let m = g.I.Instrument.means c.args.instrument.now in
    let room = length c.args.out.now in
    let p = err_from_is_err_and c.from_residual.result c.from_residual.ensures.1 in
    let e = ap (λ (r : Result Tables Told). within room (read m r)) (refused_read c.args.bytes.now (told c.in_err-hour.field-0.0) c.in_err-hour.ensures.answer) in
    record { inside = rw p.1 tt; answer = rw (p.1, p.2) (sym (ap length_of e)); buffer = sym (ap (λ (r : Result (List ℕ) Told). written r c.args.out.now) e) }

pub returns : goal.returns
returns g c =
    let a = c.in_ok-hour.ensures in
    let m = g.I.Instrument.means c.args.instrument.now in
    let room = length c.args.out.now in
    let e = ap (λ (r : Result Tables Told). within room (read m r)) (read_slices c.args.bytes.now (seen_in c.in_ok-hour.hour) _ _ _ _ _ _ _ _ a.answer a.constraint_rows a.point_rows a.factor_rows a.holding_rows) in
    let told = c.settle_hour.ensures.answer ∙ ap length_of e in
    record { inside = made_fits room c.settle_hour.result _ told; answer = told; buffer = c.settle_hour.ensures.buffer ∙ ap (λ (r : Result (List ℕ) Told). written r c.args.out.now) e }
