use Rattle.std.proofs.Common.{◌++◌, get_or, string_bytes, Result, ap, ◌∙◌}
use Rattle.refusals.specs.Numbers.{Told}
use Rattle.payoff.specs.View.{tables_of}
use Rattle.pricing.specs.Calls.{Priced}
use Rattle.explanation.specs.Lines.{holding_line}
use Rattle.explanation.proofs.Listed.{line_more, line_all}
use Rattle.explanation.proofs.lines.push_lines.Goals as goal

pub loop-place-preserved : goal.loop-place-preserved
loop-place-preserved g c =
    let m = g.I.Instrument.means c.args.instrument.now in
    let t = tables_of c.args.hour.now in
    let i = c.loop-place.place in
    let x = string_bytes c.loop-place.text in
    let h = get_or c.args.holdings.now i _ in
    let e = c.in_ok-push_line.ensures ∙ ap (λ (r : Result Priced Told). x ++ holding_line i h r) c.answer_at-answer.ensures in
    line_more m t c.args.holdings.now i _ x (string_bytes c.push_line.new.text) c.loop-place-test.true e ∙ c.loop-place.invariant

pub returns : goal.returns
returns g c =
    line_all (g.I.Instrument.means c.args.instrument.now) (tables_of c.args.hour.now) c.args.holdings.now c.loop-place.place _ (string_bytes c.loop-place.text) c.loop-place-test.false c.loop-place.invariant
