use Rattle.std.proofs.Common.{string_bytes, ◌∙◌}
use Rattle.line_text.proofs.Listed.{line_more, line_all}
use Rattle.line_text.proofs.listing.push_lines.Goals as goal

pub loop-place-preserved : goal.loop-place-preserved
loop-place-preserved g c =
    line_more g.L.TextLine.line c.args.entries.now c.loop-place.place c.index-entries-place.result (string_bytes c.loop-place.text) (string_bytes c.push_line.new.text) c.loop-place-test.true c.index-entries-place.is c.in_ok-push_line.ensures ∙ c.loop-place.invariant

pub returns : goal.returns
returns g c =
    line_all g.L.TextLine.line c.args.entries.now c.loop-place.place _ (string_bytes c.loop-place.text) c.loop-place-test.false c.loop-place.invariant
