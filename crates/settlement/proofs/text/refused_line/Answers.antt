use Rattle.std.proofs.Common.{vec_items, ap, ◌∙◌}
use Rattle.settlement.proofs.text.refused_line.Goals as goal

pub returns : goal.returns
returns c = ap vec_items c.into_bytes.ensures.value ∙ c.in_ok-line.ensures.ok
