use Rattle.std.proofs.Common.{map, sym, ap, ◌∙◌}
use Rattle.codec.proofs.Pairs.{factor_of, factors_joined, factors_pairs}
use Rattle.codec.proofs.factors.factors_sound.Goals as goal

pub returns : goal.returns
returns c =
    let e = factors_pairs c.args.bytes.now ∙ ap (map factor_of) (sym c.as_chunks.ensures.front) in
    factors_joined c.pairs_sound.result _ _ e c.pairs_sound.ensures
