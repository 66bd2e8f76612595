use Rattle.std.proofs.Common.{◌≡◌, false, leb, length, map, sym, refl, ap, ◌∙◌, arith}
use Rattle.std.proofs.lemmas.List.{length-map}
use borrow.Author.Tests.{lt-leb}
use Rattle.codec.specs.Records.{factors_at}
use Rattle.codec.proofs.Pairs.{factor_of, factors_length, factors_pairs}
use Rattle.codec.proofs.factors.fill_factors.Goals as goal

pub returns-then-table-pairs : goal.returns-then-table-pairs
returns-then-table-pairs c =
    let n = factors_length c.args.bytes.now in
    let m = c.as_chunks.ensures.front_len in
    let b : leb (length (factors_at c.args.bytes.now)) (length c.args.table.now) ≡ false = lt-leb _ _ (omega arith) in
    rw b

pub loop-n-init : goal.loop-n-init
loop-n-init c = (factors_pairs c.args.bytes.now ∙ ap (map factor_of) (sym c.as_chunks.ensures.front), simp length-map (omega arith), refl)
