use Rattle.std.proofs.Common.{Err, sym, ap, ◌∙◌}
use Rattle.std.proofs.lemmas.Result.{err_from_is_err_and}
use Rattle.refusals.specs.Numbers.{told}
use Rattle.codec.specs.Records.{decode_point}
use Rattle.packages.proofs.Counted.{unseen_err, unseen_ok, admitted}
use Rattle.packages.proofs.rest.take_point.Goals as goal

pub returns-in_err-read_point : goal.returns-in_err-read_point
returns-in_err-read_point c =
    let p = err_from_is_err_and c.from_residual-in_err-read_point.result c.from_residual-in_err-read_point.ensures.1 in
    rw p.1 (ap (λ e. Err (told e)) p.2
    ∙ unseen_err (λ x. x.point) _ (decode_point c.args.place c.args.seen.now.constraints c.args.fields.now) _ c.in_err-read_point.ensures
    ∙ sym (admitted c.args.place _ _ _ _ c.in_ok-admit.ensures))

pub returns : goal.returns
returns c =
    unseen_ok (λ x. x.point) _ (decode_point c.args.place c.args.seen.now.constraints c.args.fields.now) _ c.in_ok-read_point.ensures
    ∙ sym (admitted c.args.place _ _ _ _ c.in_ok-admit.ensures)
