use Rattle.std.proofs.Common.{Err, Result, ap, ◌∙◌, rules}
use Rattle.std.proofs.lemmas.Result.{err_from_is_err_and}
use Rattle.refusals.specs.Numbers.{Told, told, told_by}
use Rattle.rows.specs.Plain.{plain_day}
use Rattle.packages.specs.Counting.{Seen, seen_in}
use Rattle.packages.proofs.First.{Opened, few, told_good, told_refused}
use Rattle.packages.proofs.testing.test_records.Goals as goal

abbrev refuse : Told → Result Seen Told
refuse e = Err e

pub returns-in_err-seen : goal.returns-in_err-seen
returns-in_err-seen c =
    let o : Opened c.args.bytes.now c.in_ok-first.first.letter c.in_ok-first.first.fields.now c.next.new.self.rest.now (plain_day c.in_ok-day.day) c.next.new.self.place =
    record { bytes = λ i. (c.type_inv.bytes i).fits; frame = search rules; letter = search rules; day = search rules; place = search rules } in
    let p = err_from_is_err_and c.from_residual-in_err-seen.result c.from_residual-in_err-seen.ensures.1 in
    ap (told_by seen_in) p.1 ∙ ap (λ e. refuse (told e)) p.2 ∙ told_refused _ _ _ _ _ _ o (told c.in_err-seen.field-0.0) c.in_err-seen.ensures

pub overflow_mul-result : goal.overflow_mul-result
overflow_mul-result c =
    let o : Opened c.args.bytes.now c.in_ok-first.first.letter c.in_ok-first.first.fields.now c.next.new.self.rest.now (plain_day c.in_ok-day.day) c.next.new.self.place =
    record { bytes = λ i. (c.type_inv.bytes i).fits; frame = search rules; letter = search rules; day = search rules; place = search rules } in
    record { fits = few _ _ _ _ _ _ o c.in_ok-seen.seen c.in_ok-seen.ensures }

pub returns : goal.returns
returns c =
    let o : Opened c.args.bytes.now c.in_ok-first.first.letter c.in_ok-first.first.fields.now c.next.new.self.rest.now (plain_day c.in_ok-day.day) c.next.new.self.place =
    record { bytes = λ i. (c.type_inv.bytes i).fits; frame = search rules; letter = search rules; day = search rules; place = search rules } in
    told_good _ _ _ _ _ _ o c.in_ok-seen.seen c.in_ok-seen.ensures
