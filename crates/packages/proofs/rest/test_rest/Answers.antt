use Rattle.std.proofs.Common.{◌≡◌, ◌+◌, length, Ok, Err, Result, ap, ◌∙◌, rules}
use Rattle.std.proofs.lemmas.Result.{err_from_is_err_and}
use Rattle.refusals.specs.Numbers.{Told, told, told_by, refused_at}
use Rattle.refusals.specs.declared.refusal.Refusal.{Refusal}
use Rattle.records.specs.Frames.{frame_of, One, End}
use Rattle.packages.specs.declared.counts.Counts.{Counts}
use Rattle.packages.specs.Counting.{count_takes}
use Rattle.packages.proofs.Counted.{ended, broken, stepped, stopped}
use Rattle.packages.proofs.rest.test_rest.Goals as goal

abbrev seen : Result Counts Refusal → Result Counts Told
seen r = told_by (λ n. n) r

abbrev refuse : Told → Result Counts Told
refuse e = Err e

pub returns-in_err-entry : goal.returns-in_err-entry
returns-in_err-entry c = λ k t h z.
    let i = c.loop-entry.invariant k t h z in
    let b = c.in_err-entry.ensures in
    let p = err_from_is_err_and c.from_residual.result c.from_residual.ensures.1 in
    let e = broken _ i.0 c.loop-entry.reader.place i.1 c.loop-entry.reader.rest.now c.loop-entry.seen i.2 i.3 i.4 b.0 in
    let x : told p.0 ≡ refused_at 3 c.loop-entry.reader.place = ap told p.2 ∙ b.1 in
    ap seen p.1 ∙ ap refuse x ∙ e

pub returns-in_default : goal.returns-in_default
returns-in_default c = λ k t h z.
    let i = c.loop-entry.invariant k t h z in
    let b : frame_of c.loop-entry.reader.rest.now ≡ End = search rules in
    ended _ i.0 c.loop-entry.reader.place i.1 c.loop-entry.reader.rest.now c.loop-entry.seen i.2 i.3 i.4 b

pub returns-in_err-take_record : goal.returns-in_err-take_record
returns-in_err-take_record c = λ k t h z.
    let i = c.loop-entry.invariant k t h z in
    let p = err_from_is_err_and c.from_residual-in_err-take_record.result c.from_residual-in_err-take_record.ensures.1 in
    let b : frame_of c.loop-entry.reader.rest.now ≡ One c.in-Some.entry.letter c.in-Some.entry.fields.now c.next.new.self.rest.now = search rules in
    let v : count_takes c.loop-entry.reader.place c.loop-entry.seen c.in-Some.entry.letter c.in-Some.entry.fields.now ≡ Err (told c.in_err-take_record.field-0.0) = search rules in
    let e = stopped _ i.0 c.loop-entry.reader.place i.1 c.loop-entry.reader.rest.now c.loop-entry.seen i.2 i.3 i.4 c.in-Some.entry.letter c.in-Some.entry.fields.now c.next.new.self.rest.now (told c.in_err-take_record.field-0.0) b v in
    ap seen p.1 ∙ ap refuse (ap told p.2) ∙ e

pub loop-entry-preserved : goal.loop-entry-preserved
loop-entry-preserved c = λ k t h z.
    let i = c.loop-entry.invariant k t h z in
    let b : frame_of c.loop-entry.reader.rest.now ≡ One c.in-Some.entry.letter c.in-Some.entry.fields.now c.next.new.self.rest.now = search rules in
    let q : c.next.new.self.place ≡ c.loop-entry.reader.place + 1 = search rules in
    let n : length c.next.new.self.rest.now + length c.in-Some.entry.fields.now + 3 ≡ length c.loop-entry.reader.rest.now = search rules in
    let v : count_takes c.loop-entry.reader.place c.loop-entry.seen c.in-Some.entry.letter c.in-Some.entry.fields.now ≡ Ok c.take_record.new.seen = search rules in
    stepped _ i.0 c.loop-entry.reader.place i.1 c.loop-entry.reader.rest.now c.loop-entry.seen i.2 i.3 i.4 c.next.new.self.place c.in-Some.entry.letter c.in-Some.entry.fields.now c.next.new.self.rest.now c.take_record.new.seen q b n v
