use Rattle.std.proofs.Common.{◌≡◌, ℕ, ◌-◌, ◌<◌, true, false, eqb, leb, List, length, get_or, Ok, Err, Result, sym, refl, ap, ◌∙◌, arith, rules, eq-eqb, ne_eqb, le-leb}
use borrow.Author.Tests.{lt-leb}
use Rattle.std.proofs.lemmas.Result.{err_from_is_err_and}
use Rattle.codec.specs.Bytes.{num4_at}
use Rattle.codec.specs.Records.{answered}
use Rattle.refusals.specs.Numbers.{Told, told, told_by, refused_at}
use Rattle.format.specs.Hours.{Hour, tables_of}
use Rattle.format.specs.Reading.{reads, reads_tables}
use Rattle.format.proofs.Back.{reads_good}
use Rattle.packages.specs.Counting.{Seen, seen_of, seen_in}
use Rattle.packages.proofs.testing.test_package.Goals as goal

abbrev refuse : Told → Result Seen Told
refuse e = Err e

pub returns-then-bytes-gt-LARGEST : goal.returns-then-bytes-gt-LARGEST
unfolding reads
returns-then-bytes-gt-LARGEST c =
    let a : leb 5 (length c.args.bytes.now) ≡ true = le-leb _ _ (omega arith) in
    let b : leb (length c.args.bytes.now) 44340 ≡ false = lt-leb _ _ (omega arith) in
    rw (a, b, c.at-untrue.ensures.cause, c.at-untrue.ensures.place)

short : (bs : List ℕ) → length bs < 5 → reads_tables bs ≡ Err (refused_at 1 0)
unfolding reads
short bs h = let a : leb 5 (length bs) ≡ false = lt-leb _ _ h in rw a

pub returns-in_err-long : goal.returns-in_err-long
returns-in_err-long c =
    let p = err_from_is_err_and c.from_residual.result c.from_residual.ensures.1 in
    let q : told p.0 ≡ refused_at 1 0 = search rules in
    ap (told_by seen_in) p.1 ∙ ap refuse q ∙ sym (ap (answered seen_of) (short c.args.bytes.now (search rules)))

pub returns-in_err-version : goal.returns-in_err-version
returns-in_err-version c =
    let p = err_from_is_err_and c.from_residual-in_err-version.result c.from_residual-in_err-version.ensures.1 in
    let q : told p.0 ≡ refused_at 1 0 = search rules in
    ap (told_by seen_in) p.1 ∙ ap refuse q ∙ sym (ap (answered seen_of) (short c.args.bytes.now (search rules)))

pub returns-then-from_be_bytes-bytes : goal.returns-then-from_be_bytes-bytes
unfolding reads
returns-then-from_be_bytes-bytes c =
    let a : leb 5 (length c.args.bytes.now) ≡ true = le-leb _ _ (search rules) in
    let b : leb (length c.args.bytes.now) 44340 ≡ true = le-leb _ _ (search rules) in
    let e : eqb (num4_at c.args.bytes.now 0) (length c.args.bytes.now - 4) ≡ false = ne_eqb _ _ (search rules) in
    rw (a, b, e, c.at-untrue.ensures.cause, c.at-untrue.ensures.place)

pub returns-then-version-ne1 : goal.returns-then-version-ne1
unfolding reads
returns-then-version-ne1 c =
    let a : leb 5 (length c.args.bytes.now) ≡ true = le-leb _ _ (search rules) in
    let b : leb (length c.args.bytes.now) 44340 ≡ true = le-leb _ _ (search rules) in
    let e : eqb (num4_at c.args.bytes.now 0) (length c.args.bytes.now - 4) ≡ true = eq-eqb _ _ (search rules) in
    let v : eqb (get_or c.args.bytes.now 4 0) 1 ≡ false = ne_eqb _ _ (search rules) in
    rw (a, b, e, v, c.at.ensures.cause, c.at.ensures.place)

pub returns : goal.returns
returns c =
    let g = reads_good c.args.bytes.now (search rules) (search rules) (search rules) (search rules) in
    c.test_records.ensures ∙ ap (λ r. answered (λ h. seen_of (tables_of h)) r) (sym g) ∙ twice (reads c.args.bytes.now)
  where
    twice : (r : Result Hour Told) → answered (λ h. seen_of (tables_of h)) r ≡ answered seen_of (answered tables_of r)
    twice (Ok h) = refl
    twice (Err e) = refl
