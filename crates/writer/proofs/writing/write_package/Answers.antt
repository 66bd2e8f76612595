use Rattle.std.proofs.Common.{◌≡◌, ℕ, true, List, length, take, ℤ, None, Ok, sym, ap, ◌∙◌, arith, rules}
use Rattle.rows.specs.declared.plain.ConstraintRow.{ConstraintRow}
use Rattle.rows.specs.declared.plain.HoldingRow.{HoldingRow}
use Rattle.rows.specs.declared.plain.PointRow.{PointRow}
use Rattle.rows.specs.declared.day.Day.{Day}
use Rattle.rows.specs.Plain.{plain_day}
use Rattle.codec.specs.Records.{answered}
use Rattle.buffer.proofs.Joins.{whole}
use Rattle.format.specs.Hours.{Tables, tables, hour_of, package_of}
use Rattle.format.specs.Reading.{reads_tables}
use Rattle.format.specs.Writing.{sizes_ok, bad_entry, writes, written}
use Rattle.format.proofs.Ways.{sizes_inv, written_reads}
use Rattle.writer.proofs.Whole.{tables_long, tables_small}
use Rattle.writer.proofs.Verdicts.{day_ok_lem, writes_short, writes_good}
use Rattle.writer.proofs.writing.write_package.Goals as goal

abbrev given : Day → List ConstraintRow → List PointRow → List ℤ → List HoldingRow → Tables
given d cs ps fs hs = tables (plain_day d) cs ps fs hs

pub returns-then-out-long : goal.returns-then-out-long
returns-then-out-long c =
    let s : sizes_ok (given c.args.day.now c.args.constraints.now c.args.points.now c.args.factors.now c.args.holdings.now) ≡ true = sym c.if-not-sizes_ok.ensures in
    let b : bad_entry (given c.args.day.now c.args.constraints.now c.args.points.now c.args.factors.now c.args.holdings.now) ≡ None = search rules in
    let l = tables_long (given c.args.day.now c.args.constraints.now c.args.points.now c.args.factors.now c.args.holdings.now) (sizes_inv (given c.args.day.now c.args.constraints.now c.args.points.now c.args.factors.now c.args.holdings.now) s).3 in
    let w = writes_short (given c.args.day.now c.args.constraints.now c.args.points.now c.args.factors.now c.args.holdings.now) (length c.args.out.now) s b (omega arith) in
    record {
      answer = rw (c.at-then-out-long.ensures.cause, c.at-then-out-long.ensures.place) (ap (answered length) (sym w));
      buffer = ap (λ r. written r c.args.out.now) (sym w);
      reads_back = tt;
    }

pub put_package-requires : goal.put_package-requires
put_package-requires c =
    let s : sizes_ok (given c.args.day.now c.args.constraints.now c.args.points.now c.args.factors.now c.args.holdings.now) ≡ true = sym c.if-not-sizes_ok.ensures in
    let l = tables_long (given c.args.day.now c.args.constraints.now c.args.points.now c.args.factors.now c.args.holdings.now) (sizes_inv (given c.args.day.now c.args.constraints.now c.args.points.now c.args.factors.now c.args.holdings.now) s).3 in
    let m = tables_small (given c.args.day.now c.args.constraints.now c.args.points.now c.args.factors.now c.args.holdings.now) s in
    record { sizes = s; long = omega arith; small = omega arith; room = omega arith }

pub returns : goal.returns
returns c =
    let s : sizes_ok (given c.args.day.now c.args.constraints.now c.args.points.now c.args.factors.now c.args.holdings.now) ≡ true = sym c.if-not-sizes_ok.ensures in
    let b : bad_entry (given c.args.day.now c.args.constraints.now c.args.points.now c.args.factors.now c.args.holdings.now) ≡ None = search rules in
    let l = tables_long (given c.args.day.now c.args.constraints.now c.args.points.now c.args.factors.now c.args.holdings.now) (sizes_inv (given c.args.day.now c.args.constraints.now c.args.points.now c.args.factors.now c.args.holdings.now) s).3 in
    let w = writes_good (given c.args.day.now c.args.constraints.now c.args.points.now c.args.factors.now c.args.holdings.now) (length c.args.out.now) s b (omega arith) in
    let p = whole c.args.out.now (package_of (hour_of (given c.args.day.now c.args.constraints.now c.args.points.now c.args.factors.now c.args.holdings.now))) c.put_package.new.out.len c.put_package.new.out.buffer.now c.put_package.ensures.wrote.wrote in
    let n = c.put_package.ensures.wrote.same in
    let z : c.put_package.new.out.buffer.now ≡ written (writes (given c.args.day.now c.args.constraints.now c.args.points.now c.args.factors.now c.args.holdings.now) (length c.args.out.now)) c.args.out.now = p.1 ∙ ap (λ r. written r c.args.out.now) (sym w) in
    let r : reads_tables (take c.put_package.new.out.len c.put_package.new.out.buffer.now) ≡ Ok (given c.args.day.now c.args.constraints.now c.args.points.now c.args.factors.now c.args.holdings.now) =
    ap reads_tables p.2 ∙ written_reads (given c.args.day.now c.args.constraints.now c.args.points.now c.args.factors.now c.args.holdings.now) (length c.args.out.now) _ (day_ok_lem c.args.day.now) c.put_package.ensures.fits w in
    record { answer = ap (λ (n : ℕ). Ok n) p.0 ∙ ap (answered length) (sym w); buffer = search rules; reads_back = search rules }
