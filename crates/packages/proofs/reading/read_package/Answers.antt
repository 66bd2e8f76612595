use Rattle.std.proofs.Common.{◌≡◌, length, Ok, sym, ◌∙◌, rules}
use Rattle.codec.specs.Records.{answered}
use Rattle.format.specs.Reading.{reads_tables}
use Rattle.format.proofs.Ways.{read_writes}
use Rattle.packages.specs.Counting.{seen_of, seen_in}
use Rattle.packages.proofs.Rooms.{laid_ok, room_good, factor_count}
use Rattle.packages.proofs.reading.read_package.Goals as goal

pub returns-then-not-have_room-clause-written_so : goal.returns-then-not-have_room-clause-written_so
returns-then-not-have_room-clause-written_so c = λ t e. read_writes c.args.bytes.now t (λ i. (c.type_inv.bytes i).fits) e

pub fill-requires-clause-factors : goal.fill-requires-clause-factors
fill-requires-clause-factors c = factor_count c.args.bytes.now (seen_in c.in_ok-found.found) (λ i. (c.type_inv.bytes i).fits) (search rules)

pub returns : goal.returns
returns c =
    let s : Ok (seen_in c.in_ok-found.found) ≡ answered seen_of (reads_tables c.args.bytes.now) = search rules in
    let g = room_good (reads_tables c.args.bytes.now) (length c.args.constraints.now) (length c.args.points.now) (length c.args.factors.now) (length c.args.holdings.now) (seen_in c.in_ok-found.found) s (sym c.if-not-have_room.ensures) in
    let q = c.fill.ensures g.0 g.1 g.2 in
    record {
      answer = search rules;
      constraint_rows = q.0 ∙ laid_ok _ g.0 (λ t. t.constraints) c.args.constraints.now g.3;
      point_rows = q.1 ∙ laid_ok _ g.0 (λ t. t.points) c.args.points.now g.3;
      factor_rows = q.2 ∙ laid_ok _ g.0 (λ t. t.factors) c.args.factors.now g.3;
      holding_rows = q.3 ∙ laid_ok _ g.0 (λ t. t.holdings) c.args.holdings.now g.3;
      written_so = λ t e. read_writes c.args.bytes.now t (λ i. (c.type_inv.bytes i).fits) e;
    }
