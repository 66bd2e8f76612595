use Rattle.std.proofs.Common.{◌≡◌, ℕ, List, [], ◌++◌, length, drop, sym, ap, ◌∙◌, subst, append-nil}
use Rattle.std.proofs.lemmas.List.{length-map, length-take-le}
use Rattle.codec.specs.Bytes.{Bytes}
use Rattle.codec.specs.Records.{encode_constraint, encode_placed, encode_holding}
use Rattle.format.specs.Hours.{Tables, records_of, points_of, factors_of}
use Rattle.records.specs.Frames.{frame_of}
use Rattle.std.specs.List.{AllByRecursion}
use Rattle.packages.specs.Counting.{Seen, seen_in}
use Rattle.packages.specs.Filling.{IsPlaced}
use Rattle.packages.proofs.Rooms.{front_filled, fits}
use Rattle.packages.proofs.Rowing.{spelling, spelling_records, spelling_rows, spelling_same, spelling_length, constraints_read, holdings_read, points_read, points_placed, passed, laid_by}
use Rattle.packages.proofs.lent.LentTables.fill.Goals as goal

pub returns : goal.returns
returns c = λ t e s.
    let b : Bytes c.args.bytes.now = λ i. (c.type_inv.bytes i).fits in
    let l = laid_by c.args.bytes.now t b e in
    let g = l.good in
    let r = fits c.args.self (seen_in c.args.found.now) c.requires.room in
    let P : List ℕ = records_of 80 encode_placed l.hour.points in
    let H : List ℕ = records_of 72 encode_holding l.hour.holdings in
    let sc : l.hour.constraints ≡ t.constraints = ap (λ (x : Tables). x.constraints) l.same in
    let sp : points_of l.hour.points ≡ t.points = ap (λ (x : Tables). x.points) l.same in
    let sf : factors_of l.hour.points ≡ t.factors = ap (λ (x : Tables). x.factors) l.same in
    let sh : l.hour.holdings ≡ t.holdings = ap (λ (x : Tables). x.holdings) l.same in
    let lc : length t.constraints ≡ c.args.found.now.constraints = ap (λ (x : Seen). x.constraints) s in
    let lp : length t.points ≡ c.args.found.now.points = ap (λ (x : Seen). x.points) s in
    let lf : length t.factors ≡ c.args.found.now.factors = ap (λ (x : Seen). x.factors) s in
    let lh : length t.holdings ≡ c.args.found.now.holdings = ap (λ (x : Seen). x.holdings) s in
    let pp : length (points_of l.hour.points) ≡ length l.hour.points = length-map l.hour.points (λ x. x.point) in
    let r0 : c.new-reader.result.rest.now ≡ drop 5 c.args.bytes.now = c.new-reader.ensures.0 in
    let r1 = passed c.next_fields.result c.new-reader.result.rest.now c.next_fields.new.reader.rest.now c.next_fields.ensures 68 _ _ (ap frame_of r0 ∙ l.rest) in
    let q1 = c.fill.ensures 67 (spelling encode_constraint (λ x. x) l.hour.constraints) (P ++ H) (r1 ∙ ap (λ ys. ys ++ (P ++ H)) (sym (spelling_records 67 encode_constraint (λ x. x) l.hour.constraints))) (spelling_length encode_constraint (λ x. x) l.hour.constraints ∙ ap length sc ∙ lc ∙ sym (length-take-le _ c.args.self.constraints.now r.0)) (constraints_read l.hour.constraints g.constraints) in
    let q2 = c.fill-2.ensures 80 (spelling encode_placed (λ x. x.point) l.hour.points) H (q1.1 ∙ ap (λ ys. ys ++ H) (sym (spelling_records 80 encode_placed (λ x. x.point) l.hour.points))) (spelling_length encode_placed (λ x. x.point) l.hour.points ∙ sym pp ∙ ap length sp ∙ lp ∙ sym (length-take-le _ c.args.self.points.now r.1)) (points_read (length l.hour.constraints) l.hour.points g.few_constraints g.points) in
    let pl = subst (λ (m : ℕ). AllByRecursion (IsPlaced m) l.hour.points) (ap length sc ∙ lc) (points_placed (length l.hour.constraints) l.hour.points g.few_constraints g.points) in
    let q3 = c.fill_rows.ensures l.hour.points H q1.1 (sym pp ∙ ap length sp ∙ lp) pl in
    let q4 = c.fill-3.ensures 72 (spelling encode_holding (λ x. x) l.hour.holdings) [] (q2.1 ∙ sym (append-nil H) ∙ ap (λ ys. ys ++ []) (sym (spelling_records 72 encode_holding (λ x. x) l.hour.holdings))) (spelling_length encode_holding (λ x. x) l.hour.holdings ∙ ap length sh ∙ lh ∙ sym (length-take-le _ c.args.self.holdings.now r.3)) (holdings_read l.hour.holdings g.holdings) in
    let zc = front_filled _ t.constraints c.fill.new.table c.args.self.constraints.now (q1.0 ∙ spelling_same encode_constraint l.hour.constraints ∙ sc) lc in
    let zp = front_filled _ t.points c.fill-2.new.table c.args.self.points.now (q2.0 ∙ spelling_rows encode_placed (λ x. x.point) l.hour.points ∙ sp) lp in
    let zf = front_filled _ t.factors c.fill_rows.new.table c.args.self.factors.now (q3.0 ∙ sf) lf in
    let zh = front_filled _ t.holdings c.fill-3.new.table c.args.self.holdings.now (q4.0 ∙ spelling_same encode_holding l.hour.holdings ∙ sh) lh in
    (zc, zp, zf, zh)
