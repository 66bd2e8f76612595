use Rattle.std.proofs.Common.{◌≡◌, ℕ, ◌+◌, ◌*◌, ◌<◌, ◌≤◌, List, ◌∷◌, ◌++◌, length, get_or, pos, refl, ap, ◌∙◌, subst, arith}
use Rattle.std.specs.List.{flat_map}
use Rattle.std.proofs.lemmas.List.{take_all, get_or_default}
use Rattle.rows.specs.declared.plain.PointRow.{PointRow}
use Rattle.codec.specs.Bytes.{be2}
use Rattle.codec.specs.Records.{encode_placed, encode_point}
use Rattle.buffer.specs.Appends.{Appends, HasRoom}
use Rattle.buffer.specs.declared.output.Output.{Output}
use Rattle.format.specs.Hours.{placed}
use Rattle.format.proofs.Ways.{placed_long}
use Rattle.writer.proofs.Runs.{records_flat}
use Rattle.writer.proofs.Points.{record_of, head_room, row_room, point_more}
use Rattle.writer.proofs.pieces.put_points.Goals as goal

-- the point of a turn
abbrev blank : PointRow
blank = record { letter = 0; price = pos 0; minimum = pos 0; maximum = pos 0 }

abbrev turn : List PointRow → ℕ → PointRow
turn ps i = get_or ps i blank

itself : (ps : List PointRow) (i : ℕ) → i < length ps → turn ps i ≡ get_or ps i (turn ps i)
itself ps i h = get_or_default ps i blank (turn ps i) h

-- the head of the record was written
head : (q to : Output) (bytes : List ℕ) (n : ℕ) (p : PointRow) → bytes ≡ be2 (14 + 2 * n) ++ (80 ∷ encode_point p) → (HasRoom q (length bytes) → Appends q bytes to) → HasRoom q 16 → Appends q (be2 (14 + 2 * n) ++ (80 ∷ encode_point p)) to
head q to bytes n p e put room = subst (λ (bs : List ℕ). Appends q bs to) e (put (omega (arith, ap length e)))

pub put_entries-requires : goal.put_entries-requires
put_entries-requires c =
    let p = turn c.args.points.now c.loop-i.i in
    let h : HasRoom c.args.out.now (length (flat_map record_of (placed c.args.columns c.args.points.now c.args.factors.now))) = omega (arith, c.requires.room, ap length (records_flat 80 encode_placed (placed c.args.columns c.args.points.now c.args.factors.now))) in
    let room = head_room c.args.columns c.args.points.now c.args.factors.now c.loop-i.i _ p c.loop-i-test.true (itself _ _ c.loop-i-test.true) refl c.requires.rows c.args.out.now c.loop-i.out c.loop-i.invariant h in
    let v = head c.loop-i.out c.put.new.self c.point_head.result c.args.columns p c.point_head.ensures c.put.ensures.wrote room in
    row_room c.args.columns c.args.points.now c.args.factors.now c.loop-i.i _ p c.loop-i-test.true (itself _ _ c.loop-i-test.true) refl c.requires.rows c.args.out.now c.loop-i.out c.loop-i.invariant c.put.new.self v h

pub loop-i-preserved : goal.loop-i-preserved
loop-i-preserved c =
    let p = turn c.args.points.now c.loop-i.i in
    let h : HasRoom c.args.out.now (length (flat_map record_of (placed c.args.columns c.args.points.now c.args.factors.now))) = omega (arith, c.requires.room, ap length (records_flat 80 encode_placed (placed c.args.columns c.args.points.now c.args.factors.now))) in
    let room = head_room c.args.columns c.args.points.now c.args.factors.now c.loop-i.i _ p c.loop-i-test.true (itself _ _ c.loop-i-test.true) refl c.requires.rows c.args.out.now c.loop-i.out c.loop-i.invariant h in
    let v = head c.loop-i.out c.put.new.self c.point_head.result c.args.columns p c.point_head.ensures c.put.ensures.wrote room in
    point_more c.args.columns c.args.points.now c.args.factors.now c.loop-i.i _ p c.loop-i-test.true (itself _ _ c.loop-i-test.true) refl c.requires.rows c.args.out.now c.loop-i.out c.loop-i.invariant c.put.new.self c.put_entries.new.out v c.put_entries.ensures.wrote

pub returns : goal.returns
returns c =
    let l = placed_long c.args.columns c.args.points.now c.args.factors.now in
    let le : length (placed c.args.columns c.args.points.now c.args.factors.now) ≤ c.loop-i.i = omega arith in
    subst (λ (bs : List ℕ). Appends c.args.out.now bs c.loop-i.out) (ap (flat_map record_of) (take_all c.loop-i.i (placed c.args.columns c.args.points.now c.args.factors.now) le) ∙ records_flat 80 encode_placed (placed c.args.columns c.args.points.now c.args.factors.now)) c.loop-i.invariant
