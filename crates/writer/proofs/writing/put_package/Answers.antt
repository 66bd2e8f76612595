use Rattle.std.proofs.Common.{◌≡◌, ℕ, List, length, ap, subst, arith}
use Rattle.rows.specs.declared.plain.ConstraintRow.{ConstraintRow}
use Rattle.rows.specs.declared.plain.HoldingRow.{HoldingRow}
use Rattle.std.specs.List.{flat_map}
use Rattle.codec.specs.Records.{encode_constraint, encode_holding}
use Rattle.records.specs.Frames.{framed}
use Rattle.buffer.specs.Appends.{Appends, HasRoom}
use Rattle.buffer.specs.declared.output.Output.{Output}
use Rattle.buffer.proofs.Joins.{appended}
use Rattle.format.specs.Hours.{Hour, hour_of, records_of, package_of}
use Rattle.writer.specs.Laid.{tables_in}
use Rattle.writer.proofs.Runs.{records_flat}
use Rattle.writer.proofs.Whole.{head_of, package_parts, package_long}
use Rattle.writer.proofs.writing.put_package.Goals as goal

pub overflow_sub-long : goal.overflow_sub-long
overflow_sub-long c = let l = package_long (hour_of (tables_in c.args.tables.now)) in omega (arith, c.requires.long)

-- the head was written
headed : (h : Hour) (long : ℕ) (o mid : Output) (bytes : List ℕ) → bytes ≡ head_of h long → (HasRoom o (length bytes) → Appends o bytes mid) → long ≡ length (package_of h) → HasRoom o long → Appends o (head_of h long) mid
headed h long o mid bytes e put l room =
    let n = package_long h in
    subst (λ (bs : List ℕ). Appends o bs mid) e (put (omega (arith, ap length e)))

-- what each piece is, as the definition of a package has it
constraints_put : (cs : List ConstraintRow) (o p : Output) → Appends o (flat_map (λ r. framed 67 (encode_constraint r)) cs) p → Appends o (records_of 67 encode_constraint cs) p
constraints_put cs o p w = subst (λ (bs : List ℕ). Appends o bs p) (records_flat 67 encode_constraint cs) w

holdings_put : (hs : List HoldingRow) (o p : Output) → Appends o (flat_map (λ r. framed 72 (encode_holding r)) hs) p → Appends o (records_of 72 encode_holding hs) p
holdings_put hs o p w = subst (λ (bs : List ℕ). Appends o bs p) (records_flat 72 encode_holding hs) w

pub put_entries-requires : goal.put_entries-requires
put_entries-requires c =
    let l = package_long (hour_of (tables_in c.args.tables.now)) in
    let w = headed (hour_of (tables_in c.args.tables.now)) c.args.long c.args.out.now c.put.new.self c.package_head.result c.package_head.ensures c.put.ensures.wrote c.requires.long c.requires.room in
    let e = ap length (records_flat 67 encode_constraint c.args.tables.now.constraints.now) in
    omega (arith, c.requires.long, c.requires.room, w.wrote.end, w.wrote.len)

pub put_points-requires-clause-room : goal.put_points-requires-clause-room
put_points-requires-clause-room c =
    let l = package_long (hour_of (tables_in c.args.tables.now)) in
    let w = headed (hour_of (tables_in c.args.tables.now)) c.args.long c.args.out.now c.put.new.self c.package_head.result c.package_head.ensures c.put.ensures.wrote c.requires.long c.requires.room in
    let v = constraints_put c.args.tables.now.constraints.now _ _ c.put_entries.ensures.wrote in
    omega (arith, c.requires.long, c.requires.room, w.wrote.end, w.wrote.len, v.wrote.end, v.wrote.len)

pub put_entries-requires-2 : goal.put_entries-requires-2
put_entries-requires-2 c =
    let l = package_long (hour_of (tables_in c.args.tables.now)) in
    let w = headed (hour_of (tables_in c.args.tables.now)) c.args.long c.args.out.now c.put.new.self c.package_head.result c.package_head.ensures c.put.ensures.wrote c.requires.long c.requires.room in
    let v = constraints_put c.args.tables.now.constraints.now _ _ c.put_entries.ensures.wrote in
    let x = c.put_points.ensures in
    let e = ap length (records_flat 72 encode_holding c.args.tables.now.holdings.now) in
    omega (arith, c.requires.long, c.requires.room, w.wrote.end, w.wrote.len, v.wrote.end, v.wrote.len, x.wrote.end, x.wrote.len)

pub returns-clause-wrote : goal.returns-clause-wrote
returns-clause-wrote c =
    let w = headed (hour_of (tables_in c.args.tables.now)) c.args.long c.args.out.now c.put.new.self c.package_head.result c.package_head.ensures c.put.ensures.wrote c.requires.long c.requires.room in
    let v = constraints_put c.args.tables.now.constraints.now _ _ c.put_entries.ensures.wrote in
    let h = holdings_put c.args.tables.now.holdings.now _ _ c.put_entries-2.ensures.wrote in
    subst (λ (bs : List ℕ). Appends c.args.out.now bs c.put_entries-2.new.out) (package_parts (hour_of (tables_in c.args.tables.now)) c.args.long c.requires.long) (appended _ _ _ _ _ w (appended _ _ _ _ _ v (appended _ _ _ _ _ c.put_points.ensures h)))
