use Rattle.std.proofs.Common.{string_bytes}
use Rattle.refusals.specs.Numbers.{told}
use Rattle.format.specs.Reading.{reads_tables, roomed}
use Rattle.packages.specs.Counting.{seen_in}
use Rattle.hour_text.proofs.Fronts.{told_of, refused_of, same_made}
use Rattle.hour_text.proofs.package_text.explain_package.Goals as goal

pub returns-in-Ok : goal.returns-in-Ok
returns-in-Ok g c =
    let m = g.I.Instrument.means c.args.instrument.now in
    let a = c.in-Ok.ensures in
    let e = told_of m (roomed 32 256 8192 1024 (reads_tables c.args.bytes.now)) (seen_in c.in-Ok.hour) _ _ _ _ _ _ _ _ a.answer a.constraint_rows a.point_rows a.factor_rows a.holding_rows in
    same_made c.explain_holdings.result string_bytes _ _ e c.explain_holdings.ensures

pub returns-in-Err : goal.returns-in-Err
returns-in-Err g c =
    let m = g.I.Instrument.means c.args.instrument.now in
    let e = refused_of m (roomed 32 256 8192 1024 (reads_tables c.args.bytes.now)) (told c.in-Err.refusal) c.in-Err.ensures.answer in
    same_made c.format.result string_bytes _ _ e c.format.ensures.ok
