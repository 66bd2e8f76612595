use Rattle.std.proofs.Common.{◌≡◌, arith, w32, to_z, of_z}
use borrow.Author.Differences.{ints}
use Rattle.rows.proofs.Ranges.{sound_point}
use Rattle.payoff.proofs.pairing.typed_point.Goals as goal

pub named_kind-requires : goal.named_kind-requires
named_kind-requires c = let s = sound_point c.args.row.now c.requires in rw s.named

pub invariant_of-result : goal.invariant_of-result
invariant_of-result c = let s = sound_point c.args.row.now c.requires in record { low = omega (arith, ints); high = omega (arith, ints) }

pub invariant_of-result-2 : goal.invariant_of-result-2
invariant_of-result-2 c = let s = sound_point c.args.row.now c.requires in record { low = omega (arith, ints); high = omega (arith, ints) }

pub invariant_of-result-3 : goal.invariant_of-result-3
invariant_of-result-3 c = let s = sound_point c.args.row.now c.requires in record { low = omega (arith, ints); high = omega (arith, ints) }

pub invariant_of-result-4 : goal.invariant_of-result-4
invariant_of-result-4 c =
    let r = c.args.row.now in
    let s = sound_point r c.requires in
    let k : s.kind ≡ c.named_kind.result = cc (s.named, c.named_kind.ensures) in
    let a : to_z w32 (of_z w32 r.minimum) ≡ r.minimum = omega (arith, ints) in
    let b : to_z w32 (of_z w32 r.maximum) ≡ r.maximum = omega (arith, ints) in record { price_low = omega (arith, ints); price_high = omega (arith, ints); minimum_low = omega (arith, ints); minimum_high = omega (arith, ints); maximum_low = omega (arith, ints); maximum_high = omega (arith, ints); resource = rw (a, b, ← k) s.resource }
