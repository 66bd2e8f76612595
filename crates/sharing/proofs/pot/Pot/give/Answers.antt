use Rattle.std.proofs.Common.{arith}
use Rattle.std.proofs.lemmas.Int.{ints}
use Rattle.sharing.proofs.Parts.{part_le}
use Rattle.sharing.proofs.pot.Pot.give.Goals as goal

pub add-requires : goal.add-requires
add-requires g c =
    let p = c.args.self.now in
    let within = part_le p.sum c.args.seen p.total c.requires.seen in
    record { small = omega (arith, within); room = omega (arith, ints, within) }
