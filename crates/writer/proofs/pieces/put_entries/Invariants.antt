use Rattle.std.proofs.Common.{take}
use Rattle.std.specs.List.{AllByRecursion, flat_map}
use Rattle.buffer.specs.Appends.{Appends}
use Rattle.writer.proofs.pieces.put_entries.Given as goal

abbrev pub invariant-loop-row : goal.invariant-loop-row
invariant-loop-row g l = Appends l.initial.out (flat_map g.R.Encoded.bytes (take l.row-index l.rows)) l.out × AllByRecursion g.R.Encoded.fits (take l.row-index l.rows)
