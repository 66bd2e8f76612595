use Rattle.std.proofs.Common.{take}
use Rattle.std.specs.List.{flat_map}
use Rattle.buffer.specs.Appends.{Appends}
use Rattle.format.specs.Hours.{placed}
use Rattle.writer.proofs.Points.{record_of}
use Rattle.writer.proofs.pieces.put_points.Given as goal

abbrev pub invariant-loop-i : goal.invariant-loop-i
invariant-loop-i l = Appends l.initial.out (flat_map record_of (take l.i (placed l.columns l.points l.factors))) l.out
