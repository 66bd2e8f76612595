use Rattle.std.proofs.Common.{◌≡◌, ◌*◌, ◌≤◌, length, map}
use Rattle.statement.proofs.Longs.{lines_of, seen}
use Rattle.statement.proofs.lengths.lines_len.Given as goal

abbrev pub invariant-loop-i : goal.invariant-loop-i
invariant-loop-i l = (l.total ≡ length (lines_of (map seen l.yielded))) × (l.total ≤ length l.yielded * 85)
