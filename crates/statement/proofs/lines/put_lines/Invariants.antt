use Rattle.std.proofs.Common.{◌+◌, ◌*◌, ◌≤◌, length, map}
use Rattle.buffer.specs.Appends.{Appends}
use Rattle.statement.proofs.Longs.{lines_of, seen}
use Rattle.statement.proofs.lines.put_lines.Given as goal

abbrev pub invariant-loop-i : goal.invariant-loop-i
invariant-loop-i l = Appends l.initial.out (lines_of (map seen l.yielded)) l.out × (l.out.len ≤ l.initial.out.len + 53 * length l.yielded)
