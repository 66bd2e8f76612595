-- The room in the caller's tables.
use Rattle.std.specs.Prelude.{Bool, ◌&&◌, length, nat_le}
use Rattle.packages.specs.Counting.{Seen}
use Rattle.packages.specs.declared.lent.LentTables.{LentTables}

-- whether the tables have room for what a package has
abbrev pub has_room : LentTables → Seen → Bool
has_room l s =
    nat_le s.constraints (length l.constraints.now) && (nat_le s.points (length l.points.now) && (nat_le s.factors (length l.factors.now) && nat_le s.holdings (length l.holdings.now)))
