-- A typed row seen plain, as it would lie in a table.
use Rattle.std.specs.Prelude.{unsigned_abs}
use Rattle.rows.specs.declared.plain.ConstraintRow.{ConstraintRow}
use Rattle.rows.specs.declared.plain.PointRow.{PointRow}
use Rattle.rows.specs.declared.plain.HoldingRow.{HoldingRow}
use Rattle.rows.specs.declared.plain.DayRow.{DayRow}
use Rattle.rows.specs.declared.constraint.Constraint.{Constraint}
use Rattle.rows.specs.declared.point.Point.{Point}
use Rattle.rows.specs.declared.holding.Holding.{Holding}
use Rattle.rows.specs.declared.day.Day.{Day}
use Rattle.rows.specs.Letters.{point_letter, instrument_letter, block_letter}

abbrev pub plain_constraint : Constraint → ConstraintRow
plain_constraint c = record { shadow = unsigned_abs c.shadow.value; deration = unsigned_abs c.deration.value }

abbrev pub plain_point : Point → PointRow
plain_point p = record { letter = point_letter p.kind; price = p.price.value; minimum = p.minimum.value; maximum = p.maximum.value }

abbrev pub plain_holding : Holding → HoldingRow
plain_holding h =
    record { owner = h.owner; letter = instrument_letter h.instrument; source = h.source; sink = h.sink; quantity = h.quantity.value; block = block_letter h.block; actual = h.actual.value; real_time = h.real_time.value }

abbrev pub plain_day : Day → DayRow
plain_day d = record { hour = d.hour; weekday = d.weekday; ending = d.ending; rent = unsigned_abs d.rent.value }
