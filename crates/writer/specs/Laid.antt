-- An hour's tables as the definitions have them.
use Rattle.rows.specs.Plain.{plain_day}
use Rattle.format.specs.Hours.{Tables, tables}
use Rattle.writer.specs.declared.tables.HourTables.{HourTables}

abbrev pub tables_in : HourTables → Tables
tables_in t = tables (plain_day t.day.now) t.constraints.now t.points.now t.factors.now t.holdings.now
