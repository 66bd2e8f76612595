-- The hour's tables as three lists.
use Rattle.payoff.specs.declared.tables.PlainTables.{PlainTables}
use Rattle.payoff.specs.Tables.{Tables, tables}

abbrev pub plain_tables : PlainTables → Tables
plain_tables v = tables v.constraints.now v.points.now v.factors.now
