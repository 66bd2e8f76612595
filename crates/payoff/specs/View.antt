-- Tested tables, two points, four figures and a payment, seen plain.
use Rattle.std.specs.Prelude.{cond, Some, None, Option}
use Rattle.rows.specs.declared.plain.HoldingRow.{HoldingRow}
use Rattle.rows.specs.Plain.{plain_point}
use Rattle.payoff.specs.declared.tested.TestedTables.{TestedTables}
use Rattle.payoff.specs.declared.pair.Pair.{Pair}
use Rattle.payoff.specs.declared.figures.Figures.{Figures}
use Rattle.payoff.specs.declared.payment.Payment.{Payment}
use Rattle.payoff.specs.Tables.{Tables, pair_ok, Ends, ends_of}
use Rattle.payoff.specs.Plain.{plain_tables}
use Rattle.payoff.specs.Rules.{Payoff}
use Rattle.payoff.specs.Payments.{Rate}

abbrev pub tables_of : TestedTables → Tables
tables_of v = plain_tables v.plain

abbrev pub plain_pair : Pair → Ends
plain_pair p = record { source = plain_point p.source; sink = plain_point p.sink }

abbrev pub pair_of : Tables → HoldingRow → Option Ends
pair_of t h = cond (pair_ok t h) (Some (ends_of t h)) None

abbrev pub payoff_of : Figures → Payoff
payoff_of f = record { quantity = f.quantity.value; target = f.target.value; deration = f.deration.value; floor = f.floor.value }

abbrev pub plain_payment : Payment → Rate
plain_payment p = record { quantity = p.quantity.value; target = p.target.value; price = p.price.value }
