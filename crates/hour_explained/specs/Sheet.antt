-- The hour sheet of an hour that is posted as the first of a month of 128 owners.
use Rattle.std.specs.Prelude.{List, replicate, Some, None, Ok, Err, Option, Result}
use Rattle.refusals.specs.Numbers.{Told}
use Rattle.payoff.specs.Rules.{Meaning}
use Rattle.format.specs.Hours.{Tables}
use Rattle.ledger.specs.declared.lines.HourLine.{HourLine}
use Rattle.ledger.specs.Lines.{lines_of, clear_roll}
use Rattle.ledger.specs.Hour.{hour_line_of}
use Rattle.ledger.specs.Figures.{started}
use Rattle.ledger.specs.Posting.{Posting, rent_of, dues_of, post_test}
use Rattle.settlement.specs.Settled.{first_hour_of}

abbrev pub sheet_after : Option Told → Posting → Result (List HourLine) Told
sheet_after None p = Ok (lines_of 128 (hour_line_of (rent_of p) (dues_of p)))
sheet_after (Some e) p = Err e

-- the sheet, or why the hour is refused
abbrev pub first_sheet : Meaning → Tables → Result (List HourLine) Told
first_sheet m t = sheet_after (post_test (started 128) (replicate 128 clear_roll) (first_hour_of m t)) (first_hour_of m t)
