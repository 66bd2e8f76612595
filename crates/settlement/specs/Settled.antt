-- One hour, settled as the first of a month of 128 owners.
use Rattle.std.specs.Prelude.{ℕ, cond, List, ◌++◌, map, length, replicate, pos, Some, None, Ok, Err, codes, Option, Result, nat_le}
use Rattle.refusals.specs.Numbers.{Told, refused_at, refused_text}
use Rattle.payoff.specs.Rules.{Meaning}
use Rattle.format.specs.Hours.{Tables}
use Rattle.statement.specs.declared.figures.HourFigures.{HourFigures}
use Rattle.statement.specs.Lines.{statement_of}
use Rattle.ledger.specs.declared.lines.HourAnswer.{HourAnswer}
use Rattle.ledger.specs.Lines.{clear_hour, clear_roll}
use Rattle.ledger.specs.Figures.{started}
use Rattle.ledger.specs.Posting.{Posting, amount_in, rent_of, dues_of, answer_of, post_test}
use Rattle.ledger.specs.Ledger.{blank, with_hour}
use Rattle.hours.specs.Read.{hour_read}
use Rattle.posting.specs.Posts.{posting_on}

-- what a post answered, as a statement tells it
abbrev pub figures_told : HourAnswer → HourFigures
figures_told a = record { rent = a.rent.value; credits = a.credits.value; charges = a.charges.value; shortfall = a.short.value; balance = a.balance.value }

-- the statement of a month's first hour
abbrev pub first_statement : Posting → List ℕ
first_statement p =
    statement_of p.day.hour p.holdings (map (amount_in p) p.holdings) (figures_told (answer_of (rent_of p) (dues_of p) (with_hour blank p).balance))

-- what is written, unless a test refuses
abbrev pub unless : Option Told → List ℕ → Result (List ℕ) Told
unless None text = Ok text
unless (Some e) text = Err e

-- an hour as it is posted into a new month of 128 owners
abbrev pub first_hour_of : Meaning → Tables → Posting
first_hour_of m t = posting_on m t (replicate 128 clear_hour) (replicate 1024 (pos 0))

-- the statement of an hour's tables, or the refusal of their post
abbrev pub statement_in : Meaning → Tables → Result (List ℕ) Told
statement_in m t = unless (post_test (started 128) (replicate 128 clear_roll) (first_hour_of m t)) (first_statement (first_hour_of m t))

-- the statement of a package's hour, or the refusal of reading it or of posting it
abbrev pub read : Meaning → Result Tables Told → Result (List ℕ) Told
read m (Ok t) = statement_in m t
read m (Err e) = Err e

abbrev pub settled : Meaning → List ℕ → Result (List ℕ) Told
settled m bs = read m (hour_read bs)

-- the last test, 7, that the room suffices
abbrev pub within : ℕ → Result (List ℕ) Told → Result (List ℕ) Told
within room (Ok text) = cond (nat_le (length text) room) (Ok text) (Err (refused_at 7 0))
within room (Err e) = Err e

-- a refusal in a line of its own
abbrev pub refused_line : Told → List ℕ
refused_line e = refused_text e ++ codes "\n"
