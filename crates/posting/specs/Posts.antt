-- The arguments of an hour's post.
use Rattle.std.specs.Prelude.{List, ℤ}
use Rattle.payoff.specs.Rules.{Meaning}
use Rattle.payoff.specs.Tables as payoff
use Rattle.format.specs.Hours.{Tables}
use Rattle.ledger.specs.declared.lines.HourLine.{HourLine}
use Rattle.ledger.specs.Posting.{Posting, posting_of}

-- an hour as it lies in its tables, with the hour sheet and the amounts that are lent
abbrev pub posting_on : Meaning → Tables → List HourLine → List ℤ → Posting
posting_on m t sheet amounts = posting_of m t.day (payoff.tables t.constraints t.points t.factors) t.holdings sheet amounts
