-- The text that explains a package.
use Rattle.std.specs.Prelude.{ℕ, ◌+◌, min, max, List, [], ◌∷◌, ◌++◌, take, replicate, Some, None, Ok, Err, codes, Option, Result}
use Rattle.refusals.specs.Numbers.{Told, refused_text}
use Rattle.rows.specs.declared.plain.HoldingRow.{HoldingRow}
use Rattle.payoff.specs.Rules.{Meaning}
use Rattle.payoff.specs.Tables as payoff
use Rattle.format.specs.Hours.{Tables}
use Rattle.explanation.specs.Lines.{explanation_of}
use Rattle.ledger.specs.Lines.{lines_of, clear_roll}
use Rattle.ledger.specs.Hour.{hour_line_of}
use Rattle.ledger.specs.Figures.{started}
use Rattle.ledger.specs.Posting.{Posting, rent_of, dues_of, post_test}
use Rattle.line_text.specs.Lines.{lines_by}
use Rattle.line_text.specs.Money.{owner_hour_text}
use Rattle.hours.specs.Read.{hour_read}
use Rattle.settlement.specs.Settled.{first_hour_of}

-- how many owners there are up to the last that holds anything
abbrev pub owners_in : List HoldingRow → ℕ
owners_in [] = 0
owners_in (h ∷ hs) = max (h.owner + 1) (owners_in hs)

-- each owner's credit, charge and shortfall charge
abbrev pub sheet_text : Posting → List ℕ
sheet_text p = lines_by owner_hour_text 0 (take (min (owners_in p.holdings) 128) (lines_of 128 (hour_line_of (rent_of p) (dues_of p))))

-- hour refused N at P
abbrev pub refused_hour : Told → List ℕ
refused_hour e = codes "hour " ++ (refused_text e ++ codes "\n")

abbrev pub owners_after : Option Told → Posting → List ℕ
owners_after None p = sheet_text p
owners_after (Some e) p = refused_hour e

-- the owners of an hour that is posted as the first of a month of 128 owners, or why it is refused
abbrev pub owners_text : Meaning → Tables → List ℕ
owners_text m t = owners_after (post_test (started 128) (replicate 128 clear_roll) (first_hour_of m t)) (first_hour_of m t)

-- the holdings and then the owners
abbrev pub hour_text : Meaning → Tables → List ℕ
hour_text m t = explanation_of m (payoff.tables t.constraints t.points t.factors) t.holdings ++ owners_text m t

abbrev pub read_text : Meaning → Result Tables Told → List ℕ
read_text m (Err e) = refused_text e ++ codes "\n"
read_text m (Ok t) = hour_text m t

-- a package, read into tables of the largest hour
abbrev pub package_text : Meaning → List ℕ → List ℕ
package_text m bs = read_text m (hour_read bs)
