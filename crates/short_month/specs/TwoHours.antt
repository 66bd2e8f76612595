-- A month of two hours, by its ledger.
use Rattle.std.specs.Prelude.{◌≡◌, ℕ, ◌<◌, List, [], length}
use Rattle.rows.specs.declared.plain.DayRow.{DayRow}
use Rattle.rows.specs.declared.plain.HoldingRow.{HoldingRow}
use Rattle.payoff.specs.Tables.{Tables}
use Rattle.payoff.specs.Rules.{Meaning}
use Rattle.ledger.specs.declared.lines.LoadLine.{LoadLine}
use Rattle.ledger.specs.Lines.{lines_of}
use Rattle.ledger.specs.Figures.{Figures}
use Rattle.ledger.specs.Posting.{Posting, posting_of}
use Rattle.ledger.specs.Ledger.{Ledger, blank, with_hour, with_refund, with_loads, figures_of, load_line}
use Rattle.ledger.specs.Runs.{Balanced}

-- an hour, with no part of the tables that it writes
abbrev pub hour : Meaning → Tables → List HoldingRow → DayRow → Posting
hour m t hs day = posting_of m day t hs [] []

abbrev pub ledger_of : Posting → Posting → List LoadLine → Ledger
ledger_of first second loads = with_loads (with_refund (with_hour (with_hour blank first) second)) loads

pub record TwoHours (first second : Posting) (loads : List LoadLine) (f : Figures) (loads' : List LoadLine) : Type 0 where
  pub month : f ≡ figures_of 128 (ledger_of first second loads)
  pub paid : loads' ≡ lines_of (length loads) (load_line (ledger_of first second loads) loads)
  pub balanced : Balanced (ledger_of first second loads)
  -- once a load has a cent, every owner has had its shortfall charges back
  pub made_good : (k : ℕ) → 0 < (ledger_of first second loads).paid k → (o : ℕ) → o < 128 → (ledger_of first second loads).refund o ≡ (ledger_of first second loads).short o
