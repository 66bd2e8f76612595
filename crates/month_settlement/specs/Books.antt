-- A month that is settled from its packages, by its ledger.
use Rattle.std.specs.Prelude.{◌≡◌, ℕ, ◌<◌, min, cond, ◌&&◌, List, [], ◌∷◌, map, length, replicate, pos, Some, None, Ok, Err, vec_items, Option, Result, Vec, nat_le}
use Rattle.std.specs.declared.alloc.Global.{Global}
use Rattle.refusals.specs.declared.refusal.Refusal.{Refusal}
use Rattle.refusals.specs.Numbers.{Told, refused_at, told_by, told}
use Rattle.payoff.specs.Rules.{Meaning}
use Rattle.format.specs.Hours.{Tables}
use Rattle.ledger.specs.declared.lines.LoadLine.{LoadLine}
use Rattle.ledger.specs.declared.lines.RollLine.{RollLine}
use Rattle.ledger.specs.Lines.{lines_of, clear_hour}
use Rattle.ledger.specs.Figures.{Figures}
use Rattle.ledger.specs.Calls.{first_refusal, refund_test, close_test}
use Rattle.ledger.specs.Posting.{Posting, rent_of, dues_of, answer_of, post_test}
use Rattle.ledger.specs.Ledger.{Ledger, blank, with_hour, with_refund, with_loads, figures_of, owner_line, load_line}
use Rattle.ledger.specs.Runs.{Balanced}
use Rattle.hours.specs.Read.{hour_read}
use Rattle.posting.specs.Posts.{posting_on}
use Rattle.month_settlement.specs.declared.outcomes.BookedHour.{BookedHour}
use Rattle.month_settlement.specs.declared.month_error.MonthError.{MonthError}
use Rattle.month_settlement.specs.declared.month_error.MonthError.TheVariants.{Refused, OutOfMemory}

abbrev pub bytes_of : List (Vec ℕ Global) → List (List ℕ)
bytes_of vs = map vec_items vs

-- an hour as it is posted into a month of n owners, with a clear hour sheet, of 128 lines at most, and clear amounts
abbrev pub posting_in : Meaning → ℕ → Tables → Posting
posting_in m n t = posting_on m t (replicate (min n 128) clear_hour) (replicate 1024 (pos 0))

-- an hour that passes its test
abbrev pub passing : Option Told → Posting → Result Posting Told
passing None p = Ok p
passing (Some e) p = Err e

abbrev pub postable : Meaning → ℕ → Ledger → Result Tables Told → Result Posting Told
postable m n l (Ok t) = passing (post_test (figures_of n l) (lines_of n (owner_line l)) (posting_in m n t)) (posting_in m n t)
postable m n l (Err e) = Err e

-- the hour of a package in a month of n owners whose ledger is l, or the refusal of reading it or of posting it
abbrev pub hour_in : Meaning → ℕ → Ledger → List ℕ → Result Posting Told
hour_in m n l bs = postable m n l (hour_read bs)

-- the ledger with that hour; a package that is set aside leaves it as it was
abbrev pub entered : Ledger → Result Posting Told → Ledger
entered l (Ok p) = with_hour l p
entered l (Err e) = l

-- what is told of a package: the hour's figures with the balance then reached, or the refusal
abbrev pub outcome : Ledger → Result Posting Told → Result BookedHour Told
outcome l (Ok p) = Ok (record { hour = p.day.hour; answer = answer_of (rent_of p) (dues_of p) (with_hour l p).balance })
outcome l (Err e) = Err e

-- the packages in turn
abbrev pub ledger_of : Meaning → ℕ → Ledger → List (List ℕ) → Ledger
ledger_of m n l [] = l
ledger_of m n l (bs ∷ more) = ledger_of m n (entered l (hour_in m n l bs)) more

abbrev pub outcomes_of : Meaning → ℕ → Ledger → List (List ℕ) → List (Result BookedHour Told)
outcomes_of m n l [] = []
outcomes_of m n l (bs ∷ more) = outcome l (hour_in m n l bs) ∷ outcomes_of m n (entered l (hour_in m n l bs)) more

-- the ledger of a month's hours, and of the month once it is refunded and closed
abbrev pub hours_ledger : Meaning → ℕ → List (List ℕ) → Ledger
hours_ledger m n packages = ledger_of m n blank packages

abbrev pub closed_ledger : Meaning → ℕ → List (List ℕ) → List LoadLine → Ledger
closed_ledger m n packages loads = with_loads (with_refund (hours_ledger m n packages)) loads

-- the tests of open, refund and close in turn
abbrev pub roll_test : ℕ → Option Told
roll_test n = cond (nat_le 1 n && nat_le n 128) None (Some (refused_at 26 0))

abbrev pub ending_test : ℕ → Ledger → List LoadLine → Option Told
ending_test n l loads =
    first_refusal (refund_test (figures_of n l) (lines_of n (owner_line l))) (close_test (figures_of n (with_refund l)) (lines_of n (owner_line (with_refund l))) loads)

abbrev pub month_test : Meaning → ℕ → List (List ℕ) → List LoadLine → Option Told
month_test m n packages loads = first_refusal (roll_test n) (ending_test n (hours_ledger m n packages) loads)

-- a month of n owners that was settled: what became of each package, and every figure, roll line and load line
pub record MonthSettled (m : Meaning) (n : ℕ) (packages : List (List ℕ)) (loads : List LoadLine) (hours : List (Result BookedHour Refusal)) (f : Figures) (roll : List RollLine) (loads' : List LoadLine) : Type 0 where
  pub tests : month_test m n packages loads ≡ None
  pub outcomes : map (told_by (λ h. h)) hours ≡ outcomes_of m n blank packages
  pub month : f ≡ figures_of n (closed_ledger m n packages loads)
  pub owners : roll ≡ lines_of n (owner_line (closed_ledger m n packages loads))
  pub paid : loads' ≡ lines_of (length loads) (load_line (closed_ledger m n packages loads) loads)
  -- every cent that came in is somewhere
  pub balanced : Balanced (closed_ledger m n packages loads)
  -- once a load has a cent, every owner has had its shortfall charges back
  pub made_good : (k : ℕ) → 0 < (closed_ledger m n packages loads).paid k → (o : ℕ) → o < n → (closed_ledger m n packages loads).refund o ≡ (closed_ledger m n packages loads).short o

-- why a month is not settled
abbrev pub Why : Option Told → MonthError → Type 0
Why test (Refused e) = test ≡ Some (told e)
Why test OutOfMemory = Unit {0}

-- a month that was not: the loads are as they were
pub record MonthRefused (m : Meaning) (n : ℕ) (packages : List (List ℕ)) (loads : List LoadLine) (e : MonthError) (loads' : List LoadLine) : Type 0 where
  pub why : Why (month_test m n packages loads) e
  pub loads_stay : loads' ≡ loads
