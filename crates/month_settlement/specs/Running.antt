-- A month on its way: what one package does, and the run so far.
use Rattle.std.specs.Prelude.{◌≡◌, ℕ, List, ◌++◌, map, drop, ℤ, Ok, Err, Result, Vec}
use Rattle.std.specs.declared.alloc.Global.{Global}
use Rattle.refusals.specs.declared.refusal.Refusal.{Refusal}
use Rattle.refusals.specs.Numbers.{Told, told_by}
use Rattle.payoff.specs.Rules.{Meaning}
use Rattle.format.specs.Hours.{Tables}
use Rattle.ledger.specs.declared.lines.HourLine.{HourLine}
use Rattle.ledger.specs.declared.lines.LoadLine.{LoadLine}
use Rattle.ledger.specs.declared.lines.RollLine.{RollLine}
use Rattle.ledger.specs.Figures.{Figures}
use Rattle.ledger.specs.Calls.{RefundAccepted, RefundRefused, CloseAccepted, CloseRefused}
use Rattle.ledger.specs.Posting.{PostAccepted, PostRefused}
use Rattle.ledger.specs.Ledger.{Ledger, blank, ledger_from}
use Rattle.ledger.specs.Runs.{cell, is_open, Move, events_of, Chain}
use Rattle.hours.specs.Read.{hour_read}
use Rattle.month_settlement.specs.declared.outcomes.BookedHour.{BookedHour}
use Rattle.month_settlement.specs.Books.{bytes_of, posting_in, ledger_of, outcomes_of}

-- a package is not read, or its hour is not posted, or it is
pub data Booking (m : Meaning) (n : ℕ) (bs : List ℕ) (f : Figures) (roll : List RollLine) : Result BookedHour Told → Figures → List RollLine → Type 0 where
  unread : {e : Told} {f' : Figures} {roll' : List RollLine} → hour_read bs ≡ Err e → f' ≡ f → roll' ≡ roll → Booking m n bs f roll (Err e) f' roll'
  unposted : {e : Told} {f' : Figures} {roll' : List RollLine} (t : Tables) (s : List HourLine) (x : List ℤ) → hour_read bs ≡ Ok t → PostRefused f roll (posting_in m n t) e f' roll' s x → Booking m n bs f roll (Err e) f' roll'
  posted : {h : BookedHour} {f' : Figures} {roll' : List RollLine} (t : Tables) (s : List HourLine) (x : List ℤ) → hour_read bs ≡ Ok t → h.hour ≡ t.day.hour → PostAccepted f roll (posting_in m n t) h.answer f' roll' s x → Booking m n bs f roll (Ok h) f' roll'

-- a month and its roll after a run of calls whose ledger is l
pub record RanTo (f₀ : Figures) (roll₀ : List RollLine) (l : Ledger) (f : Figures) (roll : List RollLine) : Type 0 where
  pub moves : List Move
  pub chain : Chain (cell (is_open f₀) roll₀) moves (cell (is_open f) roll)
  pub ledger : ledger_from blank (events_of moves) ≡ l

-- every package was posted or set aside
pub record PostedAll (m : Meaning) (n : ℕ) (packages : List (List ℕ)) (f : Figures) (roll : List RollLine) (hours : List (Result BookedHour Refusal)) (f' : Figures) (roll' : List RollLine) (hours' : List (Result BookedHour Refusal)) : Type 0 where
  pub ran : RanTo f roll (ledger_of m n blank packages) f' roll'
  pub told : map (told_by (λ h. h)) hours' ≡ map (told_by (λ h. h)) hours ++ outcomes_of m n blank packages

-- the packages up to the one numbered i were: a run has led here, and the rest leads to the same end
pub record SoFar (m : Meaning) (n : ℕ) (packages : List (Vec ℕ Global)) (i : ℕ) (f₀ : Figures) (roll₀ : List RollLine) (hours₀ : List (Result BookedHour Refusal)) (f : Figures) (roll : List RollLine) (hours : List (Result BookedHour Refusal)) : Type 0 where
  pub ledger : Ledger
  pub ran : RanTo f₀ roll₀ ledger f roll
  pub same_end : ledger_of m n ledger (bytes_of (drop i packages)) ≡ ledger_of m n blank (bytes_of packages)
  pub told : map (told_by (λ h. h)) hours ++ outcomes_of m n ledger (bytes_of (drop i packages)) ≡ map (told_by (λ h. h)) hours₀ ++ outcomes_of m n blank (bytes_of packages)

-- a month that was refunded and closed
pub record Ended (f : Figures) (roll : List RollLine) (loads : List LoadLine) (f'' : Figures) (roll' : List RollLine) (loads' : List LoadLine) : Type 0 where
  pub between : Figures
  pub refund : RefundAccepted f roll between roll'
  pub close : CloseAccepted between roll' loads f'' loads'

-- a month whose refund or close was refused
pub data EndRefused (f : Figures) (roll : List RollLine) (loads : List LoadLine) (e : Told) (loads' : List LoadLine) : Type 0 where
  no_refund : (f' : Figures) (roll' : List RollLine) → RefundRefused f roll e f' roll' → loads' ≡ loads → EndRefused f roll loads e loads'
  no_close : (f' f'' : Figures) (roll' : List RollLine) → RefundAccepted f roll f' roll' → CloseRefused f' roll' loads e f'' loads' → EndRefused f roll loads e loads'
