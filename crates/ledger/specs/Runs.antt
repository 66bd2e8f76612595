-- Every run of the calls on a month, among any number of other months, and what holds of it.
use Rattle.std.specs.Prelude.{◌≡◌, ℕ, ◌+◌, ◌*◌, ◌<◌, ◌≤◌, cond, List, [], ◌∷◌, map, length, drop, ℤ, pos, ◌≤ℤ◌, Some, ◌==◌, ◌≢◌, slice_index_or}
use Rattle.refusals.specs.Numbers.{Told}
use Rattle.rows.specs.declared.plain.HoldingRow.{HoldingRow}
use Rattle.payoff.specs.Tables.{Tables}
use Rattle.payoff.specs.Rules.{Payoff, Meaning, Lawful}
use Rattle.pricing.specs.Amounts.{payment_of, amount_of, target_of, floor_of}
use Rattle.rights.specs.Rights.{no_holding}
use Rattle.ledger.specs.declared.lines.HourAnswer.{HourAnswer}
use Rattle.ledger.specs.declared.lines.HourLine.{HourLine}
use Rattle.ledger.specs.declared.lines.RollLine.{RollLine}
use Rattle.ledger.specs.declared.lines.LoadLine.{LoadLine}
use Rattle.ledger.specs.Lines.{lines_of}
use Rattle.ledger.specs.Hour.{credits, short, own_credit, own_short, hour_line_of}
use Rattle.ledger.specs.Figures.{Figures}
use Rattle.ledger.specs.Calls.{RefundAccepted, RefundRefused, CloseAccepted, CloseRefused}
use Rattle.ledger.specs.Posting.{Posting, rent_of, dues_of, answer_of, PostAccepted, PostRefused}
use Rattle.ledger.specs.Ledger.{Event, posted, post_refused, refunded, refund_refused, closed, close_refused, Ledger, blank, with_hour, with_loads, noted, ledger_from, figures_of, owner_line, load_line}

-- a month in one of its states
pub data State : Type 0 where
  is_open : Figures → State
  is_refunded : Figures → State
  is_closed : Figures → State

abbrev pub figures : State → Figures
figures (is_open f) = f
figures (is_refunded f) = f
figures (is_closed f) = f

-- a month with its roll
pub data Cell : Type 0 where
  cell : State → List RollLine → Cell

abbrev pub month_of : Cell → State
month_of (cell s roll) = s

abbrev pub roll_of : Cell → List RollLine
roll_of (cell s roll) = roll

-- a meaning that keeps the payoff rules
abbrev pub Keeps : Meaning → Type 0
Keeps m = (t : Tables) (h : HoldingRow) → Lawful t h (m t h)

-- each call does what its contract says
pub data Step : Cell → Event → Cell → Type 0 where
  posts : {f f' : Figures} {roll roll' : List RollLine} {p : Posting} {a : HourAnswer} {sheet' : List HourLine} {amounts' : List ℤ} → Keeps p.means → PostAccepted f roll p a f' roll' sheet' amounts' → Step (cell (is_open f) roll) (posted p a sheet' amounts') (cell (is_open f') roll')
  posts_not : {f f' : Figures} {roll roll' : List RollLine} {p : Posting} {e : Told} {sheet' : List HourLine} {amounts' : List ℤ} → Keeps p.means → PostRefused f roll p e f' roll' sheet' amounts' → Step (cell (is_open f) roll) (post_refused p e sheet' amounts') (cell (is_open f') roll')
  refunds : {f f' : Figures} {roll roll' : List RollLine} → RefundAccepted f roll f' roll' → Step (cell (is_open f) roll) refunded (cell (is_refunded f') roll')
  refunds_not : {f f' : Figures} {roll roll' : List RollLine} {e : Told} → RefundRefused f roll e f' roll' → Step (cell (is_open f) roll) (refund_refused e) (cell (is_open f') roll')
  closes : {f f' : Figures} {roll : List RollLine} {loads loads' : List LoadLine} → CloseAccepted f roll loads f' loads' → Step (cell (is_refunded f) roll) (closed loads loads') (cell (is_closed f') roll)
  closes_not : {f f' : Figures} {roll : List RollLine} {loads loads' : List LoadLine} {e : Told} → CloseRefused f roll loads e f' loads' → Step (cell (is_refunded f) roll) (close_refused loads e loads') (cell (is_refunded f') roll)

-- an event with the month and roll before it and after it
pub record Move : Type 0 where
  pub before : Cell
  pub event : Event
  pub after : Cell

-- a run of one month by itself: each call on what the one before it left
abbrev pub Chain : Cell → List Move → Cell → Type 0
Chain a [] b = b ≡ a
Chain a (m ∷ ms) b = (m.before ≡ a) × Step m.before m.event m.after × Chain m.after ms b

-- months, numbered, each with its roll
abbrev pub World : Type 0
World = ℕ → Cell

-- a run over all months: a call moves one, and the others stay
abbrev pub Runs : World → List (ℕ × Move) → World → Type 0
Runs w [] w'' = (j : ℕ) → w'' j ≡ w j
Runs w (e ∷ es) w'' =
    (w' : World) × (e.1.before ≡ w e.0) × Step e.1.before e.1.event e.1.after × (e.1.after ≡ w' e.0) × ((j : ℕ) → (j ≢ e.0) → w' j ≡ w j) × Runs w' es w''

-- the moves of one month
abbrev pub moves_of : ℕ → List (ℕ × Move) → List Move
moves_of i [] = []
moves_of i (e ∷ es) = cond (e.0 == i) (e.1 ∷ moves_of i es) (moves_of i es)

abbrev pub events_of : List Move → List Event
events_of ms = map (λ m. m.event) ms

-- an amount by the rule, from the four figures that the meaning gives
pub record ByRule (p : Posting) (h : HoldingRow) (x : ℤ) : Type 0 where
  pub figures : Payoff
  pub served : p.means p.tables h ≡ Some figures
  pub amount : x ≡ amount_of figures
  pub at_most_target : payment_of figures ≤ℤ target_of figures
  pub at_least_floor : floor_of figures ≤ℤ payment_of figures

-- an accepted post of a month of n owners whose ledger was l
pub record HourHolds (n : ℕ) (l : Ledger) (p : Posting) (a : HourAnswer) (sheet' : List HourLine) (amounts' : List ℤ) : Type 0 where
  -- (a) every holding's amount is by the rule, and so between floor and target; what lies past stays
  pub amounts_by_rule : (i : ℕ) → i < length p.holdings → ByRule p (slice_index_or p.holdings i no_holding) (slice_index_or amounts' i (pos 0))
  pub past_stays : drop (length p.holdings) amounts' ≡ drop (length p.holdings) p.amounts
  pub same_length : length amounts' ≡ length p.amounts
  -- (b) the answer and the hour sheet are the ledger's
  pub answer_of_ledger : a ≡ answer_of (rent_of p) (dues_of p) (with_hour l p).balance
  pub sheet_of_ledger : sheet' ≡ lines_of n (hour_line_of (rent_of p) (dues_of p))
  -- (c) no owner is charged more of the shortfall than its credit, and each less than a cent off its exact share
  pub at_most_credit : (o : ℕ) → o < n → own_short (rent_of p) (dues_of p) o ≤ own_credit (dues_of p) o
  pub not_over : 0 < credits (dues_of p) → (o : ℕ) → o < n → own_short (rent_of p) (dues_of p) o * credits (dues_of p) < short (rent_of p) (dues_of p) * own_credit (dues_of p) o + credits (dues_of p)
  pub not_under : 0 < credits (dues_of p) → (o : ℕ) → o < n → short (rent_of p) (dues_of p) * own_credit (dues_of p) o < own_short (rent_of p) (dues_of p) o * credits (dues_of p) + credits (dues_of p)

-- a refused post, refund or close left everything as it was
pub record PostUndone (p : Posting) (before after : Cell) (sheet' : List HourLine) (amounts' : List ℤ) : Type 0 where
  pub cell_stays : after ≡ before
  pub sheet_stays : sheet' ≡ p.sheet
  pub amounts_stay : amounts' ≡ p.amounts

pub record CloseUndone (loads : List LoadLine) (before after : Cell) (loads' : List LoadLine) : Type 0 where
  pub cell_stays : after ≡ before
  pub loads_stay : loads' ≡ loads

-- what holds of one event, where the ledger before it was l
abbrev pub EventHolds : ℕ → Ledger → Cell → Event → Cell → Type 0
EventHolds n l before (posted p a sheet' amounts') after = HourHolds n l p a sheet' amounts'
EventHolds n l before (post_refused p e sheet' amounts') after = PostUndone p before after sheet' amounts'
EventHolds n l before refunded after = Unit {0}
EventHolds n l before (refund_refused e) after = after ≡ before
EventHolds n l before (closed loads loads') after = loads' ≡ lines_of (length loads) (load_line (with_loads l loads) loads)
EventHolds n l before (close_refused loads e loads') after = CloseUndone loads before after loads'

-- what holds of each event of a month, in turn
abbrev pub EachHolds : ℕ → Ledger → List Move → Type 0
EachHolds n l [] = Unit {0}
EachHolds n l (m ∷ ms) = EventHolds n l m.before m.event m.after × EachHolds n (noted l m.event) ms

-- in a ledger every cent that came in is somewhere
abbrev pub Balanced : Ledger → Type 0
Balanced l = l.rents + l.charges + l.shorts ≡ l.credits + l.refunds + l.payments + l.balance

-- what holds of a month of n owners after the moves ms
pub record Holds (n : ℕ) (ms : List Move) (end : Cell) : Type 0 where
  -- of each accepted call (a), (b) and (c), and of each refused one that it changed nothing
  pub events : EachHolds n blank ms
  -- (b) the month's sums and its count of hours, and every roll line, are the ledger's
  pub month_of_ledger : figures (month_of end) ≡ figures_of n (ledger_from blank (events_of ms))
  pub roll_of_ledger : roll_of end ≡ lines_of n (owner_line (ledger_from blank (events_of ms)))
  pub balanced : Balanced (ledger_from blank (events_of ms))
  -- (c) once any load line has a cent, every owner's refunds equal its shortfall charges
  pub made_good : (k : ℕ) → 0 < (ledger_from blank (events_of ms)).paid k → (o : ℕ) → o < n → (ledger_from blank (events_of ms)).refund o ≡ (ledger_from blank (events_of ms)).short o

-- every run from an open month and its roll on, whatever is done to other months between
abbrev pub Stands : ℕ → Figures → List RollLine → Type 0
Stands n f roll = (w w'' : World) (i : ℕ) (es : List (ℕ × Move)) → w i ≡ cell (is_open f) roll → Runs w es w'' → Holds n (moves_of i es) (w'' i)
