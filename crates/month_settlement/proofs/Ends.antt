-- The end of a month: its run with the refund and the close.
use Rattle.std.proofs.Common.{◌≡◌, ℕ, ◌<◌, List, [], ◌∷◌, ◌++◌, map, length, Some, None, Option, Result, sym, ap, ◌∙◌, subst}
use Rattle.refusals.specs.declared.refusal.Refusal.{Refusal}
use Rattle.refusals.specs.Numbers.{Told, told, told_by}
use Rattle.payoff.specs.Rules.{Meaning}
use Rattle.ledger.specs.declared.lines.LoadLine.{LoadLine}
use Rattle.ledger.specs.declared.lines.RollLine.{RollLine}
use Rattle.ledger.specs.Lines.{lines_of}
use Rattle.ledger.specs.Figures.{Figures}
use Rattle.ledger.specs.Calls.{first_refusal, refund_test, close_test, RefundAccepted, CloseAccepted}
use Rattle.ledger.specs.Ledger.{Ledger, blank, noted, ledger_from, with_refund, with_loads, refunded, closed, figures_of, owner_line, load_line}
use Rattle.ledger.specs.Runs.{cell, is_open, is_refunded, is_closed, refunds, closes, Move, Chain, events_of, EventHolds, EachHolds, Holds, Balanced, Stands}
use Rattle.ledger.proofs.Runs.{holds_alone}
use Rattle.month_settlement.specs.declared.outcomes.BookedHour.{BookedHour}
use Rattle.month_settlement.specs.declared.month_error.MonthError.{MonthError}
use Rattle.month_settlement.specs.declared.month_error.MonthError.TheVariants.{Refused}
use Rattle.month_settlement.specs.Books.{outcomes_of, hours_ledger, roll_test, ending_test, month_test, MonthSettled, MonthRefused}
use Rattle.month_settlement.specs.Running.{RanTo, PostedAll, Ended, EndRefused, no_refund, no_close}
use Rattle.month_settlement.proofs.Ran.{move, chain_more, ledger_more, ran_figures, ran_roll}

-- what holds of the last move
each_last : (n : ℕ) (l : Ledger) (ms : List Move) (m : Move) → EachHolds n l (ms ++ (m ∷ [])) → EventHolds n (ledger_from l (events_of ms)) m.before m.event m.after
each_last n l [] m h = h.0
each_last n l (x ∷ ms) m h = each_last n (noted l x.event) ms m h.1

-- a month whose hours are posted, of which l is the ledger, once it is refunded
module _ (n : ℕ) (f₀ f f₁ : Figures) (roll₀ roll roll₁ : List RollLine) (l : Ledger) (st : Stands n f₀ roll₀) (r : RanTo f₀ roll₀ l f roll) (acc : RefundAccepted f roll f₁ roll₁) where
  abbrev refund_moves : List Move
  refund_moves = r.moves ++ (move (cell (is_open f) roll) refunded (cell (is_refunded f₁) roll₁) ∷ [])

  refund_chain : Chain (cell (is_open f₀) roll₀) refund_moves (cell (is_refunded f₁) roll₁)
  refund_chain = chain_more _ r.moves _ _ refunded r.chain (refunds acc)

  refund_ledger : ledger_from blank (events_of refund_moves) ≡ with_refund l
  refund_ledger = ledger_more blank r.moves (cell (is_open f) roll) (cell (is_refunded f₁) roll₁) refunded ∙ ap with_refund r.ledger

  refund_holds : Holds n refund_moves (cell (is_refunded f₁) roll₁)
  refund_holds = holds_alone n f₀ roll₀ st refund_moves (cell (is_refunded f₁) roll₁) refund_chain

  refund_test_lem : refund_test (figures_of n l) (lines_of n (owner_line l)) ≡ None
  refund_test_lem =
      let F : Figures → Type 0 = λ g. refund_test g roll ≡ None in
      let G : List RollLine → Type 0 = λ x. refund_test (figures_of n l) x ≡ None in
      subst G (ran_roll n st r) (subst F (ran_figures n st r) acc.tests)

  -- the test of close, by the ledger
  close_by_ledger : (loads : List LoadLine) (o : Option Told) → close_test f₁ roll₁ loads ≡ o → close_test (figures_of n (with_refund l)) (lines_of n (owner_line (with_refund l))) loads ≡ o
  close_by_ledger loads o h =
      let fe : f₁ ≡ figures_of n (with_refund l) = refund_holds.month_of_ledger ∙ ap (figures_of n) refund_ledger in
      let re : roll₁ ≡ lines_of n (owner_line (with_refund l)) = refund_holds.roll_of_ledger ∙ ap (λ (x : Ledger). lines_of n (owner_line x)) refund_ledger in
      let F : Figures → Type 0 = λ g. close_test g roll₁ loads ≡ o in
      let G : List RollLine → Type 0 = λ x. close_test (figures_of n (with_refund l)) x loads ≡ o in
      subst G re (subst F fe h)

  end_test : (loads : List LoadLine) (o : Option Told) → close_test f₁ roll₁ loads ≡ o → ending_test n l loads ≡ o
  end_test loads o h = ap (λ (t : Option Told). first_refusal t (close_test (figures_of n (with_refund l)) (lines_of n (owner_line (with_refund l))) loads)) refund_test_lem ∙ close_by_ledger loads o h

  -- and closed
  module _ (f₂ : Figures) (loads loads' : List LoadLine) (cl : CloseAccepted f₁ roll₁ loads f₂ loads') where
    abbrev close_move : Move
    close_move = move (cell (is_refunded f₁) roll₁) (closed loads loads') (cell (is_closed f₂) roll₁)

    abbrev close_moves : List Move
    close_moves = refund_moves ++ (close_move ∷ [])

    pub close_ledger : ledger_from blank (events_of close_moves) ≡ with_loads (with_refund l) loads
    close_ledger = ledger_more blank refund_moves (cell (is_refunded f₁) roll₁) (cell (is_closed f₂) roll₁) (closed loads loads') ∙ ap (λ (x : Ledger). with_loads x loads) refund_ledger

    pub close_holds : Holds n close_moves (cell (is_closed f₂) roll₁)
    close_holds = holds_alone n f₀ roll₀ st close_moves (cell (is_closed f₂) roll₁) (chain_more _ refund_moves _ _ (closed loads loads') refund_chain (closes cl))

    pub close_paid : loads' ≡ lines_of (length loads) (load_line (with_loads (with_refund l) loads) loads)
    close_paid = each_last n blank refund_moves close_move close_holds.events ∙ ap (λ (x : Ledger). lines_of (length loads) (load_line (with_loads x loads) loads)) refund_ledger

month_test_lem : (m : Meaning) (n : ℕ) (packages : List (List ℕ)) (loads : List LoadLine) (o : Option Told) → roll_test n ≡ None → ending_test n (hours_ledger m n packages) loads ≡ o → month_test m n packages loads ≡ o
month_test_lem m n packages loads o h e = ap (λ (t : Option Told). first_refusal t (ending_test n (hours_ledger m n packages) loads)) h ∙ e

pub settled_end : (m : Meaning) (n : ℕ) (packages : List (List ℕ)) (f₀ f f₂ : Figures) (roll₀ roll roll₁ : List RollLine) (hours₀ hours : List (Result BookedHour Refusal)) (loads loads' : List LoadLine) → Stands n f₀ roll₀ → roll_test n ≡ None → hours₀ ≡ [] → PostedAll m n packages f₀ roll₀ hours₀ f roll hours → Ended f roll loads f₂ roll₁ loads' → MonthSettled m n packages loads hours f₂ roll₁ loads'
settled_end m n packages f₀ f f₂ roll₀ roll roll₁ hours₀ hours loads loads' st rt none all end =
    let l = hours_ledger m n packages in
    let f₁ = end.between in
    let h = close_holds n f₀ f f₁ roll₀ roll roll₁ l st all.ran end.refund f₂ loads loads' end.close in
    let e = close_ledger n f₀ f f₁ roll₀ roll roll₁ l st all.ran end.refund f₂ loads loads' end.close in
    let B : Ledger → Type 0 = λ x. Balanced x in
    let G : Ledger → Type 0 = λ x. (k : ℕ) → 0 < x.paid k → (o : ℕ) → o < n → x.refund o ≡ x.short o in
    record {
      tests = month_test_lem m n packages loads None rt (end_test n f₀ f f₁ roll₀ roll roll₁ l st all.ran end.refund loads None end.close.tests);
      outcomes = all.told ∙ ap (λ (hs : List (Result BookedHour Refusal)). map (told_by (λ h. h)) hs ++ outcomes_of m n blank packages) none;
      month = h.month_of_ledger ∙ ap (figures_of n) e;
      owners = h.roll_of_ledger ∙ ap (λ (x : Ledger). lines_of n (owner_line x)) e;
      paid = close_paid n f₀ f f₁ roll₀ roll roll₁ l st all.ran end.refund f₂ loads loads' end.close;
      balanced = subst B e h.balanced;
      made_good = subst G e h.made_good;
    }

pub refused_end : (m : Meaning) (n : ℕ) (packages : List (List ℕ)) (f₀ f : Figures) (roll₀ roll : List RollLine) (hours₀ hours : List (Result BookedHour Refusal)) (loads loads' : List LoadLine) (e : Refusal) → Stands n f₀ roll₀ → roll_test n ≡ None → PostedAll m n packages f₀ roll₀ hours₀ f roll hours → EndRefused f roll loads (told e) loads' → MonthRefused m n packages loads (Refused e) loads'
refused_end m n packages f₀ f roll₀ roll hours₀ hours loads loads' e st rt all (no_refund f' roll' ref le) =
    let l = hours_ledger m n packages in
    let F : Figures → Type 0 = λ g. refund_test g roll ≡ Some (told e) in
    let G : List RollLine → Type 0 = λ x. refund_test (figures_of n l) x ≡ Some (told e) in
    let t : refund_test (figures_of n l) (lines_of n (owner_line l)) ≡ Some (told e) = subst G (ran_roll n st all.ran) (subst F (ran_figures n st all.ran) ref.tests) in
    record { why = month_test_lem m n packages loads (Some (told e)) rt (ap (λ (x : Option Told). first_refusal x (close_test (figures_of n (with_refund l)) (lines_of n (owner_line (with_refund l))) loads)) t); loads_stay = le }
refused_end m n packages f₀ f roll₀ roll hours₀ hours loads loads' e st rt all (no_close f₁ f₂ roll₁ acc ref) =
    record { why = month_test_lem m n packages loads (Some (told e)) rt (end_test n f₀ f f₁ roll₀ roll roll₁ (hours_ledger m n packages) st all.ran acc loads (Some (told e)) ref.tests); loads_stay = ref.loads_after }

-- the same month, where the owners are counted otherwise, and its roll stands in front of a table
pub settled_as : (m : Meaning) (n n' : ℕ) (packages : List (List ℕ)) (loads loads' : List LoadLine) (hours : List (Result BookedHour Refusal)) (f f' : Figures) (roll roll' : List RollLine) → n ≡ n' → f' ≡ f → roll' ≡ roll → MonthSettled m n packages loads hours f roll loads' → MonthSettled m n' packages loads hours f' roll' loads'
settled_as m n n' packages loads loads' hours f f' roll roll' ne fe re h =
    let N : ℕ → Type 0 = λ k. MonthSettled m k packages loads hours f' roll' loads' in
    let F : Figures → Type 0 = λ g. MonthSettled m n packages loads hours g roll' loads' in
    let R : List RollLine → Type 0 = λ x. MonthSettled m n packages loads hours f x loads' in
    subst N ne (subst F (sym fe) (subst R (sym re) h))

pub refused_as : (m : Meaning) (n n' : ℕ) (packages : List (List ℕ)) (loads loads' : List LoadLine) (e : MonthError) → n ≡ n' → MonthRefused m n packages loads e loads' → MonthRefused m n' packages loads e loads'
refused_as m n n' packages loads loads' e ne h = let N : ℕ → Type 0 = λ k. MonthRefused m k packages loads e loads' in subst N ne h
