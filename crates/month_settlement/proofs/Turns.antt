-- One package more.
use Rattle.std.proofs.Common.{◌≡◌, ℕ, ◌+◌, ◌<◌, ◌≤◌, List, [], ◌∷◌, ◌++◌, map, length, get_or, drop, Some, None, Ok, Err, vec_items, Option, Result, Vec, sym, refl, ap, ◌∙◌, subst}
use Rattle.std.specs.declared.alloc.Global.{Global}
use Rattle.std.proofs.lemmas.List.{at_drop_more, at_drop_all, append_assoc, append-nil, map-append}
use Rattle.refusals.specs.declared.refusal.Refusal.{Refusal}
use Rattle.refusals.specs.Numbers.{Told, told_by}
use Rattle.payoff.specs.Rules.{Meaning}
use Rattle.ledger.specs.declared.lines.HourAnswer.{HourAnswer}
use Rattle.ledger.specs.declared.lines.RollLine.{RollLine}
use Rattle.ledger.specs.Lines.{lines_of}
use Rattle.ledger.specs.Figures.{Figures}
use Rattle.ledger.specs.Hour.{left}
use Rattle.ledger.specs.Posting.{Posting, rent_of, dues_of, answer_of, post_test}
use Rattle.ledger.specs.Ledger.{Ledger, blank, with_hour, posted, post_refused, figures_of, owner_line}
use Rattle.ledger.specs.Runs.{Keeps, posts, posts_not, Stands}
use Rattle.month_settlement.specs.declared.outcomes.BookedHour.{BookedHour}
use Rattle.month_settlement.specs.Books.{bytes_of, posting_in, passing, postable, hour_in, entered, outcome, ledger_of, outcomes_of}
use Rattle.month_settlement.specs.Running.{Booking, RanTo, SoFar, PostedAll}
use Rattle.month_settlement.specs.Running as run
use Rattle.month_settlement.proofs.Ran.{ran_none, ran_more, ran_figures, ran_roll}

-- what one package does to the run, and what is told of it
pub record Turn (m : Meaning) (n : ℕ) (bs : List ℕ) (f₀ : Figures) (roll₀ : List RollLine) (l : Ledger) (res : Result BookedHour Told) (f' : Figures) (roll' : List RollLine) : Type 0 where
  pub ran : RanTo f₀ roll₀ (entered l (hour_in m n l bs)) f' roll'
  pub told : res ≡ outcome l (hour_in m n l bs)

-- by what the hour is known to be
turn_as : (m : Meaning) (n : ℕ) (bs : List ℕ) (f₀ : Figures) (roll₀ : List RollLine) (l : Ledger) (res : Result BookedHour Told) (f' : Figures) (roll' : List RollLine) (x : Result Posting Told) → hour_in m n l bs ≡ x → RanTo f₀ roll₀ (entered l x) f' roll' → res ≡ outcome l x → Turn m n bs f₀ roll₀ l res f' roll'
turn_as m n bs f₀ roll₀ l res f' roll' x e r o =
    let F : Result Posting Told → Type 0 = λ y. RanTo f₀ roll₀ (entered l y) f' roll' in
    record { ran = subst F (sym e) r; told = o ∙ ap (outcome l) (sym e) }

-- the test of a post, by the ledger
by_ledger : (n : ℕ) (f : Figures) (roll : List RollLine) (l : Ledger) (p : Posting) (o : Option Told) → f ≡ figures_of n l → roll ≡ lines_of n (owner_line l) → post_test f roll p ≡ o → post_test (figures_of n l) (lines_of n (owner_line l)) p ≡ o
by_ledger n f roll l p o fe re h =
    let F : Figures → Type 0 = λ g. post_test g roll p ≡ o in
    let G : List RollLine → Type 0 = λ r. post_test (figures_of n l) r p ≡ o in
    subst G re (subst F fe h)

booked_is : (h : BookedHour) (x : ℕ) (a : HourAnswer) → h.hour ≡ x → h.answer ≡ a → ◌≡◌ {A = BookedHour} h (record { hour = x; answer = a })
booked_is h x a e d =
    ap (λ (y : ℕ). record { hour = y; answer = h.answer }) e ∙ ap (λ (y : HourAnswer). record { hour = x; answer = y }) d

pub turn : (m : Meaning) (n : ℕ) (bs : List ℕ) (f₀ f f' : Figures) (roll₀ roll roll' : List RollLine) (l : Ledger) (res : Result BookedHour Told) → Stands n f₀ roll₀ → Keeps m → RanTo f₀ roll₀ l f roll → Booking m n bs f roll res f' roll' → Turn m n bs f₀ roll₀ l res f' roll'
turn m n bs f₀ f f' roll₀ roll roll' l res st keeps r (run.unread {e = e} re fe rle) =
    let F : Figures → Type 0 = λ g. RanTo f₀ roll₀ l g roll in
    let G : List RollLine → Type 0 = λ x. RanTo f₀ roll₀ l f' x in
    turn_as m n bs f₀ roll₀ l _ f' roll' (Err e) (ap (postable m n l) re) (subst G (sym rle) (subst F (sym fe) r)) refl
turn m n bs f₀ f f' roll₀ roll roll' l res st keeps r (run.unposted {e = e} t s x re ref) =
    let p = posting_in m n t in
    let test = by_ledger n f roll l p (Some e) (ran_figures n st r) (ran_roll n st r) ref.tests in
    turn_as m n bs f₀ roll₀ l _ f' roll' (Err e) (ap (postable m n l) re ∙ ap (λ (o : Option Told). passing o p) test) (ran_more (post_refused p e s x) r (posts_not keeps ref)) refl
turn m n bs f₀ f f' roll₀ roll roll' l res st keeps r (run.posted {h = h} t s x re he acc) =
    let p = posting_in m n t in
    let test = by_ledger n f roll l p None (ran_figures n st r) (ran_roll n st r) acc.tests in
    let reached : f'.balance ≡ (with_hour l p).balance = ap (λ (g : Figures). g.balance) acc.month_after ∙ ap (λ (g : Figures). Prim.Native.Nat.◌+◌ g.balance (left (rent_of p) (dues_of p))) (ran_figures n st r) in
    let answer = acc.answer ∙ ap (answer_of (rent_of p) (dues_of p)) reached in
    turn_as m n bs f₀ roll₀ l _ f' roll' (Ok p) (ap (postable m n l) re ∙ ap (λ (o : Option Told). passing o p) test) (ran_more (posted p h.answer s x) r (posts keeps acc)) (ap (λ (b : BookedHour). Ok b) (booked_is h _ _ he answer))

-- before the first package, after one more, and after the last
abbrev tell : List (Result BookedHour Refusal) → List (Result BookedHour Told)
tell hs = map (told_by (λ h. h)) hs

pub so_far_none : (m : Meaning) (n : ℕ) (vs : List (Vec ℕ Global)) (f : Figures) (roll : List RollLine) (hs : List (Result BookedHour Refusal)) → SoFar m n vs 0 f roll hs f roll hs
so_far_none m n vs f roll hs = record { ledger = blank; ran = ran_none f roll; same_end = refl; told = refl }

pub so_far_more : (m : Meaning) (n : ℕ) (vs : List (Vec ℕ Global)) (i : ℕ) (v : Vec ℕ Global) (f₀ f f' : Figures) (roll₀ roll roll' : List RollLine) (hs₀ hs hs' : List (Result BookedHour Refusal)) (r : Result BookedHour Refusal) → Stands n f₀ roll₀ → Keeps m → i < length vs → v ≡ get_or vs i v → Booking m n (vec_items v) f roll (told_by (λ h. h) r) f' roll' → hs' ≡ hs ++ (r ∷ []) → SoFar m n vs i f₀ roll₀ hs₀ f roll hs → SoFar m n vs (i + 1) f₀ roll₀ hs₀ f' roll' hs'
so_far_more m n vs i v f₀ f f' roll₀ roll roll' hs₀ hs hs' r st keeps lt ve b he so =
    let l = so.ledger in
    let t = turn m n (vec_items v) f₀ f f' roll₀ roll roll' l (told_by (λ h. h) r) st keeps so.ran b in
    let l' = entered l (hour_in m n l (vec_items v)) in
    let rest = bytes_of (drop (i + 1) vs) in
    let L : List (Vec ℕ Global) → Ledger = λ ws. ledger_of m n l (bytes_of ws) in
    let O : List (Vec ℕ Global) → List (Result BookedHour Told) = λ ws. outcomes_of m n l (bytes_of ws) in
    let here : ledger_of m n l (bytes_of (drop i vs)) ≡ ledger_of m n l' rest = at_drop_more L vs i v lt ∙ ap (λ (w : Vec ℕ Global). L (w ∷ drop (i + 1) vs)) (sym ve) in
    let line : outcomes_of m n l (bytes_of (drop i vs)) ≡ outcome l (hour_in m n l (vec_items v)) ∷ outcomes_of m n l' rest = at_drop_more O vs i v lt ∙ ap (λ (w : Vec ℕ Global). O (w ∷ drop (i + 1) vs)) (sym ve) in
    let heads : tell hs' ≡ tell hs ++ (outcome l (hour_in m n l (vec_items v)) ∷ []) = ap tell he ∙ map-append (told_by (λ h. h)) hs (r ∷ []) ∙ ap (λ (x : Result BookedHour Told). tell hs ++ (x ∷ [])) t.told in
    let joined : tell hs' ++ outcomes_of m n l' rest ≡ tell hs ++ outcomes_of m n l (bytes_of (drop i vs)) = ap (λ (x : List (Result BookedHour Told)). x ++ outcomes_of m n l' rest) heads ∙ append_assoc (tell hs) (outcome l (hour_in m n l (vec_items v)) ∷ []) (outcomes_of m n l' rest) ∙ ap (λ (x : List (Result BookedHour Told)). tell hs ++ x) (sym line) in
    record { ledger = l'; ran = t.ran; same_end = sym here ∙ so.same_end; told = joined ∙ so.told }

pub so_far_all : (m : Meaning) (n : ℕ) (vs : List (Vec ℕ Global)) (i : ℕ) (f₀ f : Figures) (roll₀ roll : List RollLine) (hs₀ hs : List (Result BookedHour Refusal)) → length vs ≤ i → SoFar m n vs i f₀ roll₀ hs₀ f roll hs → PostedAll m n (bytes_of vs) f₀ roll₀ hs₀ f roll hs
so_far_all m n vs i f₀ f roll₀ roll hs₀ hs le so =
    let l = so.ledger in
    let L : List (Vec ℕ Global) → Ledger = λ ws. ledger_of m n l (bytes_of ws) in
    let O : List (Vec ℕ Global) → List (Result BookedHour Told) = λ ws. tell hs ++ outcomes_of m n l (bytes_of ws) in
    let F : Ledger → Type 0 = λ x. RanTo f₀ roll₀ x f roll in
    let end : l ≡ ledger_of m n blank (bytes_of vs) = sym (at_drop_all L vs i le) ∙ so.same_end in
    record { ran = subst F end so.ran; told = sym (append-nil (tell hs)) ∙ sym (at_drop_all O vs i le) ∙ so.told }

-- the same booking, by other names for its bytes and for how many owners there are
pub booking_as : (m : Meaning) (n n' : ℕ) (bs bs' : List ℕ) (f f' : Figures) (roll roll' : List RollLine) (res : Result BookedHour Told) → n ≡ n' → bs ≡ bs' → Booking m n' bs' f roll res f' roll' → Booking m n bs f roll res f' roll'
booking_as m n n' bs bs' f f' roll roll' res e d b =
    let F : ℕ → Type 0 = λ k. Booking m k bs' f roll res f' roll' in
    let G : List ℕ → Type 0 = λ x. Booking m n x f roll res f' roll' in
    subst G (sym d) (subst F (sym e) b)

pub posted_as_lem : (m : Meaning) (n n' : ℕ) (packages : List (List ℕ)) (f₀ f : Figures) (roll₀ roll : List RollLine) (hs₀ hs : List (Result BookedHour Refusal)) → n' ≡ n → Stands n f₀ roll₀ → (Stands n' f₀ roll₀ → PostedAll m n' packages f₀ roll₀ hs₀ f roll hs) → PostedAll m n packages f₀ roll₀ hs₀ f roll hs
posted_as_lem m n n' packages f₀ f roll₀ roll hs₀ hs e st all =
    let A : ℕ → Type 0 = λ k. Stands k f₀ roll₀ → PostedAll m k packages f₀ roll₀ hs₀ f roll hs in
    subst A e all st
