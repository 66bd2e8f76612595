-- Every run keeps the ledger.
use Rattle.std.proofs.Common.{◌≡◌, ℕ, zero, suc, ◌<◌, Bool, cond, List, [], ◌∷◌, replicate, sym, refl, ap, ◌∙◌, subst, ⊎_elim, arith}
use Rattle.std.proofs.lemmas.Bool.{eq-eqb, ne_eqb, cases_eq}
use Rattle.ledger.specs.declared.lines.RollLine.{RollLine}
use Rattle.ledger.specs.Lines.{lines_of, clear_roll}
use Rattle.ledger.specs.Figures.{Figures, started}
use Rattle.ledger.specs.Calls.{load_total, mwh_in}
use Rattle.ledger.specs.Ledger.{Event, Ledger, blank, noted, ledger_from, figures_of, owner_line}
use Rattle.ledger.specs.Runs.{is_open, is_refunded, is_closed, figures, Cell, cell, month_of, roll_of, Step, posts, posts_not, refunds, refunds_not, closes, closes_not, Move, Chain, World, Runs, moves_of, events_of, EventHolds, EachHolds, Balanced, Holds, Stands}
use Rattle.ledger.proofs.Sums.{up_to_none}
use Rattle.ledger.proofs.Places.{copies}
use Rattle.ledger.proofs.Steps.{Kept, hour_kept, hour_holds, refund_kept, refund_whole, close_kept, close_loads, paid_of}

-- every owner has had its shortfall charges back
abbrev Whole : ℕ → Ledger → Type 0
Whole n l = (o : ℕ) → o < n → l.refund o ≡ l.short o

abbrev Unpaid : Ledger → Type 0
Unpaid l = (j : ℕ) → l.paid j ≡ 0

abbrev Good : ℕ → Ledger → Cell → Type 0
Good n l (cell (is_open f) roll) = Kept n l f roll × ((o : ℕ) → l.refund o ≡ 0) × Unpaid l
Good n l (cell (is_refunded f) roll) = Kept n l f roll × Unpaid l × (0 < l.balance → Whole n l)
Good n l (cell (is_closed f) roll) = Kept n l f roll × ((j : ℕ) → 0 < l.paid j → Whole n l)

same_open : {f f' : Figures} {roll roll' : List RollLine} → f' ≡ f → roll' ≡ roll → cell (is_open f') roll' ≡ cell (is_open f) roll
same_open p q = cc

same_refunded : {f f' : Figures} {roll : List RollLine} → f' ≡ f → cell (is_refunded f') roll ≡ cell (is_refunded f) roll
same_refunded p = cc

moved : (n : ℕ) (l : Ledger) (a b : Cell) → b ≡ a → Good n l a → Good n l b
moved n l a b e g = let F : Cell → Type 0 = λ c. Good n l c in subst F (sym e) g

step_good : (n : ℕ) (l : Ledger) {a b : Cell} {e : Event} → Step a e b → Good n l a → EventHolds n l a e b × Good n (noted l e) b
step_good n l (posts keeps h) g = (hour_holds g.0 h keeps, (hour_kept g.0 h, g.1, g.2))
step_good n l (posts_not keeps h) g =
    let e = same_open h.month_after h.roll_after in
    (record { cell_stays = e; sheet_stays = h.sheet_after; amounts_stay = h.amounts_after }, moved n l _ _ e g)
step_good n l (refunds h) g = (tt, (refund_kept g.0 h, g.2, λ left o b. refund_whole g.0 left o b (g.1 o)))
step_good n l (refunds_not h) g = let e = same_open h.month_after h.roll_after in (e, moved n l _ _ e g)
step_good n l (closes {loads = loads} h) g =
    (close_loads g.0 g.1 h, (close_kept g.0 h, λ j paid. g.2 (paid_of l.balance (load_total loads) (mwh_in loads) j (omega (arith, g.1 j)))))
step_good n l (closes_not h) g =
    let e = same_refunded h.month_after in
    (record { cell_stays = e; loads_stay = h.loads_after }, moved n l _ _ e g)

chain_good : (n : ℕ) (l : Ledger) (a : Cell) (ms : List Move) (b : Cell) → Chain a ms b → Good n l a → EachHolds n l ms × Good n (ledger_from l (events_of ms)) b
chain_good n l a [] b c g = (tt, moved n l a b c g)
chain_good n l a (m ∷ ms) b c g =
    let s = step_good n l c.1 (moved n l a m.before c.0 g) in
    let r = chain_good n (noted l m.event) m.after ms b c.2 s.1 in
    ((s.0, r.0), r.1)

chain_from : (a a' : Cell) (ms : List Move) (b : Cell) → a' ≡ a → Chain a ms b → Chain a' ms b
chain_from a a' ms b e c = let F : Cell → Type 0 = λ x. Chain x ms b in subst F (sym e) c

-- the moves of one month among those of all are a run of that month
here : (i : ℕ) (e : ℕ × Move) (es : List (ℕ × Move)) (a b : Cell) → e.0 ≡ i → Chain a (e.1 ∷ moves_of i es) b → Chain a (moves_of i (e ∷ es)) b
here i e es a b h c = let F : Bool → Type 0 = λ t. Chain a (cond t (e.1 ∷ moves_of i es) (moves_of i es)) b in subst F (sym (eq-eqb e.0 i h)) c

there : (i : ℕ) (e : ℕ × Move) (es : List (ℕ × Move)) (a b : Cell) → (e.0 ≡ i → ⊥) → Chain a (moves_of i es) b → Chain a (moves_of i (e ∷ es)) b
there i e es a b h c = let F : Bool → Type 0 = λ t. Chain a (cond t (e.1 ∷ moves_of i es) (moves_of i es)) b in subst F (sym (ne_eqb e.0 i h)) c

alone : (i : ℕ) (es : List (ℕ × Move)) (w w'' : World) → Runs w es w'' → Chain (w i) (moves_of i es) (w'' i)
alone i [] w w'' r = r i
alone i (e ∷ es) w w'' r =
    let w' = r.0 in
    let ih = alone i es w' w'' r.5 in
    ⊎_elim (λ (h : e.0 ≡ i). here i e es (w i) (w'' i) h (r.1 ∙ ap w h, r.2, chain_from (w' i) e.1.after (moves_of i es) (w'' i) (r.3 ∙ ap w' h) ih)) (λ (d : e.0 ≡ i → ⊥). there i e es (w i) (w'' i) d (chain_from (w' i) (w i) (moves_of i es) (w'' i) (sym (r.4 i (λ z. d (sym z)))) ih)) (cases_eq e.0 i)

good_month : (n : ℕ) (l : Ledger) (c : Cell) → Good n l c → figures (month_of c) ≡ figures_of n l
good_month n l (cell (is_open f) roll) g = g.0.month
good_month n l (cell (is_refunded f) roll) g = g.0.month
good_month n l (cell (is_closed f) roll) g = g.0.month

good_roll : (n : ℕ) (l : Ledger) (c : Cell) → Good n l c → roll_of c ≡ lines_of n (owner_line l)
good_roll n l (cell (is_open f) roll) g = g.0.lines
good_roll n l (cell (is_refunded f) roll) g = g.0.lines
good_roll n l (cell (is_closed f) roll) g = g.0.lines

good_balanced : (n : ℕ) (l : Ledger) (c : Cell) → Good n l c → Balanced l
good_balanced n l (cell (is_open f) roll) g = g.0.balanced
good_balanced n l (cell (is_refunded f) roll) g = g.0.balanced
good_balanced n l (cell (is_closed f) roll) g = g.0.balanced

good_whole : (n : ℕ) (l : Ledger) (c : Cell) → Good n l c → (j : ℕ) → 0 < l.paid j → Whole n l
good_whole n l (cell (is_open f) roll) g j h = absurd (omega (arith, g.2 j))
good_whole n l (cell (is_refunded f) roll) g j h = absurd (omega (arith, g.1 j))
good_whole n l (cell (is_closed f) roll) g j h = g.1 j h

first : (n : ℕ) (f : Figures) (roll : List RollLine) → f ≡ started n → roll ≡ replicate n clear_roll → Good n blank (cell (is_open f) roll)
first n f roll e c =
    (record { month = e; lines = c ∙ copies n clear_roll; shorts = up_to_none n; balanced = refl }, λ o. refl, λ j. refl)

pub stands : (n : ℕ) (f : Figures) (roll : List RollLine) → f ≡ started n → roll ≡ replicate n clear_roll → Stands n f roll
stands n f roll e c w w'' i es start r =
    let ms = moves_of i es in
    let l = ledger_from blank (events_of ms) in
    let g = chain_good n blank (w i) ms (w'' i) (alone i es w w'' r) (moved n blank _ (w i) start (first n f roll e c)) in
    record {
      events = g.0;
      month_of_ledger = good_month n l (w'' i) g.1;
      roll_of_ledger = good_roll n l (w'' i) g.1;
      balanced = good_balanced n l (w'' i) g.1;
      made_good = good_whole n l (w'' i) g.1;
    }

-- one month by itself: a world in which the others rest
abbrev world : Cell → Cell → World
world rest a zero = a
world rest a (suc j) = rest

abbrev tagged : List Move → List (ℕ × Move)
tagged [] = []
tagged (m ∷ ms) = (0, m) ∷ tagged ms

others : (rest a b : Cell) (j : ℕ) → (j ≡ 0 → ⊥) → world rest b j ≡ world rest a j
others rest a b zero d = absurd (d refl)
others rest a b (suc j) d = refl

world_same : (rest a b : Cell) → b ≡ a → (j : ℕ) → world rest b j ≡ world rest a j
world_same rest a b e zero = e
world_same rest a b e (suc j) = refl

runs_of : (rest a : Cell) (ms : List Move) (b : Cell) → Chain a ms b → Runs (world rest a) (tagged ms) (world rest b)
runs_of rest a [] b c = world_same rest a b c
runs_of rest a (m ∷ ms) b c = (world rest m.after, c.0, c.1, refl, others rest a m.after, runs_of rest m.after ms b c.2)

tagged_moves : (ms : List Move) → moves_of 0 (tagged ms) ≡ ms
tagged_moves [] = refl
tagged_moves (m ∷ ms) = ap (λ l. m ∷ l) (tagged_moves ms)

-- what holds of a run of one month alone
pub holds_alone : (n : ℕ) (f : Figures) (roll : List RollLine) → Stands n f roll → (ms : List Move) (b : Cell) → Chain (cell (is_open f) roll) ms b → Holds n ms b
holds_alone n f roll st ms b c =
    let a = cell (is_open f) roll in
    let F : List Move → Type 0 = λ l. Holds n l b in
    subst F (tagged_moves ms) (st (world a a) (world a b) 0 (tagged ms) refl (runs_of a a ms b c))
