-- A run of calls with one call more, and what open promises of it.
use Rattle.std.proofs.Common.{◌≡◌, ℕ, List, [], ◌∷◌, ◌++◌, refl, ap, ◌∙◌}
use Rattle.ledger.specs.declared.lines.RollLine.{RollLine}
use Rattle.ledger.specs.Lines.{lines_of}
use Rattle.ledger.specs.Figures.{Figures}
use Rattle.ledger.specs.Ledger.{Event, Ledger, blank, noted, ledger_from, figures_of, owner_line}
use Rattle.ledger.specs.Runs.{Cell, cell, is_open, Step, Move, Chain, events_of, Stands}
use Rattle.ledger.proofs.Runs.{holds_alone}
use Rattle.month_settlement.specs.Running.{RanTo}

abbrev pub move : Cell → Event → Cell → Move
move a e b = record { before = a; event = e; after = b }

pub chain_more : (a : Cell) (ms : List Move) (b c : Cell) (e : Event) → Chain a ms b → Step b e c → Chain a (ms ++ (move b e c ∷ [])) c
chain_more a [] b c e ch st = (ch, st, refl)
chain_more a (m ∷ ms) b c e ch st = (ch.0, ch.1, chain_more m.after ms b c e ch.2 st)

pub ledger_more : (l : Ledger) (ms : List Move) (b c : Cell) (e : Event) → ledger_from l (events_of (ms ++ (move b e c ∷ []))) ≡ noted (ledger_from l (events_of ms)) e
ledger_more l [] b c e = refl
ledger_more l (m ∷ ms) b c e = ledger_more (noted l m.event) ms b c e

pub ran_none : (f : Figures) (roll : List RollLine) → RanTo f roll blank f roll
ran_none f roll = record { moves = []; chain = refl; ledger = refl }

pub ran_more : {f₀ f f' : Figures} {roll₀ roll roll' : List RollLine} {l : Ledger} (e : Event) → RanTo f₀ roll₀ l f roll → Step (cell (is_open f) roll) e (cell (is_open f') roll') → RanTo f₀ roll₀ (noted l e) f' roll'
ran_more {f = f} {f' = f'} {roll = roll} {roll' = roll'} e r st =
    let a = cell (is_open f) roll in
    let b = cell (is_open f') roll' in
    record {
      moves = r.moves ++ (move a e b ∷ []);
      chain = chain_more _ r.moves a b e r.chain st;
      ledger = ledger_more blank r.moves a b e ∙ ap (λ (l : Ledger). noted l e) r.ledger;
    }

-- the month and the roll are the ledger's
pub ran_figures : (n : ℕ) {f₀ f : Figures} {roll₀ roll : List RollLine} {l : Ledger} → Stands n f₀ roll₀ → RanTo f₀ roll₀ l f roll → f ≡ figures_of n l
ran_figures n {f₀ = f₀} {f = f} {roll₀ = roll₀} {roll = roll} st r =
    (holds_alone n f₀ roll₀ st r.moves (cell (is_open f) roll) r.chain).month_of_ledger ∙ ap (figures_of n) r.ledger

pub ran_roll : (n : ℕ) {f₀ f : Figures} {roll₀ roll : List RollLine} {l : Ledger} → Stands n f₀ roll₀ → RanTo f₀ roll₀ l f roll → roll ≡ lines_of n (owner_line l)
ran_roll n {f₀ = f₀} {f = f} {roll₀ = roll₀} {roll = roll} st r =
    (holds_alone n f₀ roll₀ st r.moves (cell (is_open f) roll) r.chain).roll_of_ledger ∙ ap (λ (l : Ledger). lines_of n (owner_line l)) r.ledger
