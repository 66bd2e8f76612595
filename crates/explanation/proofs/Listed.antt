-- One line more of the list of holdings.
use Rattle.std.proofs.Common.{◌≡◌, ℕ, suc, ◌+◌, ◌<◌, ◌≤◌, List, ◌++◌, length, get_or, drop, sym, ap, ◌∙◌, append_assoc, append-nil, add-one}
use Rattle.std.proofs.lemmas.List.{at_drop_more, at_drop_all}
use Rattle.rows.specs.declared.plain.HoldingRow.{HoldingRow}
use Rattle.payoff.specs.Tables.{Tables}
use Rattle.payoff.specs.Rules.{Meaning}
use Rattle.explanation.specs.Lines.{answer_at, holding_line, lines_from}

pub line_more : (m : Meaning) (t : Tables) (hs : List HoldingRow) (i : ℕ) (d : HoldingRow) (x y : List ℕ) → i < length hs → y ≡ x ++ holding_line i (get_or hs i d) (answer_at m t i (get_or hs i d)) → y ++ lines_from m t (i + 1) (drop (i + 1) hs) ≡ x ++ lines_from m t i (drop i hs)
line_more m t hs i d x y lt e =
    let line = holding_line i (get_or hs i d) (answer_at m t i (get_or hs i d)) in
    let rest = drop (i + 1) hs in
    let s : lines_from m t i (drop i hs) ≡ line ++ lines_from m t (suc i) rest = at_drop_more (lines_from m t i) hs i d lt in
    ap (λ (n : ℕ). y ++ lines_from m t n rest) (add-one i)
    ∙ ap (λ (l : List ℕ). l ++ lines_from m t (suc i) rest) e ∙ append_assoc x line (lines_from m t (suc i) rest) ∙ ap (λ (l : List ℕ). x ++ l) (sym s)

pub line_all : (m : Meaning) (t : Tables) (hs : List HoldingRow) (i : ℕ) (x y : List ℕ) → length hs ≤ i → y ++ lines_from m t i (drop i hs) ≡ x → y ≡ x
line_all m t hs i x y le e = sym (append-nil y) ∙ ap (λ (l : List ℕ). y ++ l) (sym (at_drop_all (lines_from m t i) hs i le)) ∙ e
