-- One line more of the entries of a table.
use Rattle.std.proofs.Common.{◌≡◌, ℕ, suc, ◌+◌, ◌<◌, ◌≤◌, List, ◌++◌, length, get_or, drop, sym, ap, ◌∙◌, append_assoc, append-nil, add-one}
use Rattle.std.proofs.lemmas.List.{at_drop_more, at_drop_all, get_or_default}
use Rattle.line_text.specs.Lines.{lines_by}

pub line_more : {X : Type 0} (line : ℕ → X → List ℕ) (xs : List X) (i : ℕ) (v : X) (x y : List ℕ) → i < length xs → v ≡ get_or xs i v → y ≡ x ++ line i v → y ++ lines_by line (i + 1) (drop (i + 1) xs) ≡ x ++ lines_by line i (drop i xs)
line_more line xs i v x y lt ve e =
    let rest = drop (i + 1) xs in
    let s : lines_by line i (drop i xs) ≡ line i v ++ lines_by line (suc i) rest = at_drop_more (lines_by line i) xs i v lt ∙ ap (λ w. line i w ++ lines_by line (suc i) rest) (sym ve) in
    ap (λ (n : ℕ). y ++ lines_by line n rest) (add-one i)
    ∙ ap (λ (l : List ℕ). l ++ lines_by line (suc i) rest) e ∙ append_assoc x (line i v) (lines_by line (suc i) rest) ∙ ap (λ (l : List ℕ). x ++ l) (sym s)

pub line_all : {X : Type 0} (line : ℕ → X → List ℕ) (xs : List X) (i : ℕ) (x y : List ℕ) → length xs ≤ i → y ++ lines_by line i (drop i xs) ≡ x → y ≡ x
line_all line xs i x y le e = sym (append-nil y) ∙ ap (λ (l : List ℕ). y ++ l) (sym (at_drop_all (lines_by line i) xs i le)) ∙ e

-- the same, of an entry that is read at a default
pub line_at : {X : Type 0} (line : ℕ → X → List ℕ) (xs : List X) (i : ℕ) (d : X) (x y : List ℕ) → i < length xs → y ≡ x ++ line i (get_or xs i d) → y ++ lines_by line (i + 1) (drop (i + 1) xs) ≡ x ++ lines_by line i (drop i xs)
line_at line xs i d x y lt e = line_more line xs i (get_or xs i d) x y lt (get_or_default xs i d (get_or xs i d) lt) e
