-- Tables that are told by the number of each line.
use Rattle.std.proofs.Common.{◌≡◌, ℕ, ◌<◌, ◌≤◌, List, ◌++◌, map, length, get_or, drop, replicate, ap, ◌∙◌, arith}
use Rattle.std.proofs.lemmas.List.FromFn.{length-map-range_with_len, get_or-map-range_with_len, fill_by_all}
use Rattle.std.proofs.lemmas.List.{length-replicate, get_or-replicate, get_or_append_left, get_or-map, length-map, length-append, length-drop, drop_at}
use Rattle.ledger.specs.Lines.{lines_of}

module _ {L : Type 0} where
  pub length_lines : (n : ℕ) (f : ℕ → L) → length (lines_of n f) ≡ n
  length_lines n f = length-map-range_with_len f 0 n

  pub at_line : (n : ℕ) (f : ℕ → L) (k : ℕ) (d : L) → k < n → get_or (lines_of n f) k d ≡ f k
  at_line n f k d h = get_or-map-range_with_len f 0 n k k d h (omega arith)

  pub same_lines : (n : ℕ) (f g : ℕ → L) → ((k : ℕ) → k < n → f k ≡ g k) → lines_of n f ≡ lines_of n g
  same_lines n f g e = fill_by_all g (lines_of n f) n (f 0) (length_lines n f) (λ k h. at_line n f k (f 0) h ∙ e k h)

  pub copies : (n : ℕ) (x : L) → replicate n x ≡ lines_of n (λ k. x)
  copies n x = fill_by_all (λ k. x) (replicate n x) n x (length-replicate n x) (λ k h. get_or-replicate n k x x h)

-- a table whose front was written
module _ {X Y : Type 0} (f : X → Y) (xs : List X) (ys zs : List Y) (e : zs ≡ map f xs ++ drop (length xs) ys) where
  pub front_at : (i : ℕ) (d : X) (z : Y) → i < length xs → get_or zs i z ≡ f (get_or xs i d)
  front_at i d z h =
      let l : i < length (map f xs) = omega (arith, length-map xs f) in
      ap (λ t. get_or t i z) e ∙ get_or_append_left (map f xs) (drop (length xs) ys) z i l ∙ get_or-map f xs i d z h

  pub past_front : drop (length xs) zs ≡ drop (length xs) ys
  past_front = ap (drop (length xs)) e ∙ drop_at (map f xs) (drop (length xs) ys) (length xs) (length-map xs f)

  pub length_front : length xs ≤ length ys → length zs ≡ length ys
  length_front h =
      omega (arith, ap length e, length-append (map f xs) (drop (length xs) ys), length-map xs f, length-drop (length xs) ys)
