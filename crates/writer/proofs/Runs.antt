-- One more of the entries that are written one after the other.
use Rattle.std.proofs.Common.{◌≡◌, ℕ, ◌+◌, ◌<◌, List, [], ◌∷◌, ◌++◌, length, get_or, take, ℤ, sym, refl, ap, ◌∙◌, subst, append-nil, arith}
use Rattle.std.specs.List.{flat_map}
use Rattle.std.proofs.lemmas.Grind.{flat_map-append}
use Rattle.std.proofs.lemmas.List.{take_more}
use Rattle.std.proofs.lemmas.List.Folds.{length-flat_map-take}
use Rattle.codec.specs.Bytes.{twos2}
use Rattle.codec.specs.Records.{encode_factors}
use Rattle.records.specs.Frames.{framed}
use Rattle.buffer.specs.Appends.{Appends, HasRoom}
use Rattle.buffer.specs.declared.output.Output.{Output}
use Rattle.buffer.proofs.Joins.{appended}
use Rattle.format.specs.Hours.{records_of}

pub records_flat : {X : Type 0} (l : ℕ) (f : X → List ℕ) (xs : List X) → flat_map (λ x. framed l (f x)) xs ≡ records_of l f xs
records_flat l f [] = refl
records_flat l f (x ∷ xs) = ap (λ ys. framed l (f x) ++ ys) (records_flat l f xs)

pub factors_flat : (zs : List ℤ) → flat_map twos2 zs ≡ encode_factors zs
factors_flat [] = refl
factors_flat (z ∷ zs) = ap (λ ys. twos2 z ++ ys) (factors_flat zs)

-- after i entries there is room for the next, and with it one more is written
module _ {X : Type 0} (f : X → List ℕ) (xs : List X) (i : ℕ) (x : X) (lt : i < length xs) (is : x ≡ get_or xs i x) (o p : Output) (w : Appends o (flat_map f (take i xs)) p) where
  pub next_room : HasRoom o (length (flat_map f xs)) → HasRoom p (length (f x))
  next_room h =
      let l = length-flat_map-take f xs i x lt in
      let e = ap (λ y. length (f y)) is in
      omega (arith, w.wrote.end, w.wrote.len)

  pub next_put : (q : Output) → Appends p (f x) q → Appends o (flat_map f (take (i + 1) xs)) q
  next_put q v =
      let t : flat_map f (take (i + 1) xs) ≡ flat_map f (take i xs) ++ f x =
      ap (flat_map f) (take_more xs i x lt) ∙ flat_map-append f (take i xs) (get_or xs i x ∷ []) ∙ ap (λ ys. flat_map f (take i xs) ++ ys) (append-nil (f (get_or xs i x))) ∙ ap (λ y. flat_map f (take i xs) ++ f y) (sym is) in
      subst (λ bs. Appends o bs q) (sym t) (appended o p q (flat_map f (take i xs)) (f x) w v)
