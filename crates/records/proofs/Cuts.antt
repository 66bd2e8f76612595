-- The first record of bytes, from what was written, and back.
use Rattle.std.proofs.Common.{◌≡◌, ℕ, suc, ◌+◌, ◌/◌, ◌%◌, ◌<◌, ◌≤◌, Bool, true, false, leb, List, [], ◌∷◌, ◌++◌, length, take, drop, sym, refl, ap, ◌∙◌, arith, length-append, le-leb, leb-true}
use Rattle.std.proofs.lemmas.List.{length-take-le, take-append-drop, take_at, drop_at}
use Rattle.codec.specs.Bytes.{Bytes, be2, num2}
use Rattle.codec.proofs.Trips.{be2_num2, num2_be2}
use Rattle.records.specs.Frames.{End, One, frame_of, cut, lettered, framed}

lettered_inv : (body a f rest : List ℕ) (l : ℕ) → lettered body a ≡ One l f rest → (body ≡ l ∷ f) × (a ≡ rest)
lettered_inv [] a f rest l e = let z : ◌≡◌ {A = ℕ} 0 1 = cc in absurd (omega arith)
lettered_inv (x ∷ xs) a f rest l e = (cc, cc)

cut_inv : (b : Bool) (n : ℕ) (xs f rest : List ℕ) (l : ℕ) → cut b n xs ≡ One l f rest → (b ≡ true) × (take n xs ≡ l ∷ f) × (drop n xs ≡ rest)
cut_inv true n xs f rest l e = let p = lettered_inv (take n xs) (drop n xs) f rest l e in (refl, p.0, p.1)
cut_inv false n xs f rest l e = let z : ◌≡◌ {A = ℕ} 0 1 = cc in absurd (omega arith)

-- bytes that begin with a record are its bytes and what follows it
pub frame_canon : (bs : List ℕ) (l : ℕ) (f rest : List ℕ) → Bytes bs → frame_of bs ≡ One l f rest → bs ≡ framed l f ++ rest
frame_canon [] l f rest h e = let z : ◌≡◌ {A = ℕ} 0 1 = cc in absurd (omega arith)
frame_canon (x ∷ []) l f rest h e = let z : ◌≡◌ {A = ℕ} 0 1 = cc in absurd (omega arith)
frame_canon (x ∷ y ∷ xs) l f rest h e =
    let p = cut_inv (leb (num2 x y) (length xs)) (num2 x y) xs f rest l e in
    let le : num2 x y ≤ length xs = leb-true (num2 x y) (length xs) p.0 in
    let n : num2 x y ≡ suc (length f) = sym (length-take-le (num2 x y) xs le) ∙ ap length p.1 in
    let s = take-append-drop (num2 x y) xs in
    let r : be2 (suc (length f)) ≡ x ∷ y ∷ [] = ap be2 (sym n) ∙ be2_num2 x y (h 0) (h 1) in
    let t : xs ≡ l ∷ (f ++ rest) = sym s ∙ ap (λ ys. ys ++ drop (num2 x y) xs) p.1 ∙ ap (λ ys. l ∷ (f ++ ys)) p.2 in
    ap (λ ys. x ∷ y ∷ ys) t ∙ ap (λ ys. ys ++ (l ∷ (f ++ rest))) (sym r)

cut_never_ends : (b : Bool) (n : ℕ) (xs : List ℕ) → cut b n xs ≡ End → ⊥
cut_never_ends false n xs e = let z : ◌≡◌ {A = ℕ} 0 1 = cc in omega arith
cut_never_ends true n xs e = body (take n xs) e
  where
    body : (ys : List ℕ) → lettered ys (drop n xs) ≡ End → ⊥
    body [] e = let z : ◌≡◌ {A = ℕ} 0 1 = cc in omega arith
    body (y ∷ ys) e = let z : ◌≡◌ {A = ℕ} 0 1 = cc in omega arith

pub frame_end : (bs : List ℕ) → frame_of bs ≡ End → bs ≡ []
frame_end [] e = refl
frame_end (x ∷ []) e = let z : ◌≡◌ {A = ℕ} 0 1 = cc in absurd (omega arith)
frame_end (x ∷ y ∷ xs) e = absurd (cut_never_ends (leb (num2 x y) (length xs)) (num2 x y) xs e)

-- the other way
pub frame_back : (l : ℕ) (f rest : List ℕ) → suc (length f) < 65536 → frame_of (framed l f ++ rest) ≡ One l f rest
frame_back l f rest h =
    let n : num2 (suc (length f) / 256 % 256) (suc (length f) % 256) ≡ suc (length f) = num2_be2 (suc (length f)) (omega arith) in
    let a : length (l ∷ (f ++ rest)) ≡ suc (length f) + length rest = ap suc (length-append f rest) ∙ omega arith in
    let b : leb (suc (length f)) (length (l ∷ (f ++ rest))) ≡ true = le-leb _ _ (omega arith) in
    let t : take (suc (length f)) (l ∷ (f ++ rest)) ≡ l ∷ f = ap (λ ys. l ∷ ys) (take_at f rest (length f) refl) in
    let d : drop (suc (length f)) (l ∷ (f ++ rest)) ≡ rest = drop_at f rest (length f) refl in
    ap (λ m. cut (leb m (length (l ∷ (f ++ rest)))) m (l ∷ (f ++ rest))) n
    ∙ ap (λ y. cut y (suc (length f)) (l ∷ (f ++ rest))) b
    ∙ ap (λ ys. lettered ys (drop (suc (length f)) (l ∷ (f ++ rest)))) t
    ∙ ap (λ ys. One l f ys) d
