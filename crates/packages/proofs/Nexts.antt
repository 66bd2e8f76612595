-- The next of records that were written one after the other.
use Rattle.std.proofs.Common.{◌≡◌, ℕ, zero, suc, ◌+◌, ◌-◌, ◌*◌, ◌<◌, ◌≤◌, true, leb, List, [], ◌∷◌, ◌++◌, length, take, drop, set, ℤ, Some, None, Option, sym, refl, ap, ◌∙◌, append_assoc, append-nil, mul-le-mul_right, suc-mul, arith, length-drop, le-leb}
use borrow.Rule.Slice.PartMut.{put_mid}
use Rattle.std.proofs.lemmas.List.{take_more_set, map-append, drop_all, length-take-le}
use Rattle.std.proofs.lemmas.Slice.{take-put_mid}
use Rattle.std.specs.List.{AllByRecursion}
use Rattle.records.specs.Frames.{One, frame_of, framed}
use Rattle.records.proofs.Cuts.{frame_back}
use Rattle.codec.specs.Records.{Placed, encode_placed, factors_at, filled}
use Rattle.codec.proofs.Both.{placed_length}
use Rattle.format.specs.Hours.{records_of, factors_of}
use Rattle.packages.specs.Filling.{Spelt, IsRead, IsPlaced, records, rows_of}

-- entry i of a list that has it
pub record At {K : Type 0} (ks : List K) (i : ℕ) (P : K → Type 0) : Type 0 where
  pub it : K
  pub holds : P it
  pub upto : take (i + 1) ks ≡ take i ks ++ (it ∷ [])
  pub from : drop i ks ≡ it ∷ drop (i + 1) ks

pub at : {K : Type 0} (P : K → Type 0) (ks : List K) (i : ℕ) → i < length ks → AllByRecursion P ks → At ks i P
at P [] i h a = absurd (omega arith)
at P (k ∷ ks) zero h a = record { it = k; holds = a.0; upto = refl; from = refl }
at P (k ∷ ks) (suc i) h a =
    let r = at P ks i (omega arith) a.1 in
    let n : suc i + 1 ≡ suc (i + 1) = omega arith in
    record {
      it = r.it;
      holds = r.holds;
      upto = ap (λ m. take m (k ∷ ks)) n ∙ ap (λ ys. k ∷ ys) r.upto;
      from = r.from ∙ ap (λ m. r.it ∷ drop m (k ∷ ks)) (sym n);
    }

-- the record that comes next of them
pub next_frame : {K : Type 0} (P : K → Type 0) (l : ℕ) (f : K → List ℕ) (ks : List K) (i : ℕ) (bs more : List ℕ) (r : At ks i P) → length (f r.it) < 65535 → bs ≡ records_of l f (drop i ks) ++ more → frame_of bs ≡ One l (f r.it) (records_of l f (drop (i + 1) ks) ++ more)
next_frame P l f ks i bs more r short e =
    ap frame_of (e ∙ ap (λ ys. records_of l f ys ++ more) r.from ∙ append_assoc (framed l (f r.it)) (records_of l f (drop (i + 1) ks)) more)
    ∙ frame_back l (f r.it) (records_of l f (drop (i + 1) ks) ++ more) (omega arith)

-- a table that is filled row by row from the records
module _ {X : Type 0} (row : List ℕ → Option X) (l : ℕ) (ks : List (Spelt X)) (more : List ℕ) (a : AllByRecursion (IsRead row) ks) (bs : List ℕ) (i : ℕ) (lt : i < length ks) (left : bs ≡ records l (drop i ks) ++ more) where
  here : At ks i (IsRead row)
  here = at (IsRead row) ks i lt a

  frame : frame_of bs ≡ One l here.it.fields (records l (drop (i + 1) ks) ++ more)
  frame = next_frame (IsRead row) l (λ k. k.fields) ks i bs more here here.holds.0 left

  pub some_record : ((m : ℕ) (f rest : List ℕ) → frame_of bs ≡ One m f rest → ⊥) → ⊥
  some_record none = none l here.it.fields (records l (drop (i + 1) ks) ++ more) frame

  pub some_row : (m : ℕ) (f rest : List ℕ) → frame_of bs ≡ One m f rest → None ≡ row f → ⊥
  some_row m f rest fr e =
      let fr2 = frame in
      let h = here.holds.1 in
      let s : f ≡ here.it.fields = cc in
      let o : row f ≡ row here.it.fields = ap row s in
      let n : ◌≡◌ {A = Option X} None (Some here.it.row) = e ∙ o ∙ h in
      let z : ◌≡◌ {A = ℕ} 0 1 = cc in
      omega arith

  pub row_stored : (m : ℕ) (f rest : List ℕ) (t : List X) (x : X) → frame_of bs ≡ One m f rest → Some x ≡ row f → i < length t → take i t ≡ rows_of (take i ks) → (rest ≡ records l (drop (i + 1) ks) ++ more) × (take (i + 1) (set t i x) ≡ rows_of (take (i + 1) ks))
  row_stored m f rest t x fr e room done =
      let fr2 = frame in
      let h = here.holds.1 in
      let s : f ≡ here.it.fields = cc in
      let r : rest ≡ records l (drop (i + 1) ks) ++ more = cc in
      let o : Some x ≡ Some here.it.row = e ∙ ap row s ∙ h in
      let v : x ≡ here.it.row = cc in
      (r, take_more_set t i x room ∙ ap (λ ys. ys ++ (x ∷ [])) done ∙ ap (λ y. rows_of (take i ks) ++ (y ∷ [])) v ∙ sym (map-append (λ k. k.row) (take i ks) (here.it ∷ [])) ∙ ap rows_of (sym here.upto))

-- a table of shift factors
factors_push : (xs : List Placed) (x : Placed) → factors_of (xs ++ (x ∷ [])) ≡ factors_of xs ++ x.factors
factors_push [] x = append-nil x.factors
factors_push (y ∷ ys) x = ap (λ zs. y.factors ++ zs) (factors_push ys x) ∙ sym (append_assoc y.factors (factors_of ys) x.factors)

module _ (n : ℕ) (xs : List Placed) (more : List ℕ) (a : AllByRecursion (IsPlaced n) xs) (bs : List ℕ) (i : ℕ) (lt : i < length xs) (left : bs ≡ records_of 80 encode_placed (drop i xs) ++ more) where
  there : At xs i (IsPlaced n)
  there = at (IsPlaced n) xs i lt a

  placed_frame : frame_of bs ≡ One 80 (encode_placed there.it) (records_of 80 encode_placed (drop (i + 1) xs) ++ more)
  placed_frame = next_frame (IsPlaced n) 80 encode_placed xs i bs more there there.holds.0 left

  pub some_point : ((m : ℕ) (f rest : List ℕ) → frame_of bs ≡ One m f rest → ⊥) → ⊥
  some_point none = none 80 (encode_placed there.it) (records_of 80 encode_placed (drop (i + 1) xs) ++ more) placed_frame

  pub point_row : (m : ℕ) (f rest : List ℕ) → frame_of bs ≡ One m f rest → (rest ≡ records_of 80 encode_placed (drop (i + 1) xs) ++ more) × (13 ≤ length f) × (length (factors_at (drop 13 f)) ≡ n) × (factors_of (take (i + 1) xs) ≡ factors_of (take i xs) ++ factors_at (drop 13 f))
  point_row m f rest fr =
      let fr2 = placed_frame in
      let s : f ≡ encode_placed there.it = cc in
      let r : rest ≡ records_of 80 encode_placed (drop (i + 1) xs) ++ more = cc in
      let l = placed_length there.it in
      let z : factors_at (drop 13 f) ≡ there.it.factors = ap (λ g. factors_at (drop 13 g)) s ∙ ap (λ (x : Placed). x.factors) there.holds.1 in
      (r, omega (arith, ap length s), ap length z ∙ there.holds.2, ap factors_of there.upto ∙ factors_push (take i xs) there.it ∙ ap (λ ys. factors_of (take i xs) ++ ys) (sym z))

-- rows of n cells lie one after the other
pub row_room : (i points n at long : ℕ) → i < points → at ≡ i * n → long ≡ points * n → at + n ≤ long
row_room i points n at long lt e l =
    let m = suc-mul i n in
    let h : suc i * n ≤ points * n = mul-le-mul_right {m = suc i} {n = points} n (omega arith) in
    omega arith

pub row_next : (i n at : ℕ) → at ≡ i * n → at + n ≡ (i + 1) * n
row_next i n at e =
    let m = suc-mul i n in
    let s : i + 1 ≡ suc i = omega arith in
    let q = ap (λ j. j * n) s in
    omega arith

pub filled_whole : {X : Type 0} (xs t : List X) → length xs ≡ length t → filled xs t ≡ xs
filled_whole xs t e =
    let b : leb (length xs) (length t) ≡ true = le-leb _ _ (omega arith) in
    rw b (ap (λ ys. xs ++ ys) (drop_all (length xs) t (omega arith)) ∙ append-nil xs)

-- a row that is put where it belongs
pub row_put : (f part : List ℕ) (t last done : List ℤ) (a n : ℕ) → part ≡ drop 13 f → last ≡ filled (factors_at part) (take (a + n - a) (drop a t)) → length (factors_at (drop 13 f)) ≡ n → a + n ≤ length t → take a t ≡ done → take (a + n) (put_mid a (a + n - a) t last) ≡ done ++ factors_at (drop 13 f)
row_put f part t last done a n w e l room d =
    let s = length-drop a t in
    let m : length (take (a + n - a) (drop a t)) ≡ a + n - a = length-take-le (a + n - a) (drop a t) (omega arith) in
    let q : last ≡ factors_at (drop 13 f) =
    e ∙ ap (λ ys. filled (factors_at ys) (take (a + n - a) (drop a t))) w ∙ filled_whole (factors_at (drop 13 f)) (take (a + n - a) (drop a t)) (omega arith) in
    take-put_mid a (a + n - a) t last (a + n) (omega (arith, ap length q)) (omega arith) ∙ ap (λ ys. ys ++ last) d ∙ ap (λ ys. done ++ ys) q
