-- One more point with its row of shift factors.
use Rattle.std.proofs.Common.{◌≡◌, ℕ, zero, suc, ◌+◌, ◌-◌, ◌*◌, ◌<◌, ◌≤◌, List, [], ◌∷◌, ◌++◌, length, get_or, take, drop, ℤ, sym, ap, ◌∙◌, subst, mul-le-mul_right, suc-mul, arith, length-drop}
use Rattle.std.proofs.lemmas.List.{drop-drop, length-take-le}
use Rattle.rows.specs.declared.plain.PointRow.{PointRow}
use Rattle.codec.specs.Bytes.{be2, twos2}
use Rattle.codec.specs.Records.{Placed, encode_point, encode_factors, encode_placed}
use Rattle.codec.proofs.Both.{placed_length}
use Rattle.records.specs.Frames.{framed}
use Rattle.buffer.specs.Appends.{Appends, HasRoom}
use Rattle.buffer.specs.declared.output.Output.{Output}
use Rattle.buffer.proofs.Joins.{appended}
use Rattle.format.specs.Hours.{placed}
use Rattle.format.proofs.Ways.{placed_long}
use Rattle.writer.proofs.Runs.{factors_flat, next_room, next_put}
use Rattle.codec.proofs.Pairs.{encoded_length}
use Rattle.std.specs.List.{flat_map}

abbrev pub record_of : Placed → List ℕ
record_of x = framed 80 (encode_placed x)

abbrev placed_row : PointRow → List ℤ → Placed
placed_row p row = record { point = p; factors = row }

-- the entry of point i
placed_at : (n : ℕ) (ps : List PointRow) (fs : List ℤ) (i : ℕ) (p : PointRow) (d : Placed) → i < length ps → p ≡ get_or ps i p → placed_row p (take n (drop (i * n) fs)) ≡ get_or (placed n ps fs) i d
placed_at n [] fs i p d lt e = absurd (omega arith)
placed_at n (q ∷ qs) fs zero p d lt e =
    let z : 0 * n ≡ 0 = omega arith in
    ap (λ x. placed_row x (take n (drop (0 * n) fs))) e ∙ ap (λ m. placed_row q (take n (drop m fs))) z
placed_at n (q ∷ qs) fs (suc i) p d lt e =
    let m = suc-mul i n in
    let s : suc i * n ≡ n + i * n = omega arith in
    ap (λ j. placed_row p (take n (drop j fs))) s ∙ ap (λ ys. placed_row p (take n ys)) (sym (drop-drop (i * n) n fs)) ∙ placed_at n qs (drop n fs) i p d (omega arith) e

-- the head of a record and its row of shift factors
parts : (n : ℕ) (p : PointRow) (row : List ℤ) → length row ≡ n → (be2 (14 + 2 * n) ++ (80 ∷ encode_point p)) ++ encode_factors row ≡ framed 80 (encode_placed (placed_row p row))
parts n p row e =
    let l = placed_length (placed_row p row) in
    let m : 14 + 2 * n ≡ suc (length (encode_placed (placed_row p row))) = omega arith in
    ap (λ k. be2 k ++ (80 ∷ encode_placed (placed_row p row))) m

module _ (n : ℕ) (ps : List PointRow) (fs : List ℤ) (i first : ℕ) (p : PointRow) (lt : i < length ps) (is : p ≡ get_or ps i p) (fe : first ≡ i * n) (fl : length fs ≡ length ps * n) where
  pub row_end : first + n ≤ length fs
  row_end =
      let m = suc-mul i n in
      let h : suc i * n ≤ length ps * n = mul-le-mul_right {m = suc i} {n = length ps} n (omega arith) in
      omega arith

  abbrev row : List ℤ
  row = take (first + n - first) (drop first fs)

  row_long : length row ≡ n
  row_long = let d = length-drop first fs in let e = row_end in length-take-le (first + n - first) (drop first fs) (omega arith) ∙ omega arith

  it : placed_row p row ≡ placed_row p (take n (drop (i * n) fs))
  it =
      let s : first + n - first ≡ n = omega arith in
      ap (λ m. placed_row p (take m (drop first fs))) s ∙ ap (λ m. placed_row p (take n (drop m fs))) fe

  at_i : placed_row p row ≡ get_or (placed n ps fs) i (placed_row p row)
  at_i = it ∙ placed_at n ps fs i p (placed_row p row) lt is

  long : i < length (placed n ps fs)
  long = let l = placed_long n ps fs in omega arith

  -- after the records of i points there is room for the next, and with it one more is written
  module _ (o q : Output) (w : Appends o (flat_map record_of (take i (placed n ps fs))) q) where
    whole_room : HasRoom o (length (flat_map record_of (placed n ps fs))) → HasRoom q (16 + 2 * n)
    whole_room h =
        let r = next_room record_of (placed n ps fs) i (placed_row p row) long at_i o q w h in
        let l = placed_length (placed_row p row) in
        let m = row_long in
        omega arith

    pub head_room : HasRoom o (length (flat_map record_of (placed n ps fs))) → HasRoom q 16
    head_room h = let r = whole_room h in omega arith

    pub row_room : (to : Output) → Appends q (be2 (14 + 2 * n) ++ (80 ∷ encode_point p)) to → HasRoom o (length (flat_map record_of (placed n ps fs))) → HasRoom to (length (flat_map twos2 row))
    row_room to v h =
        let r = whole_room h in
        let m = row_long in
        let e = ap length (factors_flat row) in
        omega (arith, v.wrote.end, v.wrote.len, encoded_length row)

    pub point_more : (to end : Output) → Appends q (be2 (14 + 2 * n) ++ (80 ∷ encode_point p)) to → Appends to (flat_map twos2 row) end → Appends o (flat_map record_of (take (i + 1) (placed n ps fs))) end
    point_more to end v x =
        next_put record_of (placed n ps fs) i (placed_row p row) long at_i o q w end
        (subst (λ (bs : List ℕ). Appends q bs end) (ap (λ ys. (be2 (14 + 2 * n) ++ (80 ∷ encode_point p)) ++ ys) (factors_flat row) ∙ parts n p row row_long) (appended q to end (be2 (14 + 2 * n) ++ (80 ∷ encode_point p)) (flat_map twos2 row) v x))
