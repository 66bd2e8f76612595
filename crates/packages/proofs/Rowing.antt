-- The records of an hour, with the rows that are read of them.
use Rattle.std.proofs.Common.{◌≡◌, ℕ, suc, ◌<◌, ◌≤◌, true, cond, leb, List, [], ◌∷◌, ◌++◌, map, length, drop, Some, None, Ok, Option, sym, refl, ap, ◌∙◌, arith, lit<, Bor, le-leb}
use Rattle.std.specs.List.{AllByRecursion}
use Rattle.rows.specs.declared.plain.ConstraintRow.{ConstraintRow}
use Rattle.rows.specs.declared.plain.HoldingRow.{HoldingRow}
use Rattle.rows.specs.declared.plain.PointRow.{PointRow}
use Rattle.rows.specs.Ranges.{constraint_ok, point_ok, factor_ok}
use Rattle.codec.specs.Bytes.{Bytes}
use Rattle.codec.specs.Records.{Placed, placed_ok, every, encode_constraint, encode_placed, encode_factors, encode_holding, encode_day, constraint_at, point_at, holding_at, sized}
use Rattle.codec.proofs.Both.{constraint_back, point_back, placed_back, placed_length, holding_back}
use Rattle.codec.proofs.Pairs.{and_left}
use Rattle.records.specs.Frames.{One, frame_of, framed}
use Rattle.records.proofs.Cuts.{frame_back}
use Rattle.format.specs.Hours.{Hour, Tables, tables_of, records_of, body}
use Rattle.format.specs.Reading.{reads, reads_tables}
use Rattle.format.proofs.Taking.{answered_inv}
use Rattle.format.proofs.Canon.{Good, PointGood, HoldingGood, reads_canon}
use Rattle.packages.specs.Filling.{Spelt, IsRead, IsPlaced, NextFields, records, rows_of}

-- a list with the fields and the row of each
abbrev pub spelling : {K X : Type 0} → (K → List ℕ) → (K → X) → List K → List (Spelt X)
spelling f v [] = []
spelling f v (k ∷ ks) = record { fields = f k; row = v k } ∷ spelling f v ks

pub spelling_records : {K X : Type 0} (l : ℕ) (f : K → List ℕ) (v : K → X) (ks : List K) → records l (spelling f v ks) ≡ records_of l f ks
spelling_records l f v [] = refl
spelling_records l f v (k ∷ ks) = ap (λ ys. framed l (f k) ++ ys) (spelling_records l f v ks)

pub spelling_rows : {K X : Type 0} (f : K → List ℕ) (v : K → X) (ks : List K) → rows_of (spelling f v ks) ≡ map v ks
spelling_rows f v [] = refl
spelling_rows f v (k ∷ ks) = ap (λ ys. v k ∷ ys) (spelling_rows f v ks)

pub spelling_same : {K : Type 0} (f : K → List ℕ) (ks : List K) → rows_of (spelling f (λ k. k) ks) ≡ ks
spelling_same f [] = refl
spelling_same f (k ∷ ks) = ap (λ ys. k ∷ ys) (spelling_same f ks)

pub spelling_length : {K X : Type 0} (f : K → List ℕ) (v : K → X) (ks : List K) → length (spelling f v ks) ≡ length ks
spelling_length f v [] = refl
spelling_length f v (k ∷ ks) = ap suc (spelling_length f v ks)

spelling_read : {K X : Type 0} (f : K → List ℕ) (v : K → X) (row : List ℕ → Option X) (P : K → Type 0) → ((k : K) → P k → (length (f k) < 65535) × (row (f k) ≡ Some (v k))) → (ks : List K) → AllByRecursion P ks → AllByRecursion (IsRead row) (spelling f v ks)
spelling_read f v row P h [] a = tt
spelling_read f v row P h (k ∷ ks) a = (h k a.0, spelling_read f v row P h ks a.1)

pub constraints_read : (cs : List ConstraintRow) → AllByRecursion (λ c. constraint_ok c ≡ true) cs → AllByRecursion (IsRead (λ bs. sized 6 constraint_at bs)) (spelling encode_constraint (λ c. c) cs)
constraints_read cs a =
    spelling_read encode_constraint (λ c. c) (λ bs. sized 6 constraint_at bs) (λ c. constraint_ok c ≡ true) (λ c o. (lit< tt, ap (λ (x : ConstraintRow). Some x) (constraint_back c o))) cs a

pub holdings_read : (hs : List HoldingRow) → AllByRecursion HoldingGood hs → AllByRecursion (IsRead (λ bs. sized 20 holding_at bs)) (spelling encode_holding (λ h. h) hs)
holdings_read hs a =
    spelling_read encode_holding (λ h. h) (λ bs. sized 20 holding_at bs) HoldingGood (λ h o. (lit< tt, ap (λ (x : HoldingRow). Some x) (holding_back h o.1 o.0))) hs a

pub points_read : (n : ℕ) (xs : List Placed) → n ≤ 32 → AllByRecursion (PointGood n) xs → AllByRecursion (IsRead (λ bs. cond (leb 13 (length bs)) (Some (point_at bs)) None)) (spelling encode_placed (λ x. x.point) xs)
points_read n xs few a =
    spelling_read encode_placed (λ x. x.point) (λ bs. cond (leb 13 (length bs)) (Some (point_at bs)) None) (PointGood n) (λ x o. (omega (arith, placed_length x, o.1), one x o.0)) xs a
  where
    one : (x : Placed) → placed_ok x ≡ true → cond (leb 13 (length (encode_placed x))) (Some (point_at (encode_placed x))) None ≡ Some x.point
    one x o =
        let b : leb 13 (length (encode_placed x)) ≡ true = le-leb 13 (length (encode_placed x)) (omega (arith, placed_length x)) in
        let p = point_back x.point (encode_factors x.factors) (and_left (point_ok x.point) (every factor_ok x.factors) o) in
        ap (λ c. cond c (Some (point_at (encode_placed x))) None) b ∙ ap (λ (y : PointRow). Some y) p

pub points_placed : (n : ℕ) (xs : List Placed) → n ≤ 32 → AllByRecursion (PointGood n) xs → AllByRecursion (IsPlaced n) xs
points_placed n [] few a = tt
points_placed n (x ∷ xs) few a = ((omega (arith, placed_length x, a.0.1), placed_back x a.0.0, a.0.1), points_placed n xs few a.1)

-- what the fields of a record are, if they are told, follows its frame
pub passed : (o : Option (Bor (List ℕ))) (bs left : List ℕ) → NextFields o bs left → (l : ℕ) (f rest : List ℕ) → frame_of bs ≡ One l f rest → left ≡ rest
passed None bs left h l f rest e = absurd (h l f rest e)
passed (Some g) bs left h l f rest e = let q = h.1 in cc

-- a package that is taken, as the hour that its bytes are
pub record Laid (bs : List ℕ) (t : Tables) : Type 0 where
  pub hour : Hour
  pub good : Good hour
  pub same : tables_of hour ≡ t
  pub rest : frame_of (drop 5 bs) ≡ One 68 (encode_day hour.day) (records_of 67 encode_constraint hour.constraints ++ (records_of 80 encode_placed hour.points ++ records_of 72 encode_holding hour.holdings))

pub laid_by : (bs : List ℕ) (t : Tables) → Bytes bs → reads_tables bs ≡ Ok t → Laid bs t
unfolding body
laid_by bs t b e =
    let v = answered_inv tables_of (reads bs) t e in
    let c = reads_canon bs v.0 b v.1 in
    record {
      hour = v.0;
      good = c.1;
      same = v.2;
      rest = ap frame_of (sym c.4) ∙ frame_back 68 (encode_day v.0.day) (records_of 67 encode_constraint v.0.constraints ++ (records_of 80 encode_placed v.0.points ++ records_of 72 encode_holding v.0.holdings)) (lit< tt);
    }
