-- Reading and writing the fields of a record undo each other, for each kind.
use Rattle.std.proofs.Common.{◌≡◌, ℕ, ◌+◌, ◌*◌, ◌^◌, ◌<◌, Bool, true, false, cond, ◌&&◌, eqb, List, ◌∷◌, ◌++◌, length, get_or, drop, ℤ, pos, negsuc, Some, None, Ok, Err, Option, sym, refl, ap, ◌∙◌, arith, length-drop, w32, SFits, eq-eqb, eqb-true}
use Rattle.std.proofs.lemmas.Bool.Decides.{nat_tests}
use Rattle.refusals.specs.Numbers.{refused_at}
use Rattle.rows.specs.declared.letters.PointKind.{PointKind}
use Rattle.rows.specs.declared.plain.ConstraintRow.{ConstraintRow}
use Rattle.rows.specs.declared.plain.DayRow.{DayRow}
use Rattle.rows.specs.declared.plain.HoldingRow.{HoldingRow}
use Rattle.rows.specs.declared.plain.PointRow.{PointRow}
use Rattle.rows.specs.Letters.{point_of}
use Rattle.rows.specs.Ranges.{day_ok, constraint_ok, point_ok, factor_ok, holding_ok, price_ok, resource_prices_ok}
use Rattle.codec.specs.Bytes.{Bytes, be2, be8, twos4, num2_at, num8_at, int4_at}
use Rattle.codec.specs.Records.{encode_day, day_at, encode_constraint, constraint_at, encode_point, point_at, encode_factors, factors_at, encode_holding, holding_at, every, decoded, Placed, placed_at, placed_ok, encode_placed, HoldingFits}
use Rattle.codec.proofs.Trips.{num2_be2, num4_be4, num8_be8, be2_num2, be4_num4, be8_num8, int4_twos4, twos4_int4}
use Rattle.codec.proofs.Spelled.{spell, spelled, spelled_front, bytes_drop}
use Rattle.codec.proofs.Pairs.{and_left, and_right, factors_back, factors_canon, factors_length, encoded_length}

-- fields of the right length whose row is in range are taken
pub taken : {X : Type 0} (p n : ℕ) (ok : X → Bool) (at : List ℕ → X) (bs : List ℕ) (x : X) → length bs ≡ n → at bs ≡ x → ok x ≡ true → decoded p n ok at bs ≡ Ok x
taken p n ok at bs x l e o =
    let a : eqb (length bs) n ≡ true = eq-eqb (length bs) n l in
    let b : ok (at bs) ≡ true = ap ok e ∙ o in
    rw (a, b) (ap Ok e)

pub too_long : {X : Type 0} (p n : ℕ) (ok : X → Bool) (at : List ℕ → X) (bs : List ℕ) → eqb (length bs) n ≡ false → decoded p n ok at bs ≡ Err (refused_at 3 p)
too_long p n ok at bs a = rw a

-- and of what is taken, that is known
pub told : {X : Type 0} (p n : ℕ) (ok : X → Bool) (at : List ℕ → X) (bs : List ℕ) (x : X) → decoded p n ok at bs ≡ Ok x → (length bs ≡ n) × (at bs ≡ x) × (ok x ≡ true)
told p n ok at bs x e = picks (eqb (length bs) n) (ok (at bs)) (eqb-true (length bs) n) refl e
  where
    picks : (a b : Bool) → (a ≡ true → length bs ≡ n) → ok (at bs) ≡ b → cond a (cond b (Ok (at bs)) (Err (refused_at 6 p))) (Err (refused_at 3 p)) ≡ Ok x → (length bs ≡ n) × (at bs ≡ x) × (ok x ≡ true)
    picks true true l o e = let q : at bs ≡ x = cc in (l refl, q, sym (ap ok q) ∙ o)
    picks true false l o e = let z : ◌≡◌ {A = ℕ} 0 1 = cc in absurd (omega arith)
    picks false b l o e = let z : ◌≡◌ {A = ℕ} 0 1 = cc in absurd (omega arith)

day_bounds : (r : DayRow) → day_ok r ≡ true → (r.hour < 2 ^ 16) × (r.rent < 2 ^ 64)
unfolding day_ok
day_bounds r e = (grind (arith, nat_tests), grind (arith, nat_tests))

pub day_back : (r : DayRow) → day_ok r ≡ true → day_at (encode_day r) ≡ r
day_back r e = let b = day_bounds r e in rw (num2_be2 r.hour b.0, num8_be8 r.rent b.1)

pub day_canon : (bs : List ℕ) → length bs ≡ 12 → Bytes bs → encode_day (day_at bs) ≡ bs
day_canon bs l h =
    let p = be2_num2 (get_or bs 0 0) (get_or bs 1 0) (h 0) (h 1) in
    let q = be8_num8 (get_or bs 4 0) (get_or bs 5 0) (get_or bs 6 0) (get_or bs 7 0) (get_or bs 8 0) (get_or bs 9 0) (get_or bs 10 0) (get_or bs 11 0) (h 4) (h 5) (h 6) (h 7) (h 8) (h 9) (h 10) (h 11) in
    let s = spelled 12 bs l in
    ap (λ ys. ys ++ (get_or bs 2 0 ∷ get_or bs 3 0 ∷ be8 (num8_at bs 4))) p ∙ ap (λ ys. get_or bs 0 0 ∷ get_or bs 1 0 ∷ get_or bs 2 0 ∷ get_or bs 3 0 ∷ ys) q ∙ s

constraint_bounds : (r : ConstraintRow) → constraint_ok r ≡ true → (r.shadow < 2 ^ 32) × (r.deration < 2 ^ 16)
unfolding constraint_ok
constraint_bounds r e = (grind (arith, nat_tests), grind (arith, nat_tests))

pub constraint_back : (r : ConstraintRow) → constraint_ok r ≡ true → constraint_at (encode_constraint r) ≡ r
constraint_back r e = let b = constraint_bounds r e in rw (num4_be4 r.shadow b.0, num2_be2 r.deration b.1)

pub constraint_canon : (bs : List ℕ) → length bs ≡ 6 → Bytes bs → encode_constraint (constraint_at bs) ≡ bs
constraint_canon bs l h =
    let p = be4_num4 (get_or bs 0 0) (get_or bs 1 0) (get_or bs 2 0) (get_or bs 3 0) (h 0) (h 1) (h 2) (h 3) in
    let q = be2_num2 (get_or bs 4 0) (get_or bs 5 0) (h 4) (h 5) in
    let s = spelled 6 bs l in
    ap (λ ys. ys ++ be2 (num2_at bs 4)) p ∙ ap (λ ys. get_or bs 0 0 ∷ get_or bs 1 0 ∷ get_or bs 2 0 ∷ get_or bs 3 0 ∷ ys) q ∙ s

price_fits : (z : ℤ) → price_ok z ≡ true → SFits w32 z
price_fits (pos n) e = record { sfits = grind (arith, nat_tests) }
price_fits (negsuc n) e = record { sfits = grind (arith, nat_tests) }

point_prices : (r : PointRow) → point_ok r ≡ true → (price_ok r.price ≡ true) × (price_ok r.minimum ≡ true) × (price_ok r.maximum ≡ true)
unfolding point_ok
point_prices r e = picks (point_of r.letter) e
  where
    picks : (o : Option PointKind) → elim o [ None ↦ false | Some k ↦ price_ok r.price && (price_ok r.minimum && (price_ok r.maximum && resource_prices_ok k r.minimum r.maximum)) ] ≡ true → (price_ok r.price ≡ true) × (price_ok r.minimum ≡ true) × (price_ok r.maximum ≡ true)
    picks None e = let z : ◌≡◌ {A = ℕ} 0 1 = cc in absurd (omega arith)
    picks (Some k) e =
        let a = and_right _ _ e in
        let b = and_right _ _ a in
        (and_left _ _ e, and_left _ _ a, and_left _ _ b)

pub point_back : (r : PointRow) (more : List ℕ) → point_ok r ≡ true → point_at (encode_point r ++ more) ≡ r
point_back r more e =
    let b = point_prices r e in
    rw (int4_twos4 r.price (price_fits r.price b.0), int4_twos4 r.minimum (price_fits r.minimum b.1), int4_twos4 r.maximum (price_fits r.maximum b.2))

point_canon : (bs : List ℕ) → Bytes bs → encode_point (point_at bs) ≡ spell 13 0 bs
point_canon bs h =
    let p = twos4_int4 (get_or bs 1 0) (get_or bs 2 0) (get_or bs 3 0) (get_or bs 4 0) (h 1) (h 2) (h 3) (h 4) in
    let q = twos4_int4 (get_or bs 5 0) (get_or bs 6 0) (get_or bs 7 0) (get_or bs 8 0) (h 5) (h 6) (h 7) (h 8) in
    let r = twos4_int4 (get_or bs 9 0) (get_or bs 10 0) (get_or bs 11 0) (get_or bs 12 0) (h 9) (h 10) (h 11) (h 12) in
    ap (λ ys. get_or bs 0 0 ∷ (ys ++ (twos4 (int4_at bs 5) ++ twos4 (int4_at bs 9)))) p
    ∙ ap (λ ys. get_or bs 0 0 ∷ get_or bs 1 0 ∷ get_or bs 2 0 ∷ get_or bs 3 0 ∷ get_or bs 4 0 ∷ (ys ++ twos4 (int4_at bs 9))) q
    ∙ ap (λ ys. get_or bs 0 0 ∷ get_or bs 1 0 ∷ get_or bs 2 0 ∷ get_or bs 3 0 ∷ get_or bs 4 0 ∷ get_or bs 5 0 ∷ get_or bs 6 0 ∷ get_or bs 7 0 ∷ get_or bs 8 0 ∷ ys) r

-- a point with its shift factors
pub placed_back : (x : Placed) → placed_ok x ≡ true → placed_at (encode_placed x) ≡ x
placed_back x e =
    let p = point_back x.point (encode_factors x.factors) (and_left (point_ok x.point) (every factor_ok x.factors) e) in
    let f = factors_back x.factors (and_right (point_ok x.point) (every factor_ok x.factors) e) in
    ap (λ (y : PointRow). record { point = y; factors = factors_at (encode_factors x.factors) }) p ∙ ap (λ (ys : List ℤ). record { point = x.point; factors = ys }) f

pub placed_length : (x : Placed) → length (encode_placed x) ≡ 13 + 2 * length x.factors
placed_length x = let l = encoded_length x.factors in omega arith

pub placed_factors : (bs : List ℕ) (n : ℕ) → length bs ≡ 13 + 2 * n → length (placed_at bs).factors ≡ n
placed_factors bs n l = factors_length (drop 13 bs) ∙ simp length-drop (omega arith)

pub placed_canon : (bs : List ℕ) (n : ℕ) → length bs ≡ 13 + 2 * n → Bytes bs → encode_placed (placed_at bs) ≡ bs
placed_canon bs n l h =
    let d = length-drop 13 bs in
    let f = factors_canon (drop 13 bs) (omega arith) (bytes_drop 13 bs h) in
    ap (λ ys. ys ++ encode_factors (factors_at (drop 13 bs))) (point_canon bs h) ∙ ap (λ ys. spell 13 0 bs ++ ys) f ∙ spelled_front 13 bs (2 * n) l

holding_bounds : (r : HoldingRow) → holding_ok r ≡ true → (r.quantity < 2 ^ 32) × (r.actual < 2 ^ 32) × (r.real_time < 2 ^ 32)
unfolding holding_ok
holding_bounds r e = (grind (arith, nat_tests), grind (arith, nat_tests), grind (arith, nat_tests))

pub holding_back : (r : HoldingRow) → HoldingFits r → holding_ok r ≡ true → holding_at (encode_holding r) ≡ r
holding_back r h e =
    let b = holding_bounds r e in
    rw (num2_be2 r.owner h.owner, num2_be2 r.source h.source, num2_be2 r.sink h.sink, num4_be4 r.quantity b.0, num4_be4 r.actual b.1, num4_be4 r.real_time b.2)

pub holding_canon : (bs : List ℕ) → length bs ≡ 20 → Bytes bs → encode_holding (holding_at bs) ≡ bs
holding_canon bs l h =
    let p = be2_num2 (get_or bs 0 0) (get_or bs 1 0) (h 0) (h 1) in
    let q = be2_num2 (get_or bs 3 0) (get_or bs 4 0) (h 3) (h 4) in
    let r = be2_num2 (get_or bs 5 0) (get_or bs 6 0) (h 5) (h 6) in
    let s = be4_num4 (get_or bs 7 0) (get_or bs 8 0) (get_or bs 9 0) (get_or bs 10 0) (h 7) (h 8) (h 9) (h 10) in
    let t = be4_num4 (get_or bs 12 0) (get_or bs 13 0) (get_or bs 14 0) (get_or bs 15 0) (h 12) (h 13) (h 14) (h 15) in
    let u = be4_num4 (get_or bs 16 0) (get_or bs 17 0) (get_or bs 18 0) (get_or bs 19 0) (h 16) (h 17) (h 18) (h 19) in
    let w = spelled 20 bs l in
    cc

-- the figures of a row that was read fit their bytes
pub holding_fits : (bs : List ℕ) → Bytes bs → HoldingFits (holding_at bs)
holding_fits bs h =
    record { owner = omega (arith, h 0, h 1); source = omega (arith, h 3, h 4); sink = omega (arith, h 5, h 6) }
