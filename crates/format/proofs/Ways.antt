-- Reading and writing undo each other, by the tables.
use Rattle.std.proofs.Common.{◌≡◌, ℕ, suc, ◌*◌, ◌≤◌, Bool, true, false, cond, ◌&&◌, eqb, leb, List, [], ◌∷◌, ◌++◌, length, take, drop, ℤ, Some, None, Ok, Err, Option, sym, refl, ap, ◌∙◌, subst, suc-mul, arith, length-append, length-drop, eq-eqb, eqb-true, le-leb, leb-true}
use Rattle.std.specs.Option.{option_map}
use Rattle.std.specs.List.{AllByRecursion}
use Rattle.std.proofs.ByRecursion.{All-take, All-drop, All-append}
use Rattle.std.proofs.lemmas.List.{length-take-le, take-append-drop, take_at, drop_at, length-map, nil_from_length}
use Rattle.refusals.specs.Numbers.{refused_at}
use Rattle.rows.specs.declared.plain.HoldingRow.{HoldingRow}
use Rattle.rows.specs.declared.plain.PointRow.{PointRow}
use Rattle.rows.specs.Firsts.{first_bad}
use Rattle.rows.specs.Ranges.{day_ok, constraint_ok, point_ok, factor_ok, holding_ok}
use Rattle.codec.specs.Bytes.{Bytes}
use Rattle.codec.specs.Records.{Placed, HoldingFits, every, answered}
use Rattle.codec.proofs.Pairs.{and_left, and_right}
use Rattle.format.specs.Hours.{Hour, hour, Tables, tables, tables_of, points_of, factors_of, placed, hour_of, package_of}
use Rattle.format.specs.Reading.{reads, reads_tables}
use Rattle.format.specs.Writing.{sizes_ok, first_refusal, bad_entry, tested, writes}
use Rattle.format.proofs.Taking.{refused, answered_inv}
use Rattle.format.proofs.Canon.{Good, PointGood, HoldingGood, reads_canon}
use Rattle.format.proofs.Back.{reads_back}

some_not_none : {P : Type 0} (n : ℕ) → ◌≡◌ {A = Option ℕ} (Some n) None → P
some_not_none n e = let z : ◌≡◌ {A = ℕ} 0 1 = cc in absurd (omega arith)

mapped_none : (o : Option ℕ) → option_map (λ k. suc k) o ≡ None → o ≡ None
mapped_none None e = refl
mapped_none (Some n) e = some_not_none (suc n) e

-- no entry is bad just where every one is good
pub good_from_none : {X : Type 0} (p : X → Bool) (xs : List X) → first_bad p xs ≡ None → AllByRecursion (λ x. p x ≡ true) xs
good_from_none p [] e = tt
good_from_none p (x ∷ xs) e = let v = step (p x) refl e in (v.0, good_from_none p xs v.1)
  where
    step : (b : Bool) → p x ≡ b → cond b (option_map (λ k. suc k) (first_bad p xs)) (Some 0) ≡ None → (p x ≡ true) × (first_bad p xs ≡ None)
    step true q e = (q, mapped_none (first_bad p xs) e)
    step false q e = some_not_none 0 e

pub none_from_good : {X : Type 0} (p : X → Bool) (xs : List X) → AllByRecursion (λ x. p x ≡ true) xs → first_bad p xs ≡ None
none_from_good p [] a = refl
none_from_good p (x ∷ xs) a =
    ap (λ b. cond b (option_map (λ k. suc k) (first_bad p xs)) (Some 0)) a.0 ∙ ap (option_map (λ k. suc k)) (none_from_good p xs a.1)

every_from_all : {X : Type 0} (p : X → Bool) (xs : List X) → AllByRecursion (λ x. p x ≡ true) xs → every p xs ≡ true
every_from_all p [] a = refl
every_from_all p (x ∷ xs) a = ap (λ b. b && every p xs) a.0 ∙ every_from_all p xs a.1

all_from_every : {X : Type 0} (p : X → Bool) (xs : List X) → every p xs ≡ true → AllByRecursion (λ x. p x ≡ true) xs
all_from_every p [] e = tt
all_from_every p (x ∷ xs) e = (and_left (p x) (every p xs) e, all_from_every p xs (and_right (p x) (every p xs) e))

-- points and their rows of shift factors, in one list and in two tables
pub placed_points : (n : ℕ) (ps : List PointRow) (fs : List ℤ) → points_of (placed n ps fs) ≡ ps
placed_points n [] fs = refl
placed_points n (p ∷ ps) fs = ap (λ ys. p ∷ ys) (placed_points n ps (drop n fs))

pub placed_rows : (n : ℕ) (ps : List PointRow) (fs : List ℤ) → length fs ≡ length ps * n → factors_of (placed n ps fs) ≡ fs
placed_rows n [] fs e = sym (nil_from_length fs (omega arith))
placed_rows n (p ∷ ps) fs e =
    let m = suc-mul (length ps) n in
    let d = length-drop n fs in
    ap (λ ys. take n fs ++ ys) (placed_rows n ps (drop n fs) (omega arith)) ∙ take-append-drop n fs

pub placed_again : (n : ℕ) (xs : List Placed) → AllByRecursion (PointGood n) xs → placed n (points_of xs) (factors_of xs) ≡ xs
placed_again n [] a = refl
placed_again n (x ∷ xs) a =
    let t = take_at x.factors (factors_of xs) n a.0.1 in
    let d = drop_at x.factors (factors_of xs) n a.0.1 in
    let M : List ℤ → List ℤ → List Placed = λ ys zs. record { point = x.point; factors = ys } ∷ placed n (points_of xs) zs in
    ap (λ ys. M ys (drop n (x.factors ++ factors_of xs))) t ∙ ap (M x.factors) d ∙ ap (λ ys. x ∷ ys) (placed_again n xs a.1)

pub rows_length : (n : ℕ) (xs : List Placed) → AllByRecursion (PointGood n) xs → length (factors_of xs) ≡ length xs * n
rows_length n [] a = omega arith
rows_length n (x ∷ xs) a =
    let i = rows_length n xs a.1 in
    let l = length-append x.factors (factors_of xs) in
    let m = suc-mul (length xs) n in
    omega (arith, a.0.1)

placed_good : (n : ℕ) (ps : List PointRow) (fs : List ℤ) → length fs ≡ length ps * n → AllByRecursion (λ p. point_ok p ≡ true) ps → AllByRecursion (λ z. factor_ok z ≡ true) fs → AllByRecursion (PointGood n) (placed n ps fs)
placed_good n [] fs e a b = tt
placed_good n (p ∷ ps) fs e a b =
    let m = suc-mul (length ps) n in
    let d = length-drop n fs in
    let w = every_from_all factor_ok (take n fs) (All-take (λ z. factor_ok z ≡ true) n fs b) in
    ((ap (λ c. c && every factor_ok (take n fs)) a.0 ∙ w, length-take-le n fs (omega arith)), placed_good n ps (drop n fs) (omega arith) a.1 (All-drop (λ z. factor_ok z ≡ true) n fs b))

points_good : (n : ℕ) (xs : List Placed) → AllByRecursion (PointGood n) xs → AllByRecursion (λ p. point_ok p ≡ true) (points_of xs)
points_good n [] a = tt
points_good n (x ∷ xs) a = (and_left (point_ok x.point) (every factor_ok x.factors) a.0.0, points_good n xs a.1)

rows_good : (n : ℕ) (xs : List Placed) → AllByRecursion (PointGood n) xs → AllByRecursion (λ z. factor_ok z ≡ true) (factors_of xs)
rows_good n [] a = tt
rows_good n (x ∷ xs) a =
    All-append (λ z. factor_ok z ≡ true) x.factors (factors_of xs) (all_from_every factor_ok x.factors (and_right (point_ok x.point) (every factor_ok x.factors) a.0.0)) (rows_good n xs a.1)

pub placed_long : (n : ℕ) (ps : List PointRow) (fs : List ℤ) → length (placed n ps fs) ≡ length ps
placed_long n [] fs = refl
placed_long n (p ∷ ps) fs = ap suc (placed_long n ps (drop n fs))

-- what the tests of the sizes and of the entries say
pub sizes_inv : (t : Tables) → sizes_ok t ≡ true → (length t.constraints ≤ 32) × (length t.points ≤ 256) × (length t.holdings ≤ 1024) × (length t.factors ≡ length t.points * length t.constraints)
sizes_inv t e =
    let a = and_right (leb (length t.constraints) 32) _ e in
    let b = and_right (leb (length t.points) 256) _ a in
    let c = and_right (leb (length t.holdings) 1024) _ b in
    (leb-true _ _ (and_left _ _ e), leb-true _ _ (and_left _ _ a), leb-true _ _ (and_left _ _ b), eqb-true _ _ c)

first_none : (a b : Option ℕ) → first_refusal a b ≡ None → (a ≡ None) × (b ≡ None)
first_none None b e = (refl, e)
first_none (Some n) b e = some_not_none n e

pub tested_inv : (a : Bool) (b : Option ℕ) (bs : List ℕ) (room : ℕ) (cs : List ℕ) → tested a b bs room ≡ Ok cs → (a ≡ true) × (b ≡ None) × (bs ≡ cs)
tested_inv false b bs room cs e = refused _ cs e
tested_inv true (Some p) bs room cs e = refused _ cs e
tested_inv true None bs room cs e = go (leb (length bs) room) e
  where
    go : (c : Bool) → cond c (Ok bs) (Err (refused_at 7 0)) ≡ Ok cs → (true ≡ true) × (◌≡◌ {A = Option ℕ} None None) × (bs ≡ cs)
    go true e = (refl, refl, cc)
    go false e = refused _ cs e

pub tables_good : (t : Tables) → sizes_ok t ≡ true → bad_entry t ≡ None → AllByRecursion HoldingFits t.holdings → Good (hour_of t)
tables_good t s b f =
    let n = sizes_inv t s in
    let b1 = first_none (first_bad constraint_ok t.constraints) _ b in
    let b2 = first_none (first_bad point_ok t.points) _ b1.1 in
    let b3 = first_none (first_bad factor_ok t.factors) _ b2.1 in
    let l = placed_long (length t.constraints) t.points t.factors in
    record {
      constraints = good_from_none constraint_ok t.constraints b1.0;
      points = placed_good (length t.constraints) t.points t.factors n.3 (good_from_none point_ok t.points b2.0) (good_from_none factor_ok t.factors b3.0);
      holdings = both t.holdings (good_from_none holding_ok t.holdings b3.1) f;
      few_constraints = n.0;
      few_points = omega arith;
      few_holdings = n.2;
    }
  where
    both : (hs : List HoldingRow) → AllByRecursion (λ h. holding_ok h ≡ true) hs → AllByRecursion HoldingFits hs → AllByRecursion HoldingGood hs
    both [] a f = tt
    both (h ∷ hs) a f = ((a.0, f.0), both hs a.1 f.1)

tables_again : (t : Tables) → length t.factors ≡ length t.points * length t.constraints → tables_of (hour_of t) ≡ t
tables_again t e =
    ap (λ ps. tables t.day t.constraints ps (factors_of (placed (length t.constraints) t.points t.factors)) t.holdings) (placed_points (length t.constraints) t.points t.factors)
    ∙ ap (λ fs. tables t.day t.constraints t.points fs t.holdings) (placed_rows (length t.constraints) t.points t.factors e)

-- what is written of tables in range is read as those tables
pub written_reads : (t : Tables) (room : ℕ) (bs : List ℕ) → day_ok t.day ≡ true → AllByRecursion HoldingFits t.holdings → writes t room ≡ Ok bs → reads_tables bs ≡ Ok t
written_reads t room bs o f e =
    let v = tested_inv (sizes_ok t) (bad_entry t) (package_of (hour_of t)) room bs e in
    let g = tables_good t v.0 v.1 f in
    ap reads_tables (sym v.2) ∙ ap (answered tables_of) (reads_back (hour_of t) g o) ∙ ap (λ (x : Tables). Ok x) (tables_again t (sizes_inv t v.0).3)

hour_again : (h : Hour) → Good h → hour_of (tables_of h) ≡ h
hour_again h g = ap (λ ps. hour h.day h.constraints ps h.holdings) (placed_again (length h.constraints) h.points g.points)

sizes_good : (h : Hour) → Good h → sizes_ok (tables_of h) ≡ true
sizes_good h g =
    let l : length (points_of h.points) ≡ length h.points = length-map h.points (λ x. x.point) in
    let m = rows_length (length h.constraints) h.points g.points in
    let a : leb (length h.constraints) 32 ≡ true = le-leb _ _ g.few_constraints in
    let b : leb (length (points_of h.points)) 256 ≡ true = le-leb _ _ (omega (arith, g.few_points)) in
    let c : leb (length h.holdings) 1024 ≡ true = le-leb _ _ g.few_holdings in
    let d : eqb (length (factors_of h.points)) (length (points_of h.points) * length h.constraints) ≡ true = eq-eqb _ _ (m ∙ ap (λ n. n * length h.constraints) (sym l)) in
    rw (a, b, c, d)

entries_good : (h : Hour) → Good h → bad_entry (tables_of h) ≡ None
entries_good h g =
    let n = length h.constraints in
    let a = none_from_good constraint_ok h.constraints g.constraints in
    let b = none_from_good point_ok (points_of h.points) (points_good (length h.constraints) h.points g.points) in
    let c = none_from_good factor_ok (factors_of h.points) (rows_good (length h.constraints) h.points g.points) in
    let d = none_from_good holding_ok h.holdings (holds h.holdings g.holdings) in
    rw (a, b, c, d)
  where
    holds : (hs : List HoldingRow) → AllByRecursion HoldingGood hs → AllByRecursion (λ x. holding_ok x ≡ true) hs
    holds [] a = tt
    holds (x ∷ xs) a = (a.0.0, holds xs a.1)

-- what is read of a package is written as that package
pub read_writes : (bs : List ℕ) (t : Tables) → Bytes bs → reads_tables bs ≡ Ok t → writes t (length bs) ≡ Ok bs
read_writes bs t b e =
    let v = answered_inv tables_of (reads bs) t e in
    let c = reads_canon bs v.0 b v.1 in
    let p : package_of (hour_of (tables_of v.0)) ≡ bs = ap package_of (hour_again v.0 c.1) ∙ c.0 in
    let l : leb (length (package_of (hour_of (tables_of v.0)))) (length bs) ≡ true = le-leb _ _ (omega (arith, ap length p)) in
    let w : writes (tables_of v.0) (length bs) ≡ Ok bs =
    ap (λ a. tested a (bad_entry (tables_of v.0)) (package_of (hour_of (tables_of v.0))) (length bs)) (sizes_good v.0 c.1)
    ∙ ap (λ o. tested true o (package_of (hour_of (tables_of v.0))) (length bs)) (entries_good v.0 c.1)
    ∙ ap (λ a. cond a (Ok (package_of (hour_of (tables_of v.0)))) (Err (refused_at 7 0))) l
    ∙ ap (λ (ys : List ℕ). Ok ys) p in
    subst (λ (x : Tables). writes x (length bs) ≡ Ok bs) v.2 w
