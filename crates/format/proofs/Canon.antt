-- A package that is taken is that of the hour that was read from it.
use Rattle.std.proofs.Common.{◌≡◌, ℕ, zero, suc, ◌+◌, ◌-◌, ◌*◌, ◌≤◌, Bool, true, false, cond, ◌&&◌, eqb, leb, List, [], ◌∷◌, ◌++◌, length, get_or, drop, Ok, Err, Result, sym, refl, ap, ◌∙◌, subst, append_assoc, append-nil, arith, length-append, length-drop, eqb-true, leb-true}
use Rattle.std.proofs.lemmas.List.{nil_from_length}
use Rattle.std.proofs.ByRecursion.{All-push}
use Rattle.std.specs.List.{AllByRecursion}
use Rattle.refusals.specs.Numbers.{Told, refused_at}
use Rattle.rows.specs.declared.plain.ConstraintRow.{ConstraintRow}
use Rattle.rows.specs.declared.plain.DayRow.{DayRow}
use Rattle.rows.specs.declared.plain.HoldingRow.{HoldingRow}
use Rattle.rows.specs.Ranges.{day_ok, constraint_ok, holding_ok}
use Rattle.codec.specs.Bytes.{Bytes, be4, num4_at}
use Rattle.codec.specs.Records.{Placed, placed_at, placed_ok, HoldingFits, constraint_at, holding_at, day_at, encode_day, encode_constraint, encode_placed, encode_holding, decode_day}
use Rattle.codec.proofs.Trips.{be4_num4}
use Rattle.codec.proofs.Spelled.{spelled_front, bytes_left, bytes_right, bytes_drop}
use Rattle.codec.proofs.Both.{told, day_canon, constraint_canon, placed_canon, placed_factors, holding_canon, holding_fits}
use Rattle.records.specs.Frames.{Frame, End, Bad, One, frame_of, framed}
use Rattle.records.proofs.Cuts.{frame_canon, frame_end}
use Rattle.format.specs.Hours.{Hour, hour, records_of, body, package_of}
use Rattle.format.specs.Reading.{with_constraint, with_point, with_holding, takes, after, on_frame, run, on_first, reads}
use Rattle.format.proofs.Taking.{refused, TookConstraint, TookPoint, TookHolding, by_kind}

abbrev pub PointGood : ℕ → Placed → Type 0
PointGood n x = (placed_ok x ≡ true) × (length x.factors ≡ n)

abbrev pub HoldingGood : HoldingRow → Type 0
HoldingGood h = (holding_ok h ≡ true) × HoldingFits h

-- an hour whose rows are in range, with no more of them than an hour has
pub record Good (h : Hour) : Type 0 where
  pub constraints : AllByRecursion (λ c. constraint_ok c ≡ true) h.constraints
  pub points : AllByRecursion (PointGood (length h.constraints)) h.points
  pub holdings : AllByRecursion HoldingGood h.holdings
  pub few_constraints : length h.constraints ≤ 32
  pub few_points : length h.points ≤ 256
  pub few_holdings : length h.holdings ≤ 1024

pub records_push : {X : Type 0} (l : ℕ) (f : X → List ℕ) (xs : List X) (x : X) → records_of l f (xs ++ (x ∷ [])) ≡ records_of l f xs ++ framed l (f x)
records_push l f [] x = append-nil (framed l (f x))
records_push l f (y ∷ ys) x = ap (λ zs. framed l (f y) ++ zs) (records_push l f ys x) ∙ sym (append_assoc (framed l (f y)) (records_of l f ys) (framed l (f x)))

long_push : {X : Type 0} (xs : List X) (x : X) → length (xs ++ (x ∷ [])) ≡ length xs + 1
long_push xs x = length-append xs (x ∷ [])

-- one more record of each kind stands at the end
body_constraint : (d : DayRow) (cs : List ConstraintRow) (x : ConstraintRow) → body (hour d (cs ++ (x ∷ [])) [] []) ≡ body (hour d cs [] []) ++ framed 67 (encode_constraint x)
unfolding body
body_constraint d cs x =
    let D = framed 68 (encode_day d) in
    let C = records_of 67 encode_constraint cs in
    let e = records_push 67 encode_constraint cs x in
    ap (λ ys. D ++ (ys ++ [])) e ∙ ap (λ ys. D ++ ys) (append-nil (C ++ framed 67 (encode_constraint x))) ∙ sym (append_assoc D C (framed 67 (encode_constraint x)))
    ∙ ap (λ ys. (D ++ ys) ++ framed 67 (encode_constraint x)) (sym (append-nil C))

body_point : (d : DayRow) (cs : List ConstraintRow) (ps : List Placed) (x : Placed) → body (hour d cs (ps ++ (x ∷ [])) []) ≡ body (hour d cs ps []) ++ framed 80 (encode_placed x)
unfolding body
body_point d cs ps x =
    let D = framed 68 (encode_day d) in
    let C = records_of 67 encode_constraint cs in
    let P = records_of 80 encode_placed ps in
    let F = framed 80 (encode_placed x) in
    ap (λ ys. D ++ (C ++ (ys ++ []))) (records_push 80 encode_placed ps x) ∙ ap (λ ys. D ++ (C ++ ys)) (append-nil (P ++ F))
    ∙ ap (λ ys. D ++ ys) (sym (append_assoc C P F)) ∙ sym (append_assoc D (C ++ P) F) ∙ ap (λ ys. (D ++ (C ++ ys)) ++ F) (sym (append-nil P))

body_holding : (d : DayRow) (cs : List ConstraintRow) (ps : List Placed) (hs : List HoldingRow) (x : HoldingRow) → body (hour d cs ps (hs ++ (x ∷ []))) ≡ body (hour d cs ps hs) ++ framed 72 (encode_holding x)
unfolding body
body_holding d cs ps hs x =
    let D = framed 68 (encode_day d) in
    let C = records_of 67 encode_constraint cs in
    let P = records_of 80 encode_placed ps in
    let H = records_of 72 encode_holding hs in
    let F = framed 72 (encode_holding x) in
    ap (λ ys. D ++ (C ++ (P ++ ys))) (records_push 72 encode_holding hs x) ∙ ap (λ ys. D ++ (C ++ ys)) (sym (append_assoc P H F))
    ∙ ap (λ ys. D ++ ys) (sym (append_assoc C (P ++ H) F)) ∙ sym (append_assoc D (C ++ (P ++ H)) F)

-- what a record that is taken leads to
abbrev Stepped : Hour → ℕ → List ℕ → Hour → Type 0
Stepped t l f u = (body u ≡ body t ++ framed l f) × Good u × (u.day ≡ t.day)

abbrev emptied : Hour → List Placed → List HoldingRow → Hour
emptied t ps hs = hour t.day t.constraints ps hs

step_constraint : (p : ℕ) (t : Hour) (l : ℕ) (f : List ℕ) (u : Hour) → Bytes f → Good t → TookConstraint p t l f u → Stepped t l f u
step_constraint p t l f u h g k =
    let x = k.4.0 in
    let d = told p 6 constraint_ok constraint_at f x k.4.1 in
    let np : t.points ≡ [] = nil_from_length t.points k.1 in
    let nh : t.holdings ≡ [] = nil_from_length t.holdings k.2 in
    let enc : encode_constraint x ≡ f = ap encode_constraint (sym d.1) ∙ constraint_canon f d.0 h in
    let same : body (with_constraint t x) ≡ body t ++ framed l f =
    ap (λ ps. body (hour t.day (t.constraints ++ (x ∷ [])) ps t.holdings)) np
    ∙ ap (λ hs. body (hour t.day (t.constraints ++ (x ∷ [])) [] hs)) nh
    ∙ body_constraint t.day t.constraints x
    ∙ ap (λ ps. body (hour t.day t.constraints ps []) ++ framed 67 (encode_constraint x)) (sym np)
    ∙ ap (λ hs. body (hour t.day t.constraints t.points hs) ++ framed 67 (encode_constraint x)) (sym nh)
    ∙ ap (λ ys. body t ++ framed 67 ys) enc ∙ ap (λ m. body t ++ framed m f) (sym k.0) in
    let n = long_push t.constraints x in
    let ok : Good (with_constraint t x) = record {
      constraints = All-push (λ c. constraint_ok c ≡ true) t.constraints x g.constraints d.2;
      points = subst (λ ps. AllByRecursion (PointGood (length (t.constraints ++ (x ∷ [])))) ps) (sym np) tt;
      holdings = g.holdings;
      few_constraints = omega arith;
      few_points = g.few_points;
      few_holdings = g.few_holdings;
    } in
    subst (λ v. Stepped t l f v) k.4.2 (same, ok, refl)

step_point : (p : ℕ) (t : Hour) (l : ℕ) (f : List ℕ) (u : Hour) → Bytes f → Good t → TookPoint p t l f u → Stepped t l f u
step_point p t l f u h g k =
    let x = k.3.0 in
    let n = length t.constraints in
    let d = told p (13 + 2 * length t.constraints) placed_ok placed_at f x k.3.1 in
    let nh : t.holdings ≡ [] = nil_from_length t.holdings k.1 in
    let enc : encode_placed x ≡ f = ap encode_placed (sym d.1) ∙ placed_canon f (length t.constraints) d.0 h in
    let same : body (with_point t x) ≡ body t ++ framed l f =
    ap (λ hs. body (hour t.day t.constraints (t.points ++ (x ∷ [])) hs)) nh
    ∙ body_point t.day t.constraints t.points x
    ∙ ap (λ hs. body (hour t.day t.constraints t.points hs) ++ framed 80 (encode_placed x)) (sym nh)
    ∙ ap (λ ys. body t ++ framed 80 ys) enc ∙ ap (λ m. body t ++ framed m f) (sym k.0) in
    let m = long_push t.points x in
    let fn : length x.factors ≡ length t.constraints = ap (λ (y : Placed). length y.factors) (sym d.1) ∙ placed_factors f (length t.constraints) d.0 in
    let ok : Good (with_point t x) = record {
      constraints = g.constraints;
      points = All-push (PointGood (length t.constraints)) t.points x g.points (d.2, fn);
      holdings = g.holdings;
      few_constraints = g.few_constraints;
      few_points = omega arith;
      few_holdings = g.few_holdings;
    } in
    subst (λ v. Stepped t l f v) k.3.2 (same, ok, refl)

step_holding : (p : ℕ) (t : Hour) (l : ℕ) (f : List ℕ) (u : Hour) → Bytes f → Good t → TookHolding p t l f u → Stepped t l f u
step_holding p t l f u h g k =
    let x = k.2.0 in
    let d = told p 20 holding_ok holding_at f x k.2.1 in
    let enc : encode_holding x ≡ f = ap encode_holding (sym d.1) ∙ holding_canon f d.0 h in
    let same : body (with_holding t x) ≡ body t ++ framed l f =
    body_holding t.day t.constraints t.points t.holdings x
    ∙ ap (λ ys. body t ++ framed 72 ys) enc ∙ ap (λ m. body t ++ framed m f) (sym k.0) in
    let m = long_push t.holdings x in
    let fits : HoldingFits x = subst HoldingFits d.1 (holding_fits f h) in
    let ok : Good (with_holding t x) = record {
      constraints = g.constraints;
      points = g.points;
      holdings = All-push HoldingGood t.holdings x g.holdings (d.2, fits);
      few_constraints = g.few_constraints;
      few_points = g.few_points;
      few_holdings = omega arith;
    } in
    subst (λ v. Stepped t l f v) k.2.2 (same, ok, refl)

pub after_inv : {X Y : Type 0} (r : Result X Told) (go : X → Result Y Told) (y : Y) → after r go ≡ Ok y → (x : X) × (r ≡ Ok x) × (go x ≡ Ok y)
after_inv (Ok x) go y e = (x, refl, e)
after_inv (Err z) go y e = refused z y e

-- what the records that are taken from t on lead to
abbrev Ran : Hour → List ℕ → Hour → Type 0
Ran t bs h = (body h ≡ body t ++ bs) × Good h × (h.day ≡ t.day)

on_frame_lem : (p : ℕ) (t h : Hour) (bs : List ℕ) (go : Hour → List ℕ → Result Hour Told) → Bytes bs → Good t → ((u : Hour) (rest : List ℕ) → Bytes rest → Good u → go u rest ≡ Ok h → Ran u rest h) → (fr : Frame) → frame_of bs ≡ fr → on_frame p t fr go ≡ Ok h → Ran t bs h
on_frame_lem p t h bs go b g ih End q e =
    let s : t ≡ h = cc in
    let n = frame_end bs q in
    subst (λ (v : Hour). Ran t bs v) s (sym (append-nil (body t)) ∙ ap (λ ys. body t ++ ys) (sym n), g, refl)
on_frame_lem p t h bs go b g ih Bad q e = refused _ h e
on_frame_lem p t h bs go b g ih (One l f rest) q e =
    let c = frame_canon bs l f rest b q in
    let b2 : Bytes (framed l f ++ rest) = subst Bytes c b in
    let br = bytes_right (framed l f) rest b2 in
    let bf : Bytes f = λ k. bytes_left (framed l f) rest b2 (suc (suc (suc k))) in
    let a = after_inv (takes p t l f) (λ u. go u rest) h e in
    let u = a.0 in
    let s : Stepped t l f a.0 = by_kind p t l f a.0 a.1 (step_constraint p t l f a.0 bf g) (step_point p t l f a.0 bf g) (step_holding p t l f a.0 bf g) in
    let r = ih a.0 rest br s.1 a.2 in
    (r.0 ∙ ap (λ ys. ys ++ rest) s.0 ∙ append_assoc (body t) (framed l f) rest ∙ ap (λ ys. body t ++ ys) (sym c), r.1, r.2 ∙ s.2)

pub run_canon : (k p : ℕ) (t h : Hour) (bs : List ℕ) → Bytes bs → Good t → run k p t bs ≡ Ok h → Ran t bs h
unfolding run
run_canon zero p t h bs b g e = refused _ h e
run_canon (suc k) p t h bs b g e =
    on_frame_lem p t h bs (λ u rest. run k (p + 1) u rest) b g (λ u rest br gu q. run_canon k (p + 1) u h rest br gu q) (frame_of bs) refl e

pub new_good : (d : DayRow) → Good (hour d [] [] [])
new_good d = record { constraints = tt; points = tt; holdings = tt; few_constraints = omega arith; few_points = omega arith; few_holdings = omega arith }

body_new : (d : DayRow) → body (hour d [] [] []) ≡ framed 68 (encode_day d)
unfolding body
body_new d = append-nil (framed 68 (encode_day d))

first_canon : (k : ℕ) (h : Hour) (bs : List ℕ) → Bytes bs → (fr : Frame) → frame_of bs ≡ fr → on_first k fr ≡ Ok h → (body h ≡ bs) × Good h × (day_ok h.day ≡ true)
first_canon k h bs b End q e = refused _ h e
first_canon k h bs b Bad q e = refused _ h e
first_canon k h bs b (One l f rest) q e = go (eqb l 68) refl e
  where
    c : bs ≡ framed l f ++ rest
    c = frame_canon bs l f rest b q

    b2 : Bytes (framed l f ++ rest)
    b2 = subst Bytes c b

    br : Bytes rest
    br = bytes_right (framed l f) rest b2

    bf : Bytes f
    bf j = bytes_left (framed l f) rest b2 (suc (suc (suc j)))

    go : (a : Bool) → eqb l 68 ≡ a → cond a (after (decode_day 0 f) (λ d. run k 1 (hour d [] [] []) rest)) (Err (refused_at 4 0)) ≡ Ok h → (body h ≡ bs) × Good h × (day_ok h.day ≡ true)
    go false w e = refused _ h e
    go true w e =
        let a = after_inv (decode_day 0 f) (λ d. run k 1 (hour d [] [] []) rest) h e in
        let t = told 0 12 day_ok day_at f a.0 a.1 in
        let enc : encode_day a.0 ≡ f = ap encode_day (sym t.1) ∙ day_canon f t.0 bf in
        let r = run_canon k 1 (hour a.0 [] [] []) h rest br (new_good a.0) a.2 in
        let x : body h ≡ bs =
        r.0 ∙ ap (λ ys. ys ++ rest) (body_new a.0) ∙ ap (λ ys. framed 68 ys ++ rest) enc ∙ ap (λ m. framed m f ++ rest) (sym (eqb-true l 68 w)) ∙ sym c in
        (x, r.1, ap day_ok r.2 ∙ t.2)

reads_inv : (bs : List ℕ) (h : Hour) → reads bs ≡ Ok h → (5 ≤ length bs) × (length bs ≤ 44340) × (num4_at bs 0 ≡ length bs - 4) × (get_or bs 4 0 ≡ 1) × (on_first (length bs) (frame_of (drop 5 bs)) ≡ Ok h)
unfolding reads
reads_inv bs h e = go (leb 5 (length bs)) (leb (length bs) 44340) (eqb (num4_at bs 0) (length bs - 4)) (eqb (get_or bs 4 0) 1) refl refl refl refl e
  where
    go : (a b c d : Bool) → leb 5 (length bs) ≡ a → leb (length bs) 44340 ≡ b → eqb (num4_at bs 0) (length bs - 4) ≡ c → eqb (get_or bs 4 0) 1 ≡ d → cond (a && b) (cond c (cond d (on_first (length bs) (frame_of (drop 5 bs))) (Err (refused_at 2 0))) (Err (refused_at 1 0))) (Err (refused_at 1 0)) ≡ Ok h → (5 ≤ length bs) × (length bs ≤ 44340) × (num4_at bs 0 ≡ length bs - 4) × (get_or bs 4 0 ≡ 1) × (on_first (length bs) (frame_of (drop 5 bs)) ≡ Ok h)
    go true true true true qa qb qc qd e = (leb-true _ _ qa, leb-true _ _ qb, eqb-true _ _ qc, eqb-true _ _ qd, e)
    go true true true false qa qb qc qd e = refused _ h e
    go true true false d qa qb qc qd e = refused _ h e
    go true false c d qa qb qc qd e = refused _ h e
    go false b c d qa qb qc qd e = refused _ h e

pub reads_canon : (bs : List ℕ) (h : Hour) → Bytes bs → reads bs ≡ Ok h → (package_of h ≡ bs) × Good h × (day_ok h.day ≡ true) × (length bs ≤ 44340) × (body h ≡ drop 5 bs)
unfolding package_of
reads_canon bs h b e =
    let r = reads_inv bs h e in
    let f = first_canon (length bs) h (drop 5 bs) (bytes_drop 5 bs b) (frame_of (drop 5 bs)) refl r.4 in
    let l = length-drop 5 bs in
    let n : suc (length (body h)) ≡ num4_at bs 0 = omega (arith, ap length f.0, r.2) in
    let q : be4 (num4_at bs 0) ≡ get_or bs 0 0 ∷ get_or bs 1 0 ∷ get_or bs 2 0 ∷ get_or bs 3 0 ∷ [] = be4_num4 (get_or bs 0 0) (get_or bs 1 0) (get_or bs 2 0) (get_or bs 3 0) (b 0) (b 1) (b 2) (b 3) in
    let s = spelled_front 5 bs (length bs - 5) (omega arith) in
    let x : be4 (suc (length (body h))) ++ (1 ∷ body h) ≡ bs =
    ap (λ m. be4 m ++ (1 ∷ body h)) n ∙ ap (λ ys. ys ++ (1 ∷ body h)) q
    ∙ ap (λ m. get_or bs 0 0 ∷ get_or bs 1 0 ∷ get_or bs 2 0 ∷ get_or bs 3 0 ∷ m ∷ body h) (sym r.3)
    ∙ ap (λ ys. get_or bs 0 0 ∷ get_or bs 1 0 ∷ get_or bs 2 0 ∷ get_or bs 3 0 ∷ get_or bs 4 0 ∷ ys) f.0 ∙ s in
    (x, f.1, f.2, r.1, f.0)
