-- The package of an hour in range is read as that hour.
use Rattle.std.proofs.Common.{◌≡◌, ℕ, zero, suc, ◌+◌, ◌-◌, ◌*◌, ◌<◌, ◌≤◌, Bool, true, eqb, ltb, leb, List, [], ◌∷◌, ◌++◌, length, get_or, drop, Ok, Result, sym, refl, ap, ◌∙◌, append_assoc, append-nil, suc-mul, mul-le-mul, arith, lit<, length-append, lt-ltb, eq-eqb, le-leb}
use Rattle.std.specs.List.{AllByRecursion}
use Rattle.refusals.specs.Numbers.{Told}
use Rattle.rows.specs.declared.plain.ConstraintRow.{ConstraintRow}
use Rattle.rows.specs.declared.plain.DayRow.{DayRow}
use Rattle.rows.specs.declared.plain.HoldingRow.{HoldingRow}
use Rattle.rows.specs.Ranges.{day_ok, constraint_ok, holding_ok}
use Rattle.codec.specs.Bytes.{be4, num4_at}
use Rattle.codec.specs.Records.{Placed, placed_at, placed_ok, constraint_at, holding_at, day_at, encode_day, encode_constraint, encode_placed, encode_holding, decode_day, decode_constraint, decode_point, decode_holding}
use Rattle.codec.proofs.Trips.{num4_be4}
use Rattle.codec.proofs.Both.{taken, day_back, constraint_back, placed_back, placed_length, holding_back}
use Rattle.records.specs.Frames.{Frame, frame_of, framed}
use Rattle.records.proofs.Cuts.{frame_back}
use Rattle.format.specs.Hours.{Hour, hour, records_of, body, package_of}
use Rattle.format.specs.Reading.{admit, with_constraint, with_point, with_holding, takes, after, on_frame, run, on_first, reads}
use Rattle.format.proofs.Canon.{Good, PointGood, HoldingGood}

-- one record of each kind is taken
take_constraint : (p : ℕ) (d : DayRow) (cs : List ConstraintRow) (x : ConstraintRow) → constraint_ok x ≡ true → length cs < 32 → takes p (hour d cs [] []) 67 (encode_constraint x) ≡ Ok (hour d (cs ++ (x ∷ [])) [] [])
take_constraint p d cs x o lt =
    let b : ltb (length cs) 32 ≡ true = lt-ltb (length cs) 32 lt in
    let e : decode_constraint p (encode_constraint x) ≡ Ok x = taken p 6 constraint_ok constraint_at (encode_constraint x) x refl (constraint_back x o) o in
    let K : Bool → Result ConstraintRow Told → Result Hour Told = λ c r. admit p true c r (with_constraint (hour d cs [] [])) in
    ap (λ c. K c (decode_constraint p (encode_constraint x))) b ∙ ap (K true) e

take_point : (p : ℕ) (d : DayRow) (cs : List ConstraintRow) (ps : List Placed) (x : Placed) → PointGood (length cs) x → length ps < 256 → takes p (hour d cs ps []) 80 (encode_placed x) ≡ Ok (hour d cs (ps ++ (x ∷ [])) [])
take_point p d cs ps x g lt =
    let b : ltb (length ps) 256 ≡ true = lt-ltb (length ps) 256 lt in
    let l : length (encode_placed x) ≡ 13 + 2 * length cs = placed_length x ∙ ap (λ n. 13 + 2 * n) g.1 in
    let e : decode_point p (length cs) (encode_placed x) ≡ Ok x = taken p (13 + 2 * length cs) placed_ok placed_at (encode_placed x) x l (placed_back x g.0) g.0 in
    let K : Bool → Result Placed Told → Result Hour Told = λ c r. admit p true c r (with_point (hour d cs ps [])) in
    ap (λ c. K c (decode_point p (length cs) (encode_placed x))) b ∙ ap (K true) e

take_holding : (p : ℕ) (d : DayRow) (cs : List ConstraintRow) (ps : List Placed) (hs : List HoldingRow) (x : HoldingRow) → HoldingGood x → length hs < 1024 → takes p (hour d cs ps hs) 72 (encode_holding x) ≡ Ok (hour d cs ps (hs ++ (x ∷ [])))
take_holding p d cs ps hs x g lt =
    let b : ltb (length hs) 1024 ≡ true = lt-ltb (length hs) 1024 lt in
    let e : decode_holding p (encode_holding x) ≡ Ok x = taken p 20 holding_ok holding_at (encode_holding x) x refl (holding_back x g.1 g.0) g.0 in
    let K : Bool → Result HoldingRow Told → Result Hour Told = λ c r. admit p true c r (with_holding (hour d cs ps hs)) in
    ap (λ c. K c (decode_holding p (encode_holding x))) b ∙ ap (K true) e

-- the records of one kind are taken one after the other
module _ {X : Type 0} (l : ℕ) (f : X → List ℕ) (ok : X → Type 0) (upto : List X → Hour) (limit : ℕ)
    (one : (p : ℕ) (done : List X) (x : X) → ok x → length done < limit → takes p (upto done) l (f x) ≡ Ok (upto (done ++ (x ∷ []))))
    (short : (x : X) → ok x → suc (length (f x)) < 65536) where
  through : (xs done : List X) (k p : ℕ) (more : List ℕ) → AllByRecursion ok xs → length done + length xs ≤ limit → length xs ≤ k → run k p (upto done) (records_of l f xs ++ more) ≡ run (k - length xs) (p + length xs) (upto (done ++ xs)) more
  unfolding run
  through [] done k p more a le lek =
      let n : k ≡ k - 0 = omega arith in
      let m : p ≡ p + 0 = omega arith in
      ap (λ j. run j p (upto done) more) n ∙ ap (λ j. run (k - 0) j (upto done) more) m ∙ ap (λ ys. run (k - 0) (p + 0) (upto ys) more) (sym (append-nil done))
  through (x ∷ xs) done zero p more a le lek = absurd (omega arith)
  through (x ∷ xs) done (suc k) p more a le lek =
      let s = append_assoc (framed l (f x)) (records_of l f xs) more in
      let fr = ap frame_of s ∙ frame_back l (f x) (records_of l f xs ++ more) (short x a.0) in
      let t = one p done x a.0 (omega arith) in
      let n = length-append done (x ∷ []) in
      let ih = through xs (done ++ (x ∷ [])) k (p + 1) more a.1 (omega arith) (omega arith) in
      let i : p + 1 + length xs ≡ p + suc (length xs) = omega arith in
      let j : k - length xs ≡ suc k - suc (length xs) = omega arith in
      ap (λ (z : Frame). on_frame p (upto done) z (λ u rest. run k (p + 1) u rest)) fr
      ∙ ap (λ r. after r (λ u. run k (p + 1) u (records_of l f xs ++ more))) t
      ∙ ih ∙ ap (λ ys. run (k - length xs) (p + 1 + length xs) (upto ys) more) (append_assoc done (x ∷ []) xs)
      ∙ ap (λ m. run (k - length xs) m (upto (done ++ (x ∷ xs))) more) i ∙ ap (λ m. run m (p + suc (length xs)) (upto (done ++ (x ∷ xs))) more) j

run_end : (k p : ℕ) (t : Hour) → 0 < k → run k p t [] ≡ Ok t
unfolding run
run_end zero p t h = absurd (omega arith)
run_end (suc k) p t h = refl

-- a record takes at least a byte, and those of one length as many times that
records_long : {X : Type 0} (l : ℕ) (f : X → List ℕ) (xs : List X) → length xs ≤ length (records_of l f xs)
records_long l f [] = omega arith
records_long l f (x ∷ xs) = let i = records_long l f xs in let a = length-append (f x) (records_of l f xs) in omega arith

pub records_length : {X : Type 0} (l : ℕ) (f : X → List ℕ) (n : ℕ) (xs : List X) → AllByRecursion (λ x. length (f x) ≡ n) xs → length (records_of l f xs) ≡ length xs * (n + 3)
records_length l f n [] a = omega arith
records_length l f n (x ∷ xs) a =
    let i = records_length l f n xs a.1 in
    let s = length-append (f x) (records_of l f xs) in
    let m : suc (length xs) * (n + 3) ≡ length xs * (n + 3) + (n + 3) = suc-mul (length xs) (n + 3) in
    omega (arith, a.0)

sized_all : {X : Type 0} (f : X → List ℕ) (n : ℕ) (P : X → Type 0) → ((x : X) → P x → length (f x) ≡ n) → (xs : List X) → AllByRecursion P xs → AllByRecursion (λ x. length (f x) ≡ n) xs
sized_all f n P h [] a = tt
sized_all f n P h (x ∷ xs) a = (h x a.0, sized_all f n P h xs a.1)

-- the length of the records
pub body_length : (h : Hour) → Good h → length (body h) ≡ 15 + length h.constraints * 9 + length h.points * (2 * length h.constraints + 16) + length h.holdings * 23
unfolding body
body_length h g =
    let n = length h.constraints in
    let c = records_length 67 encode_constraint 6 h.constraints (sized_all encode_constraint 6 (λ x. constraint_ok x ≡ true) (λ x o. refl) h.constraints g.constraints) in
    let p = records_length 80 encode_placed (13 + 2 * length h.constraints) h.points (sized_all encode_placed (13 + 2 * length h.constraints) (PointGood (length h.constraints)) (λ x o. placed_length x ∙ ap (λ m. 13 + 2 * m) o.1) h.points g.points) in
    let q = records_length 72 encode_holding 20 h.holdings (sized_all encode_holding 20 HoldingGood (λ x o. refl) h.holdings g.holdings) in
    let e : 13 + 2 * length h.constraints + 3 ≡ 2 * length h.constraints + 16 = omega arith in
    let r = ap (λ m. length h.points * m) e in
    let a = length-append (records_of 67 encode_constraint h.constraints) (records_of 80 encode_placed h.points ++ records_of 72 encode_holding h.holdings) in
    let b = length-append (records_of 80 encode_placed h.points) (records_of 72 encode_holding h.holdings) in
    omega arith

body_short : (h : Hour) → Good h → length (body h) ≤ 44335
body_short h g =
    let l = body_length h g in
    let m : length h.points * (2 * length h.constraints + 16) ≤ 256 * 80 = mul-le-mul {n₂ = 256} {m₂ = 80} g.few_points (omega (arith, g.few_constraints)) in
    omega (arith, g.few_constraints, g.few_holdings)

body_many : (h : Hour) → length h.constraints + length h.points + length h.holdings < length (body h)
unfolding body
body_many h =
    let c = records_long 67 encode_constraint h.constraints in
    let p = records_long 80 encode_placed h.points in
    let q = records_long 72 encode_holding h.holdings in
    let a = length-append (records_of 67 encode_constraint h.constraints) (records_of 80 encode_placed h.points ++ records_of 72 encode_holding h.holdings) in
    let b = length-append (records_of 80 encode_placed h.points) (records_of 72 encode_holding h.holdings) in
    omega arith

-- all the records after the day's
rest_back : (h : Hour) (k : ℕ) → Good h → length h.constraints + length h.points + length h.holdings < k → run k 1 (hour h.day [] [] []) (records_of 67 encode_constraint h.constraints ++ (records_of 80 encode_placed h.points ++ records_of 72 encode_holding h.holdings)) ≡ Ok h
rest_back h k g lt =
    let d = h.day in
    let cs = h.constraints in
    let ps = h.points in
    let hs = h.holdings in
    let a = through 67 encode_constraint (λ x. constraint_ok x ≡ true) (λ ys. hour d ys [] []) 32 (λ p done x o m. take_constraint p d done x o m) (λ x o. lit< tt) cs [] k 1 (records_of 80 encode_placed ps ++ records_of 72 encode_holding hs) g.constraints (omega (arith, g.few_constraints)) (omega arith) in
    let b = through 80 encode_placed (PointGood (length cs)) (λ ys. hour d cs ys []) 256 (λ p done x o m. take_point p d cs done x o m) (λ x o. omega (arith, placed_length x, o.1, g.few_constraints)) ps [] (k - length cs) (1 + length cs) (records_of 72 encode_holding hs) g.points (omega (arith, g.few_points)) (omega arith) in
    let c = through 72 encode_holding HoldingGood (λ ys. hour d cs ps ys) 1024 (λ p done x o m. take_holding p d cs ps done x o m) (λ x o. lit< tt) hs [] (k - length cs - length ps) (1 + length cs + length ps) [] g.holdings (omega (arith, g.few_holdings)) (omega arith) in
    let e = run_end (k - length cs - length ps - length hs) (1 + length cs + length ps + length hs) h (omega arith) in
    a ∙ b ∙ ap (λ ys. run (k - length cs - length ps) (1 + length cs + length ps) (hour d cs ps []) ys) (sym (append-nil (records_of 72 encode_holding hs))) ∙ c ∙ e

first_back : (h : Hour) (k : ℕ) → Good h → day_ok h.day ≡ true → length h.constraints + length h.points + length h.holdings < k → on_first k (frame_of (body h)) ≡ Ok h
unfolding body
first_back h k g o lt =
    let more = records_of 67 encode_constraint h.constraints ++ (records_of 80 encode_placed h.points ++ records_of 72 encode_holding h.holdings) in
    let fr = frame_back 68 (encode_day h.day) (records_of 67 encode_constraint h.constraints ++ (records_of 80 encode_placed h.points ++ records_of 72 encode_holding h.holdings)) (lit< tt) in
    let e : decode_day 0 (encode_day h.day) ≡ Ok h.day = taken 0 12 day_ok day_at (encode_day h.day) h.day refl (day_back h.day o) o in
    ap (on_first k) fr ∙ ap (λ r. after r (λ d. run k 1 (hour d [] [] []) (records_of 67 encode_constraint h.constraints ++ (records_of 80 encode_placed h.points ++ records_of 72 encode_holding h.holdings)))) e ∙ rest_back h k g lt

pub reads_good : (bs : List ℕ) → 5 ≤ length bs → length bs ≤ 44340 → num4_at bs 0 ≡ length bs - 4 → get_or bs 4 0 ≡ 1 → reads bs ≡ on_first (length bs) (frame_of (drop 5 bs))
unfolding reads
reads_good bs a b e v =
    let p : leb 5 (length bs) ≡ true = le-leb 5 (length bs) a in
    let q : leb (length bs) 44340 ≡ true = le-leb (length bs) 44340 b in
    let r : eqb (num4_at bs 0) (length bs - 4) ≡ true = eq-eqb _ _ e in
    let s : eqb (get_or bs 4 0) 1 ≡ true = eq-eqb _ _ v in
    rw (p, q, r, s)

pub reads_back : (h : Hour) → Good h → day_ok h.day ≡ true → reads (package_of h) ≡ Ok h
unfolding package_of
reads_back h g o =
    let s = body_short h g in
    let m = body_many h in
    let n : num4_at (be4 (suc (length (body h))) ++ (1 ∷ body h)) 0 ≡ length (be4 (suc (length (body h))) ++ (1 ∷ body h)) - 4 = num4_be4 (suc (length (body h))) (omega arith) ∙ omega arith in
    reads_good (be4 (suc (length (body h))) ++ (1 ∷ body h)) (omega arith) (omega arith) n refl
    ∙ first_back h (length (be4 (suc (length (body h))) ++ (1 ∷ body h))) g o (omega arith)
