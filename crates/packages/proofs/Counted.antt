-- The tests by counts, and one step of the records by what comes next.
use Rattle.std.proofs.Common.{◌≡◌, ℕ, zero, suc, ◌+◌, ◌<◌, Bool, true, false, cond, ◌&&◌, eqb, ltb, List, [], ◌∷◌, length, Ok, Err, Result, sym, refl, ap, ◌∙◌, arith, length-append}
use Rattle.refusals.specs.Numbers.{Told, refused_at}
use Rattle.codec.specs.Records.{decode_constraint, decode_point, decode_holding, answered}
use Rattle.records.specs.Frames.{End, Bad, One, frame_of}
use Rattle.format.specs.Hours.{Hour}
use Rattle.format.specs.Reading.{none, admit, with_constraint, with_point, with_holding, takes, run}
use Rattle.format.proofs.Taking.{refused, answered_inv}
use Rattle.packages.specs.declared.counts.Counts.{Counts}
use Rattle.packages.specs.Counting.{counts, counted, count_constraint, count_point, count_takes}

-- what an answer's value is seen by does not change its refusal
pub unseen_ok : {X Y Z : Type 0} (f : X → Y) (z : Z) (r : Result X Told) (y : Y) → Ok y ≡ answered f r → Ok z ≡ answered (λ _. z) r
unseen_ok f z (Ok x) y e = refl
unseen_ok f z (Err w) y e = refused w y (sym e)

pub unseen_err : {X Y Z : Type 0} (f : X → Y) (z : Z) (r : Result X Told) (e : Told) → Err e ≡ answered f r → Err e ≡ answered (λ _. z) r
unseen_err f z (Ok x) e q = refused e (f x) q
unseen_err f z (Err w) e q = cc

-- a record that is in order and has room is kept as its fields are
pub admitted : {X Y : Type 0} (p : ℕ) (a b : Bool) (r : Result X Told) (kept : X → Y) → Ok p ≡ admit p a b (Ok p) (λ m. m) → admit p a b r kept ≡ answered kept r
admitted p true true r kept e = refl
admitted p true false r kept e = cc
admitted p false b r kept e = cc

cond_seen : {X Y : Type 0} (g : X → Y) (b : Bool) (x y : Result X Told) → answered g (cond b x y) ≡ cond b (answered g x) (answered g y)
cond_seen g true x y = refl
cond_seen g false x y = refl

admit_seen : {X Y Z : Type 0} (g : Y → Z) (p : ℕ) (a b : Bool) (r : Result X Told) (kept : X → Y) (z : Z) → ((x : X) → g (kept x) ≡ z) → answered g (admit p a b r kept) ≡ admit p a b r (λ _. z)
admit_seen g p true true (Ok x) kept z h = ap (λ y. Ok y) (h x)
admit_seen g p true true (Err e) kept z h = refl
admit_seen g p true false r kept z h = refl
admit_seen g p false b r kept z h = refl

pub count_takes_lem : (p : ℕ) (t : Hour) (l : ℕ) (f : List ℕ) → answered counted (takes p t l f) ≡ count_takes p (counted t) l f
count_takes_lem p t l f =
    let n = counted t in
    let c = admit_seen counted p (none t.points && none t.holdings) (ltb (length t.constraints) 32) (decode_constraint p f) (with_constraint t) (counts (length t.constraints + 1) (length t.points) (length t.holdings)) (λ x. ap (λ m. counts m (length t.points) (length t.holdings)) (length-append t.constraints (x ∷ []))) in
    let q = admit_seen counted p (none t.holdings) (ltb (length t.points) 256) (decode_point p (length t.constraints) f) (with_point t) (counts (length t.constraints) (length t.points + 1) (length t.holdings)) (λ x. ap (λ m. counts (length t.constraints) m (length t.holdings)) (length-append t.points (x ∷ []))) in
    let h = admit_seen counted p true (ltb (length t.holdings) 1024) (decode_holding p f) (with_holding t) (counts (length t.constraints) (length t.points) (length t.holdings + 1)) (λ x. ap (λ m. counts (length t.constraints) (length t.points) m) (length-append t.holdings (x ∷ []))) in
    cond_seen counted (eqb l 67) _ _
    ∙ ap (λ x. cond (eqb l 67) x (answered counted (cond (eqb l 80) (admit p (none t.holdings) (ltb (length t.points) 256) (decode_point p (length t.constraints) f) (with_point t)) (cond (eqb l 72) (admit p true (ltb (length t.holdings) 1024) (decode_holding p f) (with_holding t)) (Err (refused_at 4 p)))))) c
    ∙ ap (λ x. cond (eqb l 67) (count_constraint p (counted t) f) x)
    (cond_seen counted (eqb l 80) _ _
    ∙ ap (λ x. cond (eqb l 80) x (answered counted (cond (eqb l 72) (admit p true (ltb (length t.holdings) 1024) (decode_holding p f) (with_holding t)) (Err (refused_at 4 p))))) q
    ∙ ap (λ x. cond (eqb l 80) (count_point p (counted t) f) x) (cond_seen counted (eqb l 72) _ _ ∙ ap (λ x. cond (eqb l 72) x (Err (refused_at 4 p))) h))

-- the records from p on, of which there are fewer than j, as the loop has them
module _ (W : Result Hour Told) (j p : ℕ) (u : Hour) (bs : List ℕ) (seen : Counts) (few : length bs < j) (same : counted u ≡ seen) (left : W ≡ run j p u bs) where
  unroll : (k : ℕ) → j ≡ suc k → W ≡ run (suc k) p u bs
  unroll k e = left ∙ ap (λ m. run m p u bs) e

  at_end : (k : ℕ) → j ≡ suc k → frame_of bs ≡ End → W ≡ Ok u
  unfolding run
  at_end k e q = unroll k e ∙ rw q

  at_bad : (k : ℕ) → j ≡ suc k → frame_of bs ≡ Bad → W ≡ Err (refused_at 3 p)
  unfolding run
  at_bad k e q = unroll k e ∙ rw q

  at_one : (k : ℕ) → j ≡ suc k → (l : ℕ) (f rest : List ℕ) (v : Hour) → frame_of bs ≡ One l f rest → takes p u l f ≡ Ok v → W ≡ run k (p + 1) v rest
  unfolding run
  at_one k e l f rest v q t = unroll k e ∙ rw (q, t)

  at_refused : (k : ℕ) → j ≡ suc k → (l : ℕ) (f rest : List ℕ) (x : Told) → frame_of bs ≡ One l f rest → takes p u l f ≡ Err x → W ≡ Err x
  unfolding run
  at_refused k e l f rest x q t = unroll k e ∙ rw (q, t)

  more : (k : ℕ) × (j ≡ suc k)
  more = less j few
    where
      less : (m : ℕ) → length bs < m → (k : ℕ) × (m ≡ suc k)
      less zero h = absurd (omega arith)
      less (suc k) h = (k, refl)

  by_counts : (l : ℕ) (f : List ℕ) → answered counted (takes p u l f) ≡ count_takes p seen l f
  by_counts l f = count_takes_lem p u l f ∙ ap (λ n. count_takes p n l f) same

  pub ended : frame_of bs ≡ End → Ok seen ≡ answered counted W
  ended q = sym (ap (answered counted) (at_end more.0 more.1 q) ∙ ap (λ n. Ok n) same)

  pub broken : frame_of bs ≡ Bad → Err (refused_at 3 p) ≡ answered counted W
  broken q = sym (ap (answered counted) (at_bad more.0 more.1 q))

  pub stepped : (q : ℕ) (l : ℕ) (f rest : List ℕ) (next : Counts) → q ≡ p + 1 → frame_of bs ≡ One l f rest → length rest + length f + 3 ≡ length bs → count_takes p seen l f ≡ Ok next → (k : ℕ) × (v : Hour) × (length rest < k) × (counted v ≡ next) × (W ≡ run k q v rest)
  stepped q l f rest next place fr n t =
      let a = answered_inv counted (takes p u l f) next (by_counts l f ∙ t) in
      (more.0, a.0, omega (arith, more.1), a.2, at_one more.0 more.1 l f rest a.0 fr a.1 ∙ ap (λ m. run more.0 m a.0 rest) (sym place))

  pub stopped : (l : ℕ) (f rest : List ℕ) (e : Told) → frame_of bs ≡ One l f rest → count_takes p seen l f ≡ Err e → Err e ≡ answered counted W
  stopped l f rest e q t = go (takes p u l f) refl (by_counts l f ∙ t)
    where
      go : (r : Result Hour Told) → takes p u l f ≡ r → answered counted r ≡ Err e → Err e ≡ answered counted W
      go (Ok v) w z = refused e (counted v) (sym z)
      go (Err x) w z = sym (ap (answered counted) (at_refused more.0 more.1 l f rest x q w) ∙ z)
