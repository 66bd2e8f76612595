-- What is known of a record that is taken.
use Rattle.std.proofs.Common.{◌≡◌, ℕ, ◌<◌, Bool, true, false, cond, ◌&&◌, eqb, ltb, List, length, Ok, Err, Result, refl, arith, ltb-true, eqb-true}
use Rattle.refusals.specs.Numbers.{Told, refused_at}
use Rattle.rows.specs.declared.plain.ConstraintRow.{ConstraintRow}
use Rattle.rows.specs.declared.plain.HoldingRow.{HoldingRow}
use Rattle.codec.specs.Records.{Placed, decode_constraint, decode_point, decode_holding, answered}
use Rattle.codec.proofs.Pairs.{and_left, and_right}
use Rattle.format.specs.Hours.{Hour}
use Rattle.format.specs.Reading.{none, admit, with_constraint, with_point, with_holding, takes}

-- a refusal is no answer
pub refused : {X : Type 0} {P : Type 0} (e : Told) (x : X) → ◌≡◌ {A = Result X Told} (Err e) (Ok x) → P
refused e x q = let z : ◌≡◌ {A = ℕ} 0 1 = cc in absurd (omega arith)

pub answered_inv : {X Y : Type 0} (kept : X → Y) (r : Result X Told) (y : Y) → answered kept r ≡ Ok y → (x : X) × (r ≡ Ok x) × (kept x ≡ y)
answered_inv kept (Ok x) y e = (x, refl, cc)
answered_inv kept (Err z) y e = refused z y e

admit_inv : {X Y : Type 0} (p : ℕ) (a b : Bool) (r : Result X Told) (kept : X → Y) (y : Y) → admit p a b r kept ≡ Ok y → (a ≡ true) × (b ≡ true) × ((x : X) × (r ≡ Ok x) × (kept x ≡ y))
admit_inv p true true r kept y e = (refl, refl, answered_inv kept r y e)
admit_inv p true false r kept y e = refused _ y e
admit_inv p false b r kept y e = refused _ y e

-- the three kinds
abbrev pub TookConstraint : ℕ → Hour → ℕ → List ℕ → Hour → Type 0
TookConstraint p t l f u =
    (l ≡ 67) × (length t.points ≡ 0) × (length t.holdings ≡ 0) × (length t.constraints < 32) × ((x : ConstraintRow) × (decode_constraint p f ≡ Ok x) × (with_constraint t x ≡ u))

abbrev pub TookPoint : ℕ → Hour → ℕ → List ℕ → Hour → Type 0
TookPoint p t l f u =
    (l ≡ 80) × (length t.holdings ≡ 0) × (length t.points < 256) × ((x : Placed) × (decode_point p (length t.constraints) f ≡ Ok x) × (with_point t x ≡ u))

abbrev pub TookHolding : ℕ → Hour → ℕ → List ℕ → Hour → Type 0
TookHolding p t l f u =
    (l ≡ 72) × (length t.holdings < 1024) × ((x : HoldingRow) × (decode_holding p f ≡ Ok x) × (with_holding t x ≡ u))

-- whatever follows from each of them follows
pub by_kind : {P : Type 0} (p : ℕ) (t : Hour) (l : ℕ) (f : List ℕ) (u : Hour) → takes p t l f ≡ Ok u → (TookConstraint p t l f u → P) → (TookPoint p t l f u → P) → (TookHolding p t l f u → P) → P
by_kind {P = P} p t l f u e onC onP onH = go (eqb l 67) (eqb l 80) (eqb l 72) refl refl refl e
  where
    go : (a b c : Bool) → eqb l 67 ≡ a → eqb l 80 ≡ b → eqb l 72 ≡ c → cond a (admit p (none t.points && none t.holdings) (ltb (length t.constraints) 32) (decode_constraint p f) (with_constraint t)) (cond b (admit p (none t.holdings) (ltb (length t.points) 256) (decode_point p (length t.constraints) f) (with_point t)) (cond c (admit p true (ltb (length t.holdings) 1024) (decode_holding p f) (with_holding t)) (Err (refused_at 4 p)))) ≡ Ok u → P
    go true b c qa qb qc e =
        let v = admit_inv p (none t.points && none t.holdings) (ltb (length t.constraints) 32) (decode_constraint p f) (with_constraint t) u e in
        onC (eqb-true l 67 qa, eqb-true _ _ (and_left _ _ v.0), eqb-true _ _ (and_right (none t.points) _ v.0), ltb-true _ _ v.1, v.2)
    go false true c qa qb qc e =
        let v = admit_inv p (none t.holdings) (ltb (length t.points) 256) (decode_point p (length t.constraints) f) (with_point t) u e in
        onP (eqb-true l 80 qb, eqb-true _ _ v.0, ltb-true _ _ v.1, v.2)
    go false false true qa qb qc e =
        let v = admit_inv p true (ltb (length t.holdings) 1024) (decode_holding p f) (with_holding t) u e in
        onH (eqb-true l 72 qc, ltb-true _ _ v.1, v.2)
    go false false false qa qb qc e = refused _ u e
