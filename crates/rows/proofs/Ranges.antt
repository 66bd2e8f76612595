-- What the tests of plain rows tell of them.
use Rattle.std.proofs.Common.{◌≡◌, ℕ, ◌≤◌, Bool, true, false, ◌&&◌, ℤ, pos, neg_ℤ, ◌≤ℤ◌, Some, None, Option, refl, arith}
use borrow.Author.Differences.{ints}
use Rattle.std.proofs.lemmas.Bool.Decides.{nat_tests}
use Rattle.rows.specs.declared.letters.PointKind.{PointKind}
use Rattle.rows.specs.declared.plain.ConstraintRow.{ConstraintRow}
use Rattle.rows.specs.declared.plain.PointRow.{PointRow}
use Rattle.rows.specs.Letters.{point_of}
use Rattle.rows.specs.Ranges.{price_ok, factor_ok, resource_prices_ok, constraint_ok, point_ok}

pub record InRange (limit : ℕ) (z : ℤ) : Type 0 where
  pub low : neg_ℤ (pos limit) ≤ℤ z
  pub high : z ≤ℤ pos limit

pub price_range : (z : ℤ) → price_ok z ≡ true → InRange 1000000 z
price_range z h = record { low = grind (arith, ints); high = grind (arith, ints) }

pub factor_range : (z : ℤ) → factor_ok z ≡ true → InRange 10000 z
factor_range z h = record { low = grind (arith, ints); high = grind (arith, ints) }

pub constraint_range : (r : ConstraintRow) → constraint_ok r ≡ true → (r.shadow ≤ 1000000) × (r.deration ≤ 10000)
unfolding constraint_ok
constraint_range r h = (grind (arith, nat_tests), grind (arith, nat_tests))

pub record SoundPoint (r : PointRow) : Type 0 where
  pub kind : PointKind
  pub named : point_of r.letter ≡ Some kind
  pub price : InRange 1000000 r.price
  pub minimum : InRange 1000000 r.minimum
  pub maximum : InRange 1000000 r.maximum
  pub resource : resource_prices_ok kind r.minimum r.maximum ≡ true

and_parts : (a b : Bool) → (a && b) ≡ true → (a ≡ true) × (b ≡ true)
and_parts true b h = (refl, h)
and_parts false b h = grind arith

point_by : (r : PointRow) (o : Option PointKind) → point_of r.letter ≡ o → elim o [ None ↦ false | Some k ↦ price_ok r.price && (price_ok r.minimum && (price_ok r.maximum && resource_prices_ok k r.minimum r.maximum)) ] ≡ true → SoundPoint r
point_by r None e h = absurd (let z : ◌≡◌ {A = ℕ} 0 1 = cc in omega arith)
point_by r (Some k) e h =
    let a = and_parts (price_ok r.price) (price_ok r.minimum && (price_ok r.maximum && resource_prices_ok k r.minimum r.maximum)) h in
    let b = and_parts (price_ok r.minimum) (price_ok r.maximum && resource_prices_ok k r.minimum r.maximum) a.1 in
    let d = and_parts (price_ok r.maximum) (resource_prices_ok k r.minimum r.maximum) b.1 in
    record {
      kind = k;
      named = e;
      price = price_range r.price a.0;
      minimum = price_range r.minimum b.0;
      maximum = price_range r.maximum d.0;
      resource = d.1;
    }

pub sound_point : (r : PointRow) → point_ok r ≡ true → SoundPoint r
unfolding point_ok
sound_point r h = point_by r (point_of r.letter) refl h
