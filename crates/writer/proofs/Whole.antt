-- A package by its parts.
use Rattle.std.proofs.Common.{◌≡◌, ℕ, suc, ◌+◌, ◌-◌, ◌*◌, ◌≤◌, true, List, [], ◌∷◌, ◌++◌, length, take, drop, ℤ, refl, ap, ◌∙◌, suc-mul, mul-le-mul, arith, length-append, length-drop}
use Rattle.std.proofs.lemmas.List.{length-take-le}
use Rattle.std.specs.List.{AllByRecursion}
use Rattle.rows.specs.declared.plain.PointRow.{PointRow}
use Rattle.codec.proofs.Both.{placed_length}
use Rattle.codec.specs.Bytes.{be4}
use Rattle.codec.specs.Records.{encode_day, encode_constraint, encode_placed, encode_holding}
use Rattle.records.specs.Frames.{framed}
use Rattle.format.specs.Hours.{Hour, Tables, hour_of, placed, records_of, body, package_of}
use Rattle.format.specs.Writing.{sizes_ok}
use Rattle.format.proofs.Back.{records_length}
use Rattle.format.proofs.Ways.{sizes_inv, placed_long}

abbrev pub head_of : Hour → ℕ → List ℕ
head_of h long = be4 (long - 4) ++ (1 ∷ framed 68 (encode_day h.day))

abbrev pub rest_of : Hour → List ℕ
rest_of h = records_of 67 encode_constraint h.constraints ++ (records_of 80 encode_placed h.points ++ records_of 72 encode_holding h.holdings)

body_long : (h : Hour) → length (package_of h) ≡ 5 + length (body h)
unfolding package_of
body_long h = omega arith

pub package_parts : (h : Hour) (long : ℕ) → long ≡ length (package_of h) → head_of h long ++ rest_of h ≡ package_of h
unfolding package_of body
package_parts h long e =
    let l = body_long h in
    let m : long - 4 ≡ suc (length (body h)) = omega arith in
    ap (λ k. be4 k ++ (1 ∷ (framed 68 (encode_day h.day) ++ rest_of h))) m

pub package_long : (h : Hour) → length (package_of h) ≡ 20 + length (records_of 67 encode_constraint h.constraints) + length (records_of 80 encode_placed h.points) + length (records_of 72 encode_holding h.holdings)
package_long h =
    let p = ap length (package_parts h (length (package_of h)) refl) in
    let a = length-append (records_of 67 encode_constraint h.constraints) (records_of 80 encode_placed h.points ++ records_of 72 encode_holding h.holdings) in
    let b = length-append (records_of 80 encode_placed h.points) (records_of 72 encode_holding h.holdings) in
    omega arith

all_of : {X : Type 0} (P : X → Type 0) → ((x : X) → P x) → (xs : List X) → AllByRecursion P xs
all_of P h [] = tt
all_of P h (x ∷ xs) = (h x, all_of P h xs)

placed_sized : (n : ℕ) (ps : List PointRow) (fs : List ℤ) → length fs ≡ length ps * n → AllByRecursion (λ x. length (encode_placed x) ≡ 13 + 2 * n) (placed n ps fs)
placed_sized n [] fs e = tt
placed_sized n (p ∷ ps) fs e =
    let m = suc-mul (length ps) n in
    let d = length-drop n fs in
    let l = length-take-le n fs (omega arith) in
    (placed_length (record { point = p; factors = take n fs }) ∙ ap (λ k. 13 + 2 * k) l, placed_sized n ps (drop n fs) (omega arith))

-- the length of a package, by how many entries its tables have
pub tables_long : (t : Tables) → length t.factors ≡ length t.points * length t.constraints → length (package_of (hour_of t)) ≡ 20 + length t.constraints * 9 + length t.points * (2 * length t.constraints + 16) + length t.holdings * 23
tables_long t e =
    let n = length t.constraints in
    let w = package_long (hour_of t) in
    let c = records_length 67 encode_constraint 6 t.constraints (all_of (λ x. length (encode_constraint x) ≡ 6) (λ x. refl) t.constraints) in
    let p = records_length 80 encode_placed (13 + 2 * length t.constraints) (placed (length t.constraints) t.points t.factors) (placed_sized (length t.constraints) t.points t.factors e) in
    let l = placed_long (length t.constraints) t.points t.factors in
    let h = records_length 72 encode_holding 20 t.holdings (all_of (λ x. length (encode_holding x) ≡ 20) (λ x. refl) t.holdings) in
    let s : 13 + 2 * length t.constraints + 3 ≡ 2 * length t.constraints + 16 = omega arith in
    let q = ap (λ m. m * (13 + 2 * length t.constraints + 3)) l ∙ ap (λ m. length t.points * m) s in
    omega arith

pub tables_small : (t : Tables) → sizes_ok t ≡ true → length (package_of (hour_of t)) ≤ 44340
tables_small t s =
    let n = sizes_inv t s in
    let l = tables_long t n.3 in
    let m : length t.points * (2 * length t.constraints + 16) ≤ 256 * 80 = mul-le-mul {n₂ = 256} {m₂ = 80} n.1 (omega (arith, n.0)) in
    omega (arith, n.0, n.2)
