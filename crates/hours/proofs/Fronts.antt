-- What stands at the front of tables that were filled from a package.
use Rattle.std.proofs.Common.{◌≡◌, ℕ, List, ◌++◌, length, take, ℤ, Ok, Err, Result, sym, ap, ◌∙◌, arith}
use Rattle.std.proofs.lemmas.List.{take_at}
use Rattle.refusals.specs.Numbers.{Told}
use Rattle.rows.specs.declared.plain.ConstraintRow.{ConstraintRow}
use Rattle.rows.specs.declared.plain.PointRow.{PointRow}
use Rattle.rows.specs.declared.plain.HoldingRow.{HoldingRow}
use Rattle.codec.specs.Records.{answered}
use Rattle.format.specs.Hours.{Tables, tables}
use Rattle.format.specs.Reading.{laid, reads_into, reads_tables, roomed}
use Rattle.packages.specs.Counting.{Seen, seen_of}
use Rattle.hours.specs.Read.{hour_read}

front : {X : Type 0} (n : ℕ) (xs ys zs : List X) → n ≡ length xs → zs ≡ xs ++ ys → take n zs ≡ xs
front n xs ys zs e f = ap (λ (l : List _). take n l) f ∙ take_at xs ys n (sym e)

pub read_in : (r : Result Tables Told) (s : Seen) (cs cs' : List ConstraintRow) (ps ps' : List PointRow) (fs fs' : List ℤ) (hs hs' : List HoldingRow) → Ok s ≡ answered seen_of r → cs' ≡ laid r (λ t. t.constraints) cs → ps' ≡ laid r (λ t. t.points) ps → fs' ≡ laid r (λ t. t.factors) fs → hs' ≡ laid r (λ t. t.holdings) hs → Ok (tables s.day (take s.constraints cs') (take s.points ps') (take s.factors fs') (take s.holdings hs')) ≡ r
read_in (Ok t) s cs cs' ps ps' fs fs' hs hs' e c p f h =
    let o : s ≡ seen_of t = cc in
    let d : s.day ≡ t.day = ap (λ (x : Seen). x.day) o in
    let a = front s.constraints t.constraints _ cs' (ap (λ (x : Seen). x.constraints) o) c in
    let b = front s.points t.points _ ps' (ap (λ (x : Seen). x.points) o) p in
    let g = front s.factors t.factors _ fs' (ap (λ (x : Seen). x.factors) o) f in
    let k = front s.holdings t.holdings _ hs' (ap (λ (x : Seen). x.holdings) o) h in
    rw (d, a, b, g, k)
read_in (Err x) s cs cs' ps ps' fs fs' hs hs' e c p f h = absurd (let z : ◌≡◌ {A = ℕ} 0 1 = cc in omega arith)

pub refused_in_lem : (r : Result Tables Told) (e : Told) → Err e ≡ answered seen_of r → ◌≡◌ {A = Result Tables Told} r (Err e)
refused_in_lem (Ok t) e h = absurd (let z : ◌≡◌ {A = ℕ} 0 1 = cc in omega arith)
refused_in_lem (Err x) e h = let o : x ≡ e = cc in ap (λ (y : Told). Err y) o

-- a refusal leaves a table as it was
pub stays_in : {X : Type 0} (r : Result Tables Told) (e : Told) (rows : Tables → List X) (was is : List X) → r ≡ Err e → is ≡ laid r rows was → is ≡ was
stays_in r e rows was is h f = f ∙ ap (λ (x : Result Tables Told). laid x rows was) h

-- tables of the largest hour
pub largest : (bs : List ℕ) (cs : List ConstraintRow) (ps : List PointRow) (fs : List ℤ) (hs : List HoldingRow) → length cs ≡ 32 → length ps ≡ 256 → length fs ≡ 8192 → length hs ≡ 1024 → reads_into bs cs ps fs hs ≡ hour_read bs
unfolding hour_read
largest bs cs ps fs hs c p f h = rw (c, p, f, h)

-- a caller with tables of its own, which takes their fronts
pub read_slices : (bs : List ℕ) (s : Seen) (cs cs' : List ConstraintRow) (ps ps' : List PointRow) (fs fs' : List ℤ) (hs hs' : List HoldingRow) → Ok s ≡ answered seen_of (roomed 32 256 8192 1024 (reads_tables bs)) → cs' ≡ laid (roomed 32 256 8192 1024 (reads_tables bs)) (λ t. t.constraints) cs → ps' ≡ laid (roomed 32 256 8192 1024 (reads_tables bs)) (λ t. t.points) ps → fs' ≡ laid (roomed 32 256 8192 1024 (reads_tables bs)) (λ t. t.factors) fs → hs' ≡ laid (roomed 32 256 8192 1024 (reads_tables bs)) (λ t. t.holdings) hs → Ok (tables s.day (take s.constraints cs') (take s.points ps') (take s.factors fs') (take s.holdings hs')) ≡ hour_read bs
unfolding hour_read
read_slices bs s cs cs' ps ps' fs fs' hs hs' e c p f h = read_in (roomed 32 256 8192 1024 (reads_tables bs)) s cs cs' ps ps' fs fs' hs hs' e c p f h

pub refused_read : (bs : List ℕ) (e : Told) → Err e ≡ answered seen_of (roomed 32 256 8192 1024 (reads_tables bs)) → hour_read bs ≡ Err e
unfolding hour_read
refused_read bs e h = refused_in_lem (roomed 32 256 8192 1024 (reads_tables bs)) e h
