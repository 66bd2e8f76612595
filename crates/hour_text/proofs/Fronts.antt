-- What stands at the front of tables that were filled from a package.
use Rattle.std.proofs.Common.{◌≡◌, ℕ, List, ◌++◌, length, take, ℤ, IfOk, Ok, Err, codes, Result, sym, ap, ◌∙◌, arith}
use Rattle.std.proofs.lemmas.List.{take_at}
use Rattle.refusals.specs.Numbers.{Told}
use Rattle.rows.specs.declared.plain.ConstraintRow.{ConstraintRow}
use Rattle.rows.specs.declared.plain.PointRow.{PointRow}
use Rattle.rows.specs.declared.plain.HoldingRow.{HoldingRow}
use Rattle.codec.specs.Records.{answered}
use Rattle.format.specs.Hours.{Tables}
use Rattle.format.specs.Reading.{laid}
use Rattle.payoff.specs.Rules.{Meaning}
use Rattle.payoff.specs.Tables as payoff
use Rattle.packages.specs.Counting.{Seen, seen_of}
use Rattle.explanation.specs.Lines.{explanation_of, refused_text}
use Rattle.hour_text.specs.Read.{read_text}

front : {X : Type 0} (n : ℕ) (xs ys zs : List X) → n ≡ length xs → zs ≡ xs ++ ys → take n zs ≡ xs
front n xs ys zs e f = ap (λ (l : List _). take n l) f ∙ take_at xs ys n (sym e)

pub told_of : (m : Meaning) (r : Result Tables Told) (s : Seen) (cs cs' : List ConstraintRow) (ps ps' : List PointRow) (fs fs' : List ℤ) (hs hs' : List HoldingRow) → Ok s ≡ answered seen_of r → cs' ≡ laid r (λ t. t.constraints) cs → ps' ≡ laid r (λ t. t.points) ps → fs' ≡ laid r (λ t. t.factors) fs → hs' ≡ laid r (λ t. t.holdings) hs → explanation_of m (payoff.tables (take s.constraints cs') (take s.points ps') (take s.factors fs')) (take s.holdings hs') ≡ read_text m r
told_of m (Ok t) s cs cs' ps ps' fs fs' hs hs' e c p f h =
    let o : s ≡ seen_of t = cc in
    let a = front s.constraints t.constraints _ cs' (ap (λ (x : Seen). x.constraints) o) c in
    let b = front s.points t.points _ ps' (ap (λ (x : Seen). x.points) o) p in
    let d = front s.factors t.factors _ fs' (ap (λ (x : Seen). x.factors) o) f in
    let g = front s.holdings t.holdings _ hs' (ap (λ (x : Seen). x.holdings) o) h in
    rw (a, b, d, g)
told_of m (Err x) s cs cs' ps ps' fs fs' hs hs' e c p f h = absurd (let z : ◌≡◌ {A = ℕ} 0 1 = cc in omega arith)

-- a text that is made, where what it says is known by another name
pub same_made : {X Y : Type 0} (r : Result X Y) (f : X → List ℕ) (a b : List ℕ) → a ≡ b → IfOk r (λ x. f x ≡ a) → IfOk r (λ x. f x ≡ b)
same_made (Ok x) f a b e h = h ∙ e
same_made (Err y) f a b e h = tt

pub refused_of : (m : Meaning) (r : Result Tables Told) (e : Told) → Err e ≡ answered seen_of r → refused_text e ++ codes "\n" ≡ read_text m r
refused_of m (Ok t) e h = absurd (let z : ◌≡◌ {A = ℕ} 0 1 = cc in omega arith)
refused_of m (Err x) e h = ap (λ (y : Told). refused_text y ++ codes "\n") (let o : e ≡ x = cc in o)
