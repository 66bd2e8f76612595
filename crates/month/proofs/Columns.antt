-- The figures of a roll that is the month's.
use Rattle.std.proofs.Common.{◌≡◌, ℕ, ◌+◌, ◌<◌, ◌≤◌, Bool, true, ◌&&◌, eqb, leb, List, length, get_or, drop, ℤ, pos, negsuc, ap, ◌∙◌, arith}
use lib.Signed.{le_z}
use Rattle.std.proofs.lemmas.List.{at_drop_more}
use Rattle.std.proofs.lemmas.Bool.{and_parts, leb-true, eqb-true}
use Rattle.units.specs.Parts.{positive}
use Rattle.ledger.specs.declared.lines.RollLine.{RollLine}
use Rattle.ledger.specs.Figures.{Figures, every, within, line_within, column_sum, tied}

pub within_le : (t : ℕ) (z : ℤ) → (le_z (pos 0) z && le_z z (pos t)) ≡ true → positive z ≤ t
within_le t (pos n) e = leb-true n t (and_parts (leb 0 n) (leb n t) e).1
within_le t (negsuc n) e = omega arith

-- no figure of a line that fits is above the month's
pub record LineFits (f : Figures) (x : RollLine) : Type 0 where
  pub credit : within f.credits x.credit ≡ true
  pub charge : within f.charges x.charge ≡ true
  pub short : within f.shorts x.short ≡ true
  pub refund : within f.refunds x.refund ≡ true

pub line_fits : (f : Figures) (x : RollLine) → line_within f x ≡ true → LineFits f x
line_fits f x e =
    let a = and_parts (within f.credits x.credit) _ e in
    let b = and_parts (within f.charges x.charge) _ a.1 in
    let c = and_parts (within f.shorts x.short) _ b.1 in
    record { credit = a.0; charge = b.0; short = c.0; refund = c.1 }

pub every_step : {X : Type 0} (p : X → Bool) (xs : List X) (i : ℕ) (d : X) (b : Bool) → i < length xs → p (get_or xs i d) ≡ b → every p (drop i xs) ≡ (b && every p (drop (i + 1) xs))
every_step p xs i d b h e = at_drop_more (every p) xs i d h ∙ ap (λ t. t && every p (drop (i + 1) xs)) e

-- a roll that is the month's
pub record Tied (f : Figures) (roll : List RollLine) : Type 0 where
  pub owners : length roll ≡ f.owners
  pub lines : every (line_within f) roll ≡ true
  pub credits : column_sum (λ x. x.credit) roll ≡ f.credits
  pub charges : column_sum (λ x. x.charge) roll ≡ f.charges
  pub shorts : column_sum (λ x. x.short) roll ≡ f.shorts
  pub refunds : column_sum (λ x. x.refund) roll ≡ f.refunds

pub tied_true : (f : Figures) (roll : List RollLine) → tied f roll ≡ true → Tied f roll
unfolding tied
tied_true f roll e =
    let a = and_parts (eqb (length roll) f.owners) _ e in
    let b = and_parts (every (line_within f) roll) _ a.1 in
    let c = and_parts (eqb (column_sum (λ x. x.credit) roll) f.credits) _ b.1 in
    let d = and_parts (eqb (column_sum (λ x. x.charge) roll) f.charges) _ c.1 in
    let s = and_parts (eqb (column_sum (λ x. x.short) roll) f.shorts) _ d.1 in
    record {
      owners = eqb-true _ _ a.0;
      lines = b.0;
      credits = eqb-true _ _ c.0;
      charges = eqb-true _ _ d.0;
      shorts = eqb-true _ _ s.0;
      refunds = eqb-true _ _ s.1;
    }
