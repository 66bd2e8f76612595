-- What an accepted post has passed.
use Rattle.std.proofs.Common.{◌≡◌, ℕ, zero, suc, ◌+◌, ◌<◌, ◌≤◌, Bool, true, false, cond, ◌&&◌, eqb, ltb, leb, List, length, get_or, take, is_some, Some, None, Option, sym, refl, ap, ◌∙◌, add-zero, arith}
use Rattle.std.specs.Option.{option_map}
use Rattle.std.specs.List.{AllByRecursion}
use Rattle.std.proofs.ByRecursion.{All-from_get_or, All-map}
use Rattle.std.proofs.lemmas.Bool.{and_parts, leb-true, eqb-true, ltb-true}
use Rattle.refusals.specs.Numbers.{Told, refused_at}
use Rattle.rows.specs.declared.plain.HoldingRow.{HoldingRow}
use Rattle.rows.specs.Letters.{block_letter}
use Rattle.rows.specs.Week.{block_at}
use Rattle.payoff.specs.Tables.{pair_ok}
use Rattle.sharing.specs.Shares.{limit}
use Rattle.rights.specs.Rights.{same_right, some, no_holding}
use Rattle.ledger.specs.declared.lines.Due.{Due}
use Rattle.ledger.specs.declared.lines.RollLine.{RollLine}
use Rattle.ledger.specs.Hour.{credits, charges, short, left}
use Rattle.ledger.specs.Figures.{Figures, tied}
use Rattle.ledger.specs.Calls.{first_refusal}
use Rattle.ledger.specs.Posting.{Posting, due_of, dues_of, rent_of, sizes_fit, holding_test, first_from, holdings_test, entries_test, money_test, post_test}

-- what passes a test that refuses where it fails
pub cond_none : {X : Type 0} (b : Bool) (x : Option X) (r : X) → cond b x (Some r) ≡ None → (b ≡ true) × (x ≡ None)
cond_none true x r e = (refl, e)
cond_none false x r e = absurd (let z : ◌≡◌ {A = ℕ} 0 1 = cc in omega arith)

-- and where it holds
pub none_cond : {X : Type 0} (b : Bool) (r : X) → cond b (Some r) None ≡ None → b ≡ false
none_cond true r e = absurd (let z : ◌≡◌ {A = ℕ} 0 1 = cc in omega arith)
none_cond false r e = refl

pub both_none : (o next : Option Told) → first_refusal o next ≡ None → (o ≡ None) × (next ≡ None)
both_none None next e = (refl, e)
both_none (Some r) next e = absurd (let z : ◌≡◌ {A = ℕ} 0 1 = cc in omega arith)

pub mapped_none : {X Y : Type 0} (f : X → Y) (o : Option X) → option_map f o ≡ None → o ≡ None
mapped_none f None e = refl
mapped_none f (Some x) e = absurd (let z : ◌≡◌ {A = ℕ} 0 1 = cc in omega arith)

-- each of several tests that all pass
pub each_none : (test : ℕ → Option Told) (i n : ℕ) → first_from test i n ≡ None → (k : ℕ) → k < n → test (i + k) ≡ None
each_none test i zero e k h = absurd (omega arith)
each_none test i (suc n) e zero h = ap test (add-zero i) ∙ (both_none (test i) (first_from test (i + 1) n) e).0
each_none test i (suc n) e (suc k) h =
    let j : i + suc k ≡ i + 1 + k = omega arith in
    ap test j ∙ each_none test (i + 1) n (both_none (test i) (first_from test (i + 1) n) e).1 k (omega arith)

-- a holding that passed at its place
pub record Held (owners : ℕ) (p : Posting) (i : ℕ) (h : HoldingRow) : Type 0 where
  pub owner : h.owner < owners
  pub served : is_some (p.means p.tables h) ≡ true
  pub first : some (λ e. same_right e h) (take i p.holdings) ≡ false

pub held : (owners : ℕ) (p : Posting) (i : ℕ) (h : HoldingRow) → holding_test owners p i h ≡ None → Held owners p i h
held owners p i h e =
    let a = cond_none (ltb h.owner owners) _ (refused_at 12 i) e in
    let b = cond_none (pair_ok p.tables h) _ (refused_at 13 i) a.1 in
    let c = cond_none (eqb h.block (block_letter (block_at p.day.weekday p.day.ending))) _ (refused_at 14 i) b.1 in
    let d = cond_none (is_some (p.means p.tables h)) _ (refused_at 15 i) c.1 in
    record { owner = ltb-true _ _ a.0; served = d.0; first = none_cond _ (refused_at 16 i) d.1 }

pub record Passed (f : Figures) (roll : List RollLine) (p : Posting) : Type 0 where
  pub ties : tied f roll ≡ true
  pub later : f.last < p.day.hour
  pub few : length p.holdings ≤ 1024
  pub room : length p.holdings ≤ length p.amounts
  pub lines : length p.sheet ≡ length roll
  pub holdings : (i : ℕ) → i < length p.holdings → Held (length roll) p i (get_or p.holdings i no_holding)
  pub owners : AllByRecursion (λ d. d.owner < length roll) (dues_of p)
  pub credit : credits (dues_of p) ≤ limit
  pub charge : charges (dues_of p) ≤ limit
  pub balance : f.balance + left (rent_of p) (dues_of p) ≤ limit
  pub shorts : f.shorts + short (rent_of p) (dues_of p) ≤ limit

-- the holdings of a list that each passed
pub all_held : (owners : ℕ) (p : Posting) → holdings_test owners p ≡ None → (i : ℕ) → i < length p.holdings → Held owners p i (get_or p.holdings i no_holding)
unfolding holdings_test
all_held owners p e i h =
    let test = λ (k : ℕ). holding_test owners p k (get_or p.holdings k no_holding) in
    let z : 0 + i ≡ i = omega arith in
    held owners p i (get_or p.holdings i no_holding) (sym (ap test z) ∙ each_none test 0 (length p.holdings) e i h)

pub owners_on : (owners : ℕ) (p : Posting) → ((i : ℕ) → i < length p.holdings → Held owners p i (get_or p.holdings i no_holding)) → AllByRecursion (λ d. d.owner < owners) (dues_of p)
owners_on owners p each =
    All-map (λ (d : Due). d.owner < owners) (due_of p) p.holdings (All-from_get_or (λ (h : HoldingRow). h.owner < owners) p.holdings no_holding (λ i h. (each i h).owner))

pub record Afforded (f : Figures) (rent : ℕ) (ds : List Due) : Type 0 where
  pub credit : credits ds ≤ limit
  pub charge : charges ds ≤ limit
  pub balance : f.balance + left rent ds ≤ limit
  pub shorts : f.shorts + short rent ds ≤ limit

pub afforded : (f : Figures) (rent : ℕ) (ds : List Due) → money_test f rent ds ≡ None → Afforded f rent ds
afforded f rent ds e =
    let a = cond_none (leb (credits ds) limit && leb (charges ds) limit) _ (refused_at 17 0) e in
    let b = cond_none (leb (f.balance + left rent ds) limit && leb (f.shorts + short rent ds) limit) _ (refused_at 23 0) a.1 in
    let aa = and_parts _ _ a.0 in
    let bb = and_parts _ _ b.0 in
    record { credit = leb-true _ _ aa.0; charge = leb-true _ _ aa.1; balance = leb-true _ _ bb.0; shorts = leb-true _ _ bb.1 }

pub passed : (f : Figures) (roll : List RollLine) (p : Posting) → post_test f roll p ≡ None → Passed f roll p
unfolding post_test
passed f roll p e =
    let a = cond_none (tied f roll) _ (refused_at 22 0) e in
    let b = cond_none (ltb f.last p.day.hour) _ (refused_at 21 0) a.1 in
    let c = cond_none (sizes_fit roll p) _ (refused_at 11 0) b.1 in
    let d = both_none (entries_test p) _ c.1 in
    let g = both_none (holdings_test (length roll) p) _ d.1 in
    let m = afforded f (rent_of p) (dues_of p) g.1 in
    let s = and_parts (leb (length p.holdings) 1024) _ c.0 in
    let t = and_parts (leb (length p.holdings) (length p.amounts)) _ s.1 in
    let each = all_held (length roll) p g.0 in
    record {
      ties = a.0;
      later = ltb-true _ _ b.0;
      few = leb-true _ _ s.0;
      room = leb-true _ _ t.0;
      lines = eqb-true _ _ t.1;
      holdings = each;
      owners = owners_on (length roll) p each;
      credit = m.credit;
      charge = m.charge;
      balance = m.balance;
      shorts = m.shorts;
    }
