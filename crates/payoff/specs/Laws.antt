-- The instruments keep the payoff rules.
use Rattle.std.specs.Prelude.{◌≡◌, ℕ, ◌<◌, ◌≤◌, min, Bool, true, false, cond, ◌&&◌, length, ℤ, pos, neg_ℤ, ◌≤ℤ◌, Some, None, Option, int_lt, refl}
use Rattle.std.proofs.Common.{sym, subst, arith}
use Rattle.std.specs.Int.{int_min}
use Rattle.std.specs.Option.{option_map}
use Rattle.std.proofs.lemmas.Int.{clamps, ints}
use Rattle.std.proofs.lemmas.Bool.Decides.{nat_tests}
use Rattle.rows.specs.declared.plain.HoldingRow.{HoldingRow}
use Rattle.rows.specs.Ranges.{holding_ok}
use Rattle.rows.proofs.Ranges.{SoundPoint, sound_point}
use Rattle.payoff.specs.Tables.{Tables, tables_ok, pair_ok, servable, ends_of, Ends}
use Rattle.payoff.specs.Prices.{spread, hedge_price_of, floor_price_of, refundable, deration_price_of, deration_term, sum_to}
use Rattle.payoff.specs.declared.target.TargetRule.{TargetRule}
use Rattle.payoff.specs.declared.target.TargetRule.TheVariants.{Spread, PositiveSpread}
use Rattle.payoff.specs.Targets.{target_by}
use Rattle.payoff.specs.Rules.{Payoff, Meaning, Served, Lawful}
use Rattle.payoff.specs.View.{pair_of}
use Rattle.payoff.specs.Instruments.{figures_at, plainly, refund_quantity, refunded, refund}
use Rattle.payoff.specs.Passed.{passed}
use Rattle.payoff.specs.Terms.{term_le, sum_to_le, round_le}

-- the places of a pair that is on the table
pub record Placed (t : Tables) (h : HoldingRow) : Type 0 where
  pub source : h.source < length t.points
  pub sink : h.sink < length t.points

pub placed : (t : Tables) (h : HoldingRow) → pair_ok t h ≡ true → Placed t h
placed t h e = record { source = grind (arith, nat_tests); sink = grind (arith, nat_tests) }

-- what finding the two points tells
pub record Found (t : Tables) (h : HoldingRow) (e : Ends) : Type 0 where
  pub pair : pair_ok t h ≡ true
  pub ends : e ≡ ends_of t h

found_by : (b : Bool) (e x : Ends) → Some e ≡ cond b (Some x) None → (b ≡ true) × (e ≡ x)
found_by true e x h = (refl, cc)
found_by false e x h = grind arith

pub found : (t : Tables) (h : HoldingRow) (e : Ends) → Some e ≡ pair_of t h → Found t h e
found t h e s = let f = found_by (pair_ok t h) e (ends_of t h) s in record { pair = f.0; ends = f.1 }

lost_by : (b : Bool) (x : Ends) → None ≡ cond b (Some x) None → b ≡ false
lost_by true x h = grind arith
lost_by false x h = refl

pub lost : (t : Tables) (h : HoldingRow) → None ≡ pair_of t h → pair_ok t h ≡ false
lost t h e = lost_by (pair_ok t h) (ends_of t h) e

-- the parts of what is servable
pub record Parts (t : Tables) (h : HoldingRow) : Type 0 where
  pub tables : tables_ok t ≡ true
  pub row : holding_ok h ≡ true
  pub pair : pair_ok t h ≡ true

pub parts : (t : Tables) (h : HoldingRow) → servable t h ≡ true → Parts t h
unfolding servable
parts t h e = record { tables = grind arith; row = grind arith; pair = grind arith }

-- the points of a pair are in range
pub source_sound : (t : Tables) (h : HoldingRow) → tables_ok t ≡ true → Placed t h → SoundPoint (ends_of t h).source
source_sound t h ok p = sound_point (ends_of t h).source ((passed t ok).point h.source p.source)

pub sink_sound : (t : Tables) (h : HoldingRow) → tables_ok t ≡ true → Placed t h → SoundPoint (ends_of t h).sink
sink_sound t h ok p = sound_point (ends_of t h).sink ((passed t ok).point h.sink p.sink)

pub deration_range : (t : Tables) (h : HoldingRow) → tables_ok t ≡ true → Placed t h → deration_price_of t h ≤ℤ pos 64000000
deration_range t h ok p =
    let w = passed t ok in
    let n = length t.constraints in
    let s = sum_to_le (deration_term t h.source h.sink) n 200000000000000 (λ c lt. term_le t w h.source h.sink c p.source p.sink lt) in
    let r = round_le (sum_to (deration_term t h.source h.sink) n) (omega (arith, w.constraints)) in
    omega (arith, ints)

-- a price between two points
abbrev pub InSpread : ℤ → Type 0
InSpread z = (neg_ℤ (pos 2000000) ≤ℤ z) × (z ≤ℤ pos 2000000)

spread_range : (t : Tables) (h : HoldingRow) → tables_ok t ≡ true → Placed t h → InSpread (spread (ends_of t h))
spread_range t h ok p =
    let a = source_sound t h ok p in
    let b = sink_sound t h ok p in
    (omega (arith, ints), omega (arith, ints))

-- the floor lies between the target or 0, whichever is less, and the target
floor_by : (b : Bool) (target hedge : ℤ) → pos 0 ≤ℤ hedge → (int_min target (pos 0) ≤ℤ cond (int_lt (pos 0) target && b) (int_min target hedge) target) × (cond (int_lt (pos 0) target && b) (int_min target hedge) target ≤ℤ target)
floor_by b target hedge h = (grind (arith, ints, clamps), grind (arith, ints, clamps))

pub floor_at_most : (e : Ends) (target : ℤ) → floor_price_of e target ≤ℤ target
floor_at_most e target = (floor_by _ target (hedge_price_of e) (omega (arith, ints, clamps))).1

plainly_by : (f : ℤ → ℤ) → ((z : ℤ) → InSpread z → InSpread (f z)) → (t : Tables) (h : HoldingRow) (b : Bool) → servable t h ≡ b → Lawful t h (cond b (Some (figures_at t h (f (spread (ends_of t h))))) None)
plainly_by f stays t h true e =
    let q = parts t h e in
    let p = placed t h q.pair in
    let s = stays (spread (ends_of t h)) (spread_range t h q.tables p) in
    let l = floor_by _ (f (spread (ends_of t h))) (hedge_price_of (ends_of t h)) (omega (arith, ints, clamps)) in
    record {
      servable = e;
      held = omega arith;
      target_low = s.0;
      target_high = s.1;
      floor_low = omega (arith, ints, clamps);
      floor_under = l.1;
      deration_low = omega (arith, ints);
      deration_high = deration_range t h q.tables p;
    }
plainly_by f stays t h false e = tt

target_range : (r : TargetRule) (z : ℤ) → InSpread z → InSpread (target_by r z)
target_range Spread z h = h
target_range PositiveSpread z h = (omega (arith, ints, clamps), omega (arith, ints, clamps))

pub plainly_lawful : (r : TargetRule) (t : Tables) (h : HoldingRow) → Lawful t h (plainly (target_by r) t h)
plainly_lawful r t h = plainly_by (target_by r) (target_range r) t h (servable t h) refl

cond_min : (b : Bool) (q k : ℕ) → cond b (min q k) q ≤ q
cond_min true q k = omega arith
cond_min false q k = omega arith

refund_by : (t : Tables) (h : HoldingRow) (b : Bool) (o : Option Payoff) → Lawful t h o → Lawful t h (cond b (option_map (refunded h) o) None)
refund_by t h true (Some f) w =
    let q : refund_quantity h f ≤ f.quantity = cond_min _ f.quantity _ in
    record {
      servable = w.servable;
      held = omega arith;
      target_low = w.target_low;
      target_high = w.target_high;
      floor_low = w.floor_low;
      floor_under = w.floor_under;
      deration_low = w.deration_low;
      deration_high = w.deration_high;
    }
refund_by t h true None w = tt
refund_by t h false (Some f) w = tt
refund_by t h false None w = tt

pub refund_lawful : (m : Meaning) (t : Tables) (h : HoldingRow) → Lawful t h (m t h) → Lawful t h (refund m t h)
refund_lawful m t h w = refund_by t h (refundable (ends_of t h)) (m t h) w

-- what is served keeps the rules
pub served_at : (t : Tables) (h : HoldingRow) (o : Option Payoff) (f : Payoff) → Lawful t h o → Some f ≡ o → Served t h f
served_at t h o f w e = subst (λ (x : Option Payoff). Lawful t h x) (sym e) w

-- what is not on the table is not served
pub unserved : (t : Tables) (h : HoldingRow) (o : Option Payoff) → Lawful t h o → pair_ok t h ≡ false → o ≡ None
unserved t h None w e = refl
unserved t h (Some f) w e = let p = (parts t h w.servable).pair in grind arith

pub refund_lost : (m : Meaning) (t : Tables) (h : HoldingRow) → Lawful t h (m t h) → None ≡ pair_of t h → None ≡ refund m t h
refund_lost m t h w e = sym (unserved t h (refund m t h) (refund_lawful m t h w) (lost t h e))

pub refund_not : (m : Meaning) (t : Tables) (h : HoldingRow) → refundable (ends_of t h) ≡ false → None ≡ refund m t h
refund_not m t h e = rw e

pub refund_is : (m : Meaning) (t : Tables) (h : HoldingRow) (f : Payoff) (q : ℕ) → refundable (ends_of t h) ≡ true → Some f ≡ m t h → q ≡ refund_quantity h f → Some record { quantity = q; target = f.target; deration = f.deration; floor = f.floor } ≡ refund m t h
refund_is m t h f q e s r = rw (e, ← s, r)

-- a plain instrument serves what is on the table, and nothing else
pub plainly_lost : (f : ℤ → ℤ) (t : Tables) (h : HoldingRow) → None ≡ pair_of t h → None ≡ plainly f t h
unfolding servable
plainly_lost f t h e = let p = lost t h e in grind arith

pub plainly_is : (f : ℤ → ℤ) (t : Tables) (h : HoldingRow) (x : Payoff) → tables_ok t ≡ true → holding_ok h ≡ true → pair_ok t h ≡ true → x ≡ figures_at t h (f (spread (ends_of t h))) → Some x ≡ plainly f t h
unfolding servable
plainly_is f t h x a b p e = rw (a, b, p, e)
