-- Each call keeps month and roll with the ledger.
use Rattle.std.proofs.Common.{◌≡◌, ℕ, zero, suc, ◌<◌, true, List, length, get_or, ℤ, pos, ◌+ℤ◌, is_some, Some, None, Option, unwrap_or, sym, refl, ap, ◌∙◌, subst, arith}
use Rattle.std.specs.Option.{option_map}
use Rattle.rows.specs.declared.plain.HoldingRow.{HoldingRow}
use Rattle.payoff.specs.Rules.{Payoff, Lawful}
use Rattle.pricing.specs.Amounts.{amount_of}
use Rattle.pricing.proofs.Within.{paid_at_most, paid_at_least}
use Rattle.units.specs.Parts.{positive}
use Rattle.sharing.specs.Shares.{up_to, share_of}
use Rattle.sharing.proofs.Parts.{up_to_same}
use Rattle.sharing.proofs.Laws.{share_none}
use Rattle.rights.specs.Rights.{no_holding}
use Rattle.ledger.specs.declared.lines.HourAnswer.{HourAnswer}
use Rattle.ledger.specs.declared.lines.HourLine.{HourLine}
use Rattle.ledger.specs.declared.lines.RollLine.{RollLine}
use Rattle.ledger.specs.declared.lines.LoadLine.{LoadLine}
use Rattle.ledger.specs.Lines.{lines_of, clear_roll, clear_load, refunded as given, paid_out}
use Rattle.ledger.specs.Hour.{left, own_short, hour_line_of}
use Rattle.ledger.specs.Figures.{Figures}
use Rattle.ledger.specs.Calls.{refund_sum, short_in, refunded_line, after_refund, load_total, mwh_in, load_ok, paid_line, after_close, RefundAccepted, CloseAccepted}
use Rattle.ledger.specs.Posting.{Posting, amount_in, rent_of, dues_of, after_post, added_to, posted_line, answer_of, PostAccepted}
use Rattle.ledger.specs.Ledger.{Ledger, with_hour, repaid, with_refund, with_loads, figures_of, owner_line, load_line}
use Rattle.ledger.specs.Runs.{Keeps, ByRule, HourHolds, Balanced}
use Rattle.ledger.proofs.Sums.{up_to_add, up_to_at, share_back}
use Rattle.ledger.proofs.Passed.{passed}
use Rattle.ledger.proofs.Owners.{fair_hour, all_shorts}
use Rattle.ledger.proofs.Closable.{closable, every_at_lem, unpaid}
use Rattle.ledger.proofs.Places.{length_lines, at_line, same_lines, front_at, past_front, length_front}

-- a month and a roll that are the ledger's
pub record Kept (n : ℕ) (l : Ledger) (f : Figures) (roll : List RollLine) : Type 0 where
  pub month : f ≡ figures_of n l
  pub lines : roll ≡ lines_of n (owner_line l)
  pub shorts : up_to l.short n ≡ l.shorts
  pub balanced : Balanced l

pub roll_length : {n : ℕ} {l : Ledger} {f : Figures} {roll : List RollLine} → Kept n l f roll → length roll ≡ n
roll_length {n} {l} k = ap length k.lines ∙ length_lines n (owner_line l)

pub roll_at : {n : ℕ} {l : Ledger} {f : Figures} {roll : List RollLine} → Kept n l f roll → (o : ℕ) → o < n → get_or roll o clear_roll ≡ owner_line l o
roll_at {n} {l} k o h = ap (λ r. get_or r o clear_roll) k.lines ∙ at_line n (owner_line l) o clear_roll h

abbrev load : ℕ → ℤ → LoadLine
load m z = record { mwh = m; paid = record { value = z } }

-- post
served_by : {X : Type 0} (o : Option X) → is_some o ≡ true → (x : X) × (o ≡ Some x)
served_by None e = absurd (let z : ◌≡◌ {A = ℕ} 0 1 = cc in omega arith)
served_by (Some x) e = (x, refl)

by_rule : (p : Posting) (h : HoldingRow) (x : ℤ) → Keeps p.means → is_some (p.means p.tables h) ≡ true → x ≡ amount_in p h → ByRule p h x
by_rule p h x keeps e is =
    let q = served_by (p.means p.tables h) e in
    let F : Option Payoff → Type 0 = λ o. Lawful p.tables h o in
    let s : Lawful p.tables h (Some q.0) = subst F q.1 (keeps p.tables h) in
    record {
      figures = q.0;
      served = q.1;
      amount = is ∙ ap (λ o. unwrap_or (option_map amount_of o) (pos 0)) q.1;
      at_most_target = paid_at_most q.0 s.floor_under s.deration_low;
      at_least_floor = paid_at_least q.0;
    }

module _ {n : ℕ} {l : Ledger} {f : Figures} {roll : List RollLine} (k : Kept n l f roll) {p : Posting} {a : HourAnswer} {f' : Figures} {roll' : List RollLine} {sheet' : List HourLine} {amounts' : List ℤ} (h : PostAccepted f roll p a f' roll' sheet' amounts') where
  posted_month : f' ≡ figures_of n (with_hour l p)
  posted_month = h.month_after ∙ ap (λ g. after_post g p.day.hour (rent_of p) (dues_of p)) k.month

  posted_line_lem : (o : ℕ) → o < n → posted_line roll (rent_of p) (dues_of p) o ≡ owner_line (with_hour l p) o
  posted_line_lem o b = ap (λ x. added_to x (hour_line_of (rent_of p) (dues_of p) o)) (roll_at k o b)

  pub hour_kept : Kept n (with_hour l p) f' roll'
  hour_kept =
      record {
        month = posted_month;
        lines = h.roll_after ∙ ap (λ m. lines_of m (posted_line roll (rent_of p) (dues_of p))) (roll_length k) ∙ same_lines n (posted_line roll (rent_of p) (dues_of p)) (owner_line (with_hour l p)) posted_line_lem;
        shorts = omega (arith, up_to_add l.short (own_short (rent_of p) (dues_of p)) n, k.shorts, ap (up_to (own_short (rent_of p) (dues_of p))) (roll_length k), all_shorts (rent_of p) (dues_of p) (length roll) (passed f roll p h.tests).owners);
        balanced = omega (arith, k.balanced);
      }

  pub hour_holds : Keeps p.means → HourHolds n l p a sheet' amounts'
  hour_holds keeps =
      let ok = passed f roll p h.tests in
      let fairly = fair_hour (rent_of p) (dues_of p) (length roll) ok.owners in
      let within = λ (o : ℕ) (b : o < n). subst (λ (m : ℕ). o < m) (sym (roll_length k)) b in
      record {
        amounts_by_rule = λ i b. by_rule p (get_or p.holdings i no_holding) (get_or amounts' i (pos 0)) keeps (ok.holdings i b).served (front_at (amount_in p) p.holdings p.amounts amounts' h.amounts_after i no_holding (pos 0) b);
        past_stays = past_front (amount_in p) p.holdings p.amounts amounts' h.amounts_after;
        same_length = length_front (amount_in p) p.holdings p.amounts amounts' h.amounts_after ok.room;
        answer_of_ledger = h.answer ∙ ap (answer_of (rent_of p) (dues_of p)) (ap (λ g. g.balance) posted_month);
        sheet_of_ledger = h.sheet_after ∙ ap (λ m. lines_of m (hour_line_of (rent_of p) (dues_of p))) (roll_length k);
        at_most_credit = λ o b. fairly.within (omega arith) o (within o b);
        not_over = λ v o b. fairly.not_over v o (within o b);
        not_under = λ v o b. fairly.not_under v o (within o b);
      }

-- refund
pub same_share : (s s' v v' : ℕ) (w w' : ℕ → ℕ) (o : ℕ) → s ≡ s' → v ≡ v' → up_to w o ≡ up_to w' o → up_to w (suc o) ≡ up_to w' (suc o) → share_of s v w o ≡ share_of s' v' w' o
same_share s s' v v' w w' o e g x y = cc

abbrev short_figure : RollLine → ℕ
short_figure x = positive x.short.value

module _ {n : ℕ} {l : Ledger} {f : Figures} {roll : List RollLine} (k : Kept n l f roll) where
  refunded_line_lem : (o : ℕ) → o < n → refunded_line f roll o ≡ owner_line (with_refund l) o
  refunded_line_lem o b =
      let w : (j : ℕ) → j < suc o → short_in roll j ≡ l.short j = λ j c. ap short_figure (roll_at k j (omega arith)) in
      let e : share_of (refund_sum f) f.shorts (short_in roll) o ≡ share_of (repaid l) l.shorts l.short o = same_share (refund_sum f) (repaid l) f.shorts l.shorts (short_in roll) l.short o (ap refund_sum k.month) (ap (λ g. g.shorts) k.month) (up_to_same (short_in roll) l.short o (λ j c. w j (omega arith))) (up_to_same (short_in roll) l.short (suc o) w) in
      ap (given (get_or roll o clear_roll)) e ∙ ap (λ x. given x (share_of (repaid l) l.shorts l.short o)) (roll_at k o b)

  pub refund_kept : {f' : Figures} {roll' : List RollLine} → RefundAccepted f roll f' roll' → Kept n (with_refund l) f' roll'
  refund_kept h =
      record {
        month = h.month_after ∙ ap after_refund k.month;
        lines = h.roll_after ∙ ap (λ m. lines_of m (refunded_line f roll)) (roll_length k) ∙ same_lines n (refunded_line f roll) (owner_line (with_refund l)) refunded_line_lem;
        shorts = k.shorts;
        balanced = omega (arith, k.balanced);
      }

  -- where a balance is left, every shortfall charge was refunded
  pub refund_whole : 0 < (with_refund l).balance → (o : ℕ) → o < n → l.refund o ≡ 0 → (with_refund l).refund o ≡ l.short o
  refund_whole left o b none =
      let e : repaid l ≡ l.shorts = omega arith in
      let s : share_of (repaid l) l.shorts l.short o ≡ l.short o = ap (λ r. share_of r l.shorts l.short o) e ∙ share_back l.shorts l.short o (omega (arith, up_to_at l.short o n b, k.shorts)) in
      omega (arith, s, none)

  -- close
  pub close_kept : {f' : Figures} {loads loads' : List LoadLine} → CloseAccepted f roll loads f' loads' → Kept n (with_loads l loads) f' roll
  close_kept h =
      record { month = h.month_after ∙ ap after_close k.month; lines = k.lines; shorts = k.shorts; balanced = omega (arith, k.balanced) }

  paid_line_lem : (loads : List LoadLine) (j : ℕ) → (get_or loads j clear_load).paid.value ≡ pos 0 → l.paid j ≡ 0 → paid_line f.balance loads j ≡ load_line (with_loads l loads) loads j
  paid_line_lem loads j z none =
      let x = get_or loads j clear_load in
      let s = share_of l.balance (load_total loads) (mwh_in loads) j in
      let e : share_of f.balance (load_total loads) (mwh_in loads) j ≡ s = ap (λ g. share_of g.balance (load_total loads) (mwh_in loads) j) k.month in
      ap (paid_out x) e ∙ ap (λ v. load x.mwh (v +ℤ pos s)) z ∙ ap (λ (m : ℕ). load x.mwh (pos m)) (omega (arith, none))

  pub close_loads : {f' : Figures} {loads loads' : List LoadLine} → ((j : ℕ) → l.paid j ≡ 0) → CloseAccepted f roll loads f' loads' → loads' ≡ lines_of (length loads) (load_line (with_loads l loads) loads)
  close_loads {loads = loads} none h =
      let ok = closable f roll loads h.tests in
      h.loads_after ∙ same_lines (length loads) (paid_line f.balance loads) (load_line (with_loads l loads) loads) (λ j b. paid_line_lem loads j (unpaid (get_or loads j clear_load) (every_at_lem load_ok loads j clear_load ok.sound b)) (none j))

-- a load that is paid a cent was paid of something
pub paid_of : (s v : ℕ) (w : ℕ → ℕ) (j : ℕ) → 0 < share_of s v w j → 0 < s
paid_of zero v w j h = absurd (omega (arith, share_none 0 v w refl j))
paid_of (suc s) v w j h = omega arith
