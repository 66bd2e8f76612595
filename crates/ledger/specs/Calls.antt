-- What open, refund and close do: the test of each, in order, and every figure and table after.
use Rattle.std.specs.Prelude.{◌≡◌, ℕ, ◌+◌, ◌-◌, min, Bool, cond, ◌&&◌, List, length, replicate, Some, None, sum_by, Option, ◌==◌, nat_le, nat_lt, slice_index_or}
use Rattle.std.specs.Option.{option_map}
use Rattle.refusals.specs.Numbers.{Told, refused_at}
use Rattle.rows.specs.Firsts.{first_bad}
use Rattle.sharing.specs.Shares.{share_of, weights_of}
use Rattle.units.specs.Parts.{positive}
use Rattle.ledger.specs.declared.lines.RollLine.{RollLine}
use Rattle.ledger.specs.declared.lines.LoadLine.{LoadLine}
use Rattle.ledger.specs.Lines.{lines_of, clear_roll, clear_load, refunded, paid_out}
use Rattle.ledger.specs.Figures.{Figures, started, within, tied}

-- the refusal of the first of two tests that refuses
abbrev pub first_refusal : Option Told → Option Told → Option Told
first_refusal None next = next
first_refusal (Some e) next = Some e

-- open
abbrev pub open_test : List RollLine → Option Told
open_test roll = cond (nat_le 1 (length roll) && nat_le (length roll) 128) None (Some (refused_at 26 0))

pub record OpenAccepted (roll : List RollLine) (f : Figures) (roll' : List RollLine) : Type 0 where
  pub tests : open_test roll ≡ None
  pub month_after : f ≡ started (length roll)
  pub roll_after : roll' ≡ replicate (length roll) clear_roll

pub record OpenRefused (roll : List RollLine) (e : Told) (roll' : List RollLine) : Type 0 where
  pub tests : open_test roll ≡ Some e
  pub roll_after : roll' ≡ roll

-- refund
abbrev pub refund_test : Figures → List RollLine → Option Told
refund_test f roll = cond (tied f roll) None (Some (refused_at 22 0))

-- the smaller of balance and total shortfall
abbrev pub refund_sum : Figures → ℕ
refund_sum f = min f.balance f.shorts

abbrev pub short_in : List RollLine → ℕ → ℕ
short_in roll = weights_of (λ x. positive x.short.value) roll clear_roll

abbrev pub after_refund : Figures → Figures
after_refund f =
    record { owners = f.owners; hours = f.hours; last = f.last; rents = f.rents; credits = f.credits; charges = f.charges; shorts = f.shorts; refunds = f.refunds + refund_sum f; balance = f.balance - refund_sum f; payments = f.payments }

abbrev pub refunded_line : Figures → List RollLine → ℕ → RollLine
refunded_line f roll o = refunded (slice_index_or roll o clear_roll) (share_of (refund_sum f) f.shorts (short_in roll) o)

pub record RefundAccepted (f : Figures) (roll : List RollLine) (f' : Figures) (roll' : List RollLine) : Type 0 where
  pub tests : refund_test f roll ≡ None
  pub month_after : f' ≡ after_refund f
  pub roll_after : roll' ≡ lines_of (length roll) (refunded_line f roll)

pub record RefundRefused (f : Figures) (roll : List RollLine) (e : Told) (f' : Figures) (roll' : List RollLine) : Type 0 where
  pub tests : refund_test f roll ≡ Some e
  pub month_after : f' ≡ f
  pub roll_after : roll' ≡ roll

-- close
-- a load of at most 40,000,000 MWh that has had nothing
abbrev pub load_ok : LoadLine → Bool
load_ok x = nat_le x.mwh 40000000 && within 0 x.paid

abbrev pub loads_test : List LoadLine → Option Told
loads_test loads = cond (nat_le (length loads) 64) (option_map (refused_at 25) (first_bad load_ok loads)) (Some (refused_at 25 0))

abbrev pub load_total : List LoadLine → ℕ
load_total loads = sum_by (λ x. x.mwh) loads

abbrev pub close_test : Figures → List RollLine → List LoadLine → Option Told
close_test f roll loads =
    cond (tied f roll) (first_refusal (loads_test loads) (cond (nat_lt 0 f.balance && load_total loads == 0) (Some (refused_at 24 0)) None)) (Some (refused_at 22 0))

abbrev pub mwh_in : List LoadLine → ℕ → ℕ
mwh_in loads = weights_of (λ x. x.mwh) loads clear_load

abbrev pub after_close : Figures → Figures
after_close f =
    record { owners = f.owners; hours = f.hours; last = f.last; rents = f.rents; credits = f.credits; charges = f.charges; shorts = f.shorts; refunds = f.refunds; balance = 0; payments = f.payments + f.balance }

-- a load line with its share of the rest, by MWh
abbrev pub paid_line : ℕ → List LoadLine → ℕ → LoadLine
paid_line rest loads k = paid_out (slice_index_or loads k clear_load) (share_of rest (load_total loads) (mwh_in loads) k)

pub record CloseAccepted (f : Figures) (roll : List RollLine) (loads : List LoadLine) (f' : Figures) (loads' : List LoadLine) : Type 0 where
  pub tests : close_test f roll loads ≡ None
  pub month_after : f' ≡ after_close f
  pub loads_after : loads' ≡ lines_of (length loads) (paid_line f.balance loads)

pub record CloseRefused (f : Figures) (roll : List RollLine) (loads : List LoadLine) (e : Told) (f' : Figures) (loads' : List LoadLine) : Type 0 where
  pub tests : close_test f roll loads ≡ Some e
  pub month_after : f' ≡ f
  pub loads_after : loads' ≡ loads
