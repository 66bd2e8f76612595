-- The ledger of a month: worked from the arguments of the calls and from which were accepted, and from nothing else.
use Rattle.std.specs.Prelude.{ℕ, ◌+◌, ◌-◌, min, List, [], ◌∷◌, ℤ, slice_index_or}
use Rattle.refusals.specs.Numbers.{Told}
use Rattle.sharing.specs.Shares.{share_of}
use Rattle.ledger.specs.declared.lines.HourAnswer.{HourAnswer}
use Rattle.ledger.specs.declared.lines.HourLine.{HourLine}
use Rattle.ledger.specs.declared.lines.RollLine.{RollLine}
use Rattle.ledger.specs.declared.lines.LoadLine.{LoadLine}
use Rattle.ledger.specs.Lines.{cents, clear_load}
use Rattle.ledger.specs.Hour.{credits, charges, short, left, own_credit, own_charge, own_short}
use Rattle.ledger.specs.Figures.{Figures}
use Rattle.ledger.specs.Calls.{load_total, mwh_in}
use Rattle.ledger.specs.Posting.{Posting, rent_of, dues_of}

-- a call with its arguments, whether it was accepted, what it answered, and what it left in the tables lent
pub data Event : Type 0 where
  posted : Posting → HourAnswer → List HourLine → List ℤ → Event
  post_refused : Posting → Told → List HourLine → List ℤ → Event
  refunded : Event
  refund_refused : Told → Event
  closed : List LoadLine → List LoadLine → Event
  close_refused : List LoadLine → Told → List LoadLine → Event

pub record Ledger : Type 0 where
  -- in all
  pub hours : ℕ
  pub last : ℕ
  pub rents : ℕ
  pub credits : ℕ
  pub charges : ℕ
  pub shorts : ℕ
  pub refunds : ℕ
  pub balance : ℕ
  pub payments : ℕ
  -- of each owner: credit, charge, shortfall charge and refund
  pub credit : ℕ → ℕ
  pub charge : ℕ → ℕ
  pub short : ℕ → ℕ
  pub refund : ℕ → ℕ
  -- of each load line: what it was paid
  pub paid : ℕ → ℕ

abbrev pub blank : Ledger
blank =
    record { hours = 0; last = 0; rents = 0; credits = 0; charges = 0; shorts = 0; refunds = 0; balance = 0; payments = 0; credit = λ o. 0; charge = λ o. 0; short = λ o. 0; refund = λ o. 0; paid = λ k. 0 }

-- an hour more: its rent, each owner's credit, charge and shortfall charge, and the balancing credit
abbrev pub with_hour : Ledger → Posting → Ledger
with_hour l p =
    let rent = rent_of p in
    let ds = dues_of p in
    record {
      hours = l.hours + 1;
      last = p.day.hour;
      rents = l.rents + rent;
      credits = l.credits + credits ds;
      charges = l.charges + charges ds;
      shorts = l.shorts + short rent ds;
      refunds = l.refunds;
      balance = l.balance + left rent ds;
      payments = l.payments;
      credit = λ o. l.credit o + own_credit ds o;
      charge = λ o. l.charge o + own_charge ds o;
      short = λ o. l.short o + own_short rent ds o;
      refund = l.refund;
      paid = l.paid;
    }

-- what is refunded in all: the smaller of balance and total shortfall
abbrev pub repaid : Ledger → ℕ
repaid l = min l.balance l.shorts

-- the refunds move from the balance to the owners, by shortfall charge
abbrev pub with_refund : Ledger → Ledger
with_refund l =
    record {
      hours = l.hours;
      last = l.last;
      rents = l.rents;
      credits = l.credits;
      charges = l.charges;
      shorts = l.shorts;
      refunds = l.refunds + repaid l;
      balance = l.balance - repaid l;
      payments = l.payments;
      credit = l.credit;
      charge = l.charge;
      short = l.short;
      refund = λ o. l.refund o + share_of (repaid l) l.shorts l.short o;
      paid = l.paid;
    }

-- the rest moves from the balance to the loads, by MWh
abbrev pub with_loads : Ledger → List LoadLine → Ledger
with_loads l loads =
    record {
      hours = l.hours;
      last = l.last;
      rents = l.rents;
      credits = l.credits;
      charges = l.charges;
      shorts = l.shorts;
      refunds = l.refunds;
      balance = 0;
      payments = l.payments + l.balance;
      credit = l.credit;
      charge = l.charge;
      short = l.short;
      refund = l.refund;
      paid = λ k. l.paid k + share_of l.balance (load_total loads) (mwh_in loads) k;
    }

-- a refused call leaves the ledger as it was
abbrev pub noted : Ledger → Event → Ledger
noted l (posted p a sheet amounts) = with_hour l p
noted l (post_refused p e sheet amounts) = l
noted l refunded = with_refund l
noted l (refund_refused e) = l
noted l (closed loads loads') = with_loads l loads
noted l (close_refused loads e loads') = l

abbrev pub ledger_from : Ledger → List Event → Ledger
ledger_from l [] = l
ledger_from l (e ∷ es) = ledger_from (noted l e) es

-- the figures of a month of n owners, an owner's roll line, and a load line, as the ledger has them
abbrev pub figures_of : ℕ → Ledger → Figures
figures_of n l =
    record { owners = n; hours = l.hours; last = l.last; rents = l.rents; credits = l.credits; charges = l.charges; shorts = l.shorts; refunds = l.refunds; balance = l.balance; payments = l.payments }

abbrev pub owner_line : Ledger → ℕ → RollLine
owner_line l o = record { credit = cents (l.credit o); charge = cents (l.charge o); short = cents (l.short o); refund = cents (l.refund o) }

abbrev pub load_line : Ledger → List LoadLine → ℕ → LoadLine
load_line l loads k = record { mwh = (slice_index_or loads k clear_load).mwh; paid = cents (l.paid k) }
