-- The settled examples of sharing and of the month.
use Rattle.std.specs.Prelude.{ℕ, cond, List, [], ◌∷◌, ℤ, pos, neg_ℤ, Some, ◌==◌}
use Rattle.rows.specs.declared.plain.HoldingRow.{HoldingRow}
use Rattle.payoff.specs.Tables.{empty_hour}
use Rattle.payoff.specs.Rules.{Meaning}
use Rattle.sharing.specs.Shares.{share_of}
use Rattle.ledger.specs.declared.lines.LoadLine.{LoadLine}
use Rattle.ledger.specs.Lines.{cents}
use Rattle.ledger.specs.Posting.{Posting, posting_of, rent_of, dues_of, answer_of}
use Rattle.ledger.specs.Ledger.{Ledger, posted, refunded, closed, blank, ledger_from}

-- 2 shared over 1, 1 and 1
abbrev pub shared_evenly : List ℤ
shared_evenly = pos (share_of 2 3 (λ i. 1) 0) ∷ pos (share_of 2 3 (λ i. 1) 1) ∷ pos (share_of 2 3 (λ i. 1) 2) ∷ []

-- 10 MW are paid 6,000 cents to owner 0 and 4,000 to owner 1, and charged 1,000 to owner 2
abbrev price_of : ℕ → ℤ
price_of o = cond (o == 0) (pos 600) (cond (o == 1) (pos 400) (neg_ℤ (pos 100)))

abbrev by_owner : Meaning
by_owner t h = Some record { quantity = 100; target = price_of h.owner; deration = pos 0; floor = price_of h.owner }

abbrev held_by : ℕ → HoldingRow
held_by o = record { owner = o; letter = 66; source = 0; sink = 1; quantity = 100; block = 87; actual = 0; real_time = 0 }

abbrev hour_with : ℕ → ℕ → List HoldingRow → Posting
hour_with number rent hs = posting_of by_owner record { hour = number; weekday = 0; ending = 7; rent = rent } empty_hour hs [] []

abbrev short_hour : Posting
short_hour = hour_with 1 4000 (held_by 0 ∷ held_by 1 ∷ held_by 2 ∷ [])

abbrev rent_alone : Posting
rent_alone = hour_with 2 9000 []

abbrev posted_as : Posting → ℕ → Ledger → Ledger
posted_as p balance l = ledger_from l (posted p (answer_of (rent_of p) (dues_of p) balance) [] [] ∷ [])

abbrev after_first : Ledger
after_first = posted_as short_hour 0 blank

abbrev after_refund : Ledger
after_refund = ledger_from (posted_as rent_alone 9000 after_first) (refunded ∷ [])

abbrev load : ℕ → LoadLine
load mwh = record { mwh = mwh; paid = cents 0 }

abbrev after_close : Ledger
after_close = ledger_from after_refund (closed (load 1 ∷ load 3 ∷ []) [] ∷ [])

abbrev pub shortfalls : List ℤ
shortfalls = pos (after_first.short 0) ∷ pos (after_first.short 1) ∷ pos (after_first.short 2) ∷ []

-- the two refunds, the rest, and the two loads
abbrev pub month_at_end : List ℤ
month_at_end = pos (after_refund.refund 0) ∷ pos (after_refund.refund 1) ∷ pos after_refund.balance ∷ pos (after_close.paid 0) ∷ pos (after_close.paid 1) ∷ []
