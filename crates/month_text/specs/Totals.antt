-- The totals of a month, and both sides of its money equation.
use Rattle.std.specs.Prelude.{ℕ, ◌+◌, List, ◌++◌, codes, decimal}
use Rattle.ledger.specs.Figures.{Figures}

-- month hours H rent R credit C charge G
unfoldable pub earned_text : Figures → List ℕ
earned_text f = codes "month hours " ++ (decimal f.hours ++ (codes " rent " ++ (decimal f.rents ++ (codes " credit " ++ (decimal f.credits ++ (codes " charge " ++ decimal f.charges))))))

-- shortfall charge S refund F load payment P
unfoldable pub repaid_text : Figures → List ℕ
repaid_text f = codes " shortfall charge " ++ (decimal f.shorts ++ (codes " refund " ++ (decimal f.refunds ++ (codes " load payment " ++ (decimal f.payments ++ codes "\n")))))

-- what came in
unfoldable pub in_text : Figures → List ℕ
in_text f =
    codes "in rents " ++ (decimal f.rents ++ (codes " + charges " ++ (decimal f.charges ++ (codes " + shortfall charges " ++ (decimal f.shorts ++ (codes " = " ++ (decimal (f.rents + f.charges + f.shorts) ++ codes "\n")))))))

-- and where it went
unfoldable pub out_text : Figures → List ℕ
out_text f =
    codes "out credits " ++ (decimal f.credits ++ (codes " + refunds " ++ (decimal f.refunds ++ (codes " + load payments " ++ (decimal f.payments ++ (codes " = " ++ (decimal (f.credits + f.refunds + f.payments) ++ codes "\n")))))))

abbrev pub month_totals : Figures → List ℕ
month_totals f = earned_text f ++ (repaid_text f ++ (in_text f ++ out_text f))
