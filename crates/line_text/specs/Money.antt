-- The lines of owners and of loads.
use Rattle.std.specs.Prelude.{ℕ, List, ◌++◌, codes, decimal}
use Rattle.std.specs.Fmt.{signed_decimal}
use Rattle.ledger.specs.declared.lines.HourLine.{HourLine}
use Rattle.ledger.specs.declared.lines.LoadLine.{LoadLine}
use Rattle.ledger.specs.declared.lines.RollLine.{RollLine}

-- owner O credit C charge G shortfall charge S refund R
unfoldable pub owner_text : ℕ → RollLine → List ℕ
owner_text o x =
    codes "owner " ++ (decimal o ++ (codes " credit " ++ (signed_decimal x.credit.value ++ (codes " charge " ++ (signed_decimal x.charge.value ++ (codes " shortfall charge " ++ (signed_decimal x.short.value ++ (codes " refund " ++ (signed_decimal x.refund.value ++ codes "\n")))))))))

-- owner O credit C charge G shortfall charge S
unfoldable pub owner_hour_text : ℕ → HourLine → List ℕ
owner_hour_text o x =
    codes "owner " ++ (decimal o ++ (codes " credit " ++ (signed_decimal x.credit.value ++ (codes " charge " ++ (signed_decimal x.charge.value ++ (codes " shortfall charge " ++ (signed_decimal x.short.value ++ codes "\n")))))))

-- load L mwh M payment P
unfoldable pub load_text : ℕ → LoadLine → List ℕ
load_text l x = codes "load " ++ (decimal l ++ (codes " mwh " ++ (decimal x.mwh ++ (codes " payment " ++ (signed_decimal x.paid.value ++ codes "\n")))))
