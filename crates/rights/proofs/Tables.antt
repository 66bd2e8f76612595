-- The empty table of chains.
use Rattle.std.proofs.Common.{ℕ, List, replicate, arith}
use Rattle.std.proofs.lemmas.List.{length-replicate, get_or-replicate}
use Rattle.rows.specs.declared.plain.HoldingRow.{HoldingRow}
use Rattle.rights.specs.Chains.{Chained}

pub none_chained : (hs : List HoldingRow) → Chained hs (replicate 1024 0) (replicate 1024 0) 0
none_chained hs =
    record { buckets = length-replicate {A = ℕ} 1024 0; links = length-replicate {A = ℕ} 1024 0; begins = λ b h. get_or-replicate {A = ℕ} 1024 b 0 0 h; leads = λ a h. absurd (omega arith) }
