use Rattle.std.proofs.Common.{ℕ, List, length, ap, subst, arith}
use Rattle.buffer.specs.Appends.{Appends}
use Rattle.buffer.proofs.Joins.{appended}
use Rattle.writer.proofs.encoded.HoldingRowEncoded.put_bytes.Goals as goal

pub returns-clause-wrote : goal.returns-clause-wrote
returns-clause-wrote c =
    let n = ap length c.holding_bytes.ensures.value in
    let a = c.put.ensures.wrote (omega (arith, c.requires)) in
    let b = c.put-2.ensures.wrote (omega (arith, c.requires, a.wrote.end, a.wrote.len)) in
    appended _ _ _ _ _ a (subst (λ (bs : List ℕ). Appends c.put.new.self bs c.put-2.new.self) c.holding_bytes.ensures.value b)
