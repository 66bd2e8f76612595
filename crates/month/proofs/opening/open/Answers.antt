use Rattle.std.proofs.Common.{length, refl, rules}
use Rattle.ledger.proofs.Runs.{stands}
use Rattle.month.proofs.opening.open.Goals as goal

pub returns : goal.returns
returns c =
    let e = c.fill.ensures.after (λ y same. same) in
    record { done = record { tests = search rules; month_after = refl; roll_after = e }; runs = stands (length c.args.roll.now) _ c.fill.new.self refl e }
