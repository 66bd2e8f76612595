use Rattle.std.proofs.Common.{string_bytes}
use Rattle.pricing.specs.Calls.{plain_pricing}
use Rattle.explanation.specs.Lines.{prices_text, amounts_text}
use Rattle.explanation.proofs.Joins.{joined_made}
use Rattle.explanation.proofs.lines.push_answer.Goals as goal

pub returns-in_ok-push_prices-in-Ok : goal.returns-in_ok-push_prices-in-Ok
returns-in_ok-push_prices-in-Ok c =
    let p = plain_pricing c.in-Ok.p in
    rw c.in-Ok.is (joined_made c.push_amounts.result (string_bytes c.args.text.now) (string_bytes c.push_prices.new.text) (string_bytes c.push_amounts.new.text) (prices_text p) (amounts_text p) c.in_ok-push_prices-in-Ok.ensures c.push_amounts.ensures)
