use Rattle.std.proofs.Common.{◌++◌, string_bytes}
use Rattle.month.specs.Months.{of_told}
use Rattle.explanation.proofs.Joins.{joined_made}
use Rattle.month_text.specs.Totals.{earned_text, repaid_text, in_text, out_text}
use Rattle.month_text.proofs.totals.push_totals.Goals as goal

pub returns : goal.returns
returns c =
    let x = string_bytes c.args.text.now in
    let earned = string_bytes c.push_earned.new.text in
    let repaid = string_bytes c.push_repaid.new.text in
    let ins = string_bytes c.push_in.new.text in
    let outs = string_bytes c.push_out.new.text in
    let f = of_told c.args.m.now in
    let last = joined_made c.push_out.result repaid ins outs (in_text f) (out_text f) c.in_ok-push_in.ensures c.push_out.ensures in
    let more = joined_made c.push_out.result earned repaid outs (repaid_text f) (in_text f ++ out_text f) c.in_ok-push_repaid.ensures last in
    joined_made c.push_out.result x earned outs (earned_text f) (repaid_text f ++ (in_text f ++ out_text f)) c.in_ok-push_earned.ensures more
