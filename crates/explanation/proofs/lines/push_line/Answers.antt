use Rattle.std.proofs.Common.{◌++◌, string_bytes, codes}
use Rattle.refusals.specs.Numbers.{told_by}
use Rattle.pricing.specs.Calls.{plain_pricing}
use Rattle.explanation.specs.Lines.{head_text, answer_text}
use Rattle.explanation.proofs.Joins.{joined_made}
use Rattle.explanation.proofs.lines.push_line.Goals as goal

pub returns : goal.returns
unfolding head_text
returns c =
    let x = string_bytes c.args.text.now in
    let head = string_bytes c.write.new.self in
    let told = string_bytes c.push_answer.new.text in
    let line = string_bytes c.writeln.new.self in
    let answer = answer_text (told_by plain_pricing c.args.answer.now) in
    joined_made c.writeln.result x head line (head_text c.args.place c.args.row.now) (answer ++ codes "\n") c.in_ok-write.ensures.bytes (joined_made c.writeln.result head told line answer (codes "\n") c.in_ok-push_answer.ensures c.writeln.ensures.bytes)
