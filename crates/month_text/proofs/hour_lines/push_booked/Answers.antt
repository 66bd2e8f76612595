use Rattle.std.proofs.Common.{string_bytes}
use Rattle.explanation.proofs.Joins.{joined_made}
use Rattle.month_text.specs.Lines.{booked_head, booked_tail}
use Rattle.month_text.proofs.Halves.{whole_made}
use Rattle.month_text.proofs.hour_lines.push_booked.Goals as goal

pub returns : goal.returns
returns c =
    let x = string_bytes c.args.text.now in
    let head = string_bytes c.push_head.new.text in
    let tail = string_bytes c.push_tail.new.text in
    let b = c.args.booked.now in
    whole_made c.push_tail.result x tail b (joined_made c.push_tail.result x head tail (booked_head b) (booked_tail b) c.in_ok-push_head.ensures c.push_tail.ensures)
