use Rattle.std.proofs.Common.{◌≡◌, ℕ, length, get_or, sym, ap, ◌∙◌, arith}
use Rattle.ledger.specs.Lines.{lines_of, clear_roll, clear_hour}
use Rattle.ledger.specs.Posting.{added_to}
use Rattle.ledger.proofs.Places.{length_lines, at_line, same_lines}
use Rattle.month.specs.Hours.{added_line}
use Rattle.month.specs.Sums.{sheet_line, rolled_line}
use Rattle.month.proofs.Sheets.{owners_are, sheet_roomy}
use Rattle.month.proofs.post.write_hour.Goals as goal

pub add_sheet-requires : goal.add_sheet-requires
add_sheet-requires c =
    let n = length c.args.sheet.now in
    let ds = c.args.hour.now.dues.now in
    let s = c.args.hour.now.sums.short in
    record {
      lines = ap length c.fill_sheet.ensures ∙ length_lines n (sheet_line s ds) ∙ c.requires.lines.1 ∙ sym c.requires.lines.0;
      roll = c.requires.roll;
      sheet = sheet_roomy n c.fill_sheet.new.sheet ds s (owners_are n c.args.hour.now.owners ds c.requires.lines.1 c.args.hour.now.on_roll) (omega arith) (omega arith) (omega arith) c.fill_sheet.ensures;
    }

pub returns : goal.returns
returns c =
    let n = length c.args.sheet.now in
    let roll = c.args.roll.now in
    let ds = c.args.hour.now.dues.now in
    let s = c.args.hour.now.sums.short in
    let sheet' = c.fill_sheet.new.sheet in
    let is : sheet' ≡ lines_of (length roll) (sheet_line s ds) = c.fill_sheet.ensures ∙ ap (λ (m : ℕ). lines_of m (sheet_line s ds)) (c.requires.lines.1 ∙ sym c.requires.lines.0) in
    record {
      amounts = c.write_amounts.ensures;
      sheet = is;
      roll = c.add_sheet.ensures ∙ same_lines (length roll) (added_line roll sheet') (rolled_line roll s ds) (λ o h. ap (added_to (get_or roll o clear_roll)) (ap (λ l. get_or l o clear_hour) is ∙ at_line (length roll) (sheet_line s ds) o clear_hour h));
    }
