use Rattle.std.proofs.Common.{◌≡◌, ℕ, ◌+◌, ◌*◌, ◌<◌, ◌≤◌, true, false, cond, leb, List, length, ℤ, Ok, Err, sym, refl, ap, ◌∙◌, arith, length-append, rules, le-leb}
use borrow.Author.Tests.{lt-leb}
use Rattle.refusals.specs.Numbers.{refused_at}
use Rattle.rows.specs.declared.plain.HoldingRow.{HoldingRow}
use Rattle.buffer.specs.Appends.{Appends}
use Rattle.buffer.specs.declared.output.Output.{Output}
use Rattle.buffer.proofs.Joins.{appended, whole}
use Rattle.statement.specs.declared.figures.HourFigures.{HourFigures}
use Rattle.statement.specs.Lines.{holding_lines, hour_line_of, statement_of, sizes_ok, stated, length_of, written}
use Rattle.statement.proofs.Longs.{has_room}
use Rattle.statement.proofs.stating.write_statement.Goals as goal

module _ (n : ℕ) (hs : List HoldingRow) (zs : List ℤ) (f : HourFigures) (room : ℕ) (s : sizes_ok (length hs) (length zs) ≡ true) where
  long : length (statement_of n hs zs f) ≡ length (holding_lines 0 hs zs) + length (hour_line_of n f)
  unfolding statement_of
  long = length-append (holding_lines 0 hs zs) (hour_line_of n f)

  sized : stated n hs zs f room ≡ cond (leb (length (statement_of n hs zs f)) room) (Ok (statement_of n hs zs f)) (Err (refused_at 7 0))
  sized = ap (λ b. cond b (cond (leb (length (statement_of n hs zs f)) room) (Ok (statement_of n hs zs f)) (Err (refused_at 7 0))) (Err (refused_at 11 0))) s

  short : room < length (holding_lines 0 hs zs) + length (hour_line_of n f) → stated n hs zs f room ≡ Err (refused_at 7 0)
  short h =
      let l = long in
      let b : leb (length (statement_of n hs zs f)) room ≡ false = lt-leb _ _ (omega arith) in
      sized ∙ ap (λ x. cond x (Ok (statement_of n hs zs f)) (Err (refused_at 7 0))) b

  good : length (holding_lines 0 hs zs) + length (hour_line_of n f) ≤ room → stated n hs zs f room ≡ Ok (statement_of n hs zs f)
  good h =
      let l = long in
      let b : leb (length (statement_of n hs zs f)) room ≡ true = le-leb _ _ (omega arith) in
      sized ∙ ap (λ x. cond x (Ok (statement_of n hs zs f)) (Err (refused_at 7 0))) b

  both : (o p q : Output) → Appends o (holding_lines 0 hs zs) p → Appends p (hour_line_of n f) q → Appends o (statement_of n hs zs f) q
  unfolding statement_of
  both o p q w v = appended o p q (holding_lines 0 hs zs) (hour_line_of n f) w v

pub returns-then-not-has_room : goal.returns-then-not-has_room
returns-then-not-has_room c =
    let s : sizes_ok (length c.args.holdings.now) (length c.args.amounts.now) ≡ true = sym c.if-not-sizes_ok.ensures in
    let e = short c.args.day.now.hour c.args.holdings.now c.args.amounts.now c.args.figures.now (length c.args.out.now) s (omega (arith, c.hour_len-hour_line.ensures.value, c.if-not-has_room.ensures.short refl)) in
    record { answer = rw (c.at-then-not-has_room.ensures.cause, c.at-then-not-has_room.ensures.place) (ap length_of (sym e)); buffer = ap (λ r. written r c.args.out.now) (sym e) }

pub returns : goal.returns
returns c =
    let s : sizes_ok (length c.args.holdings.now) (length c.args.amounts.now) ≡ true = sym c.if-not-sizes_ok.ensures in
    let v = c.put_lines.ensures.wrote in
    let m = has_room (length c.args.out.now) (53 * length c.args.holdings.now + c.hour_len-hour_line.result) (length (holding_lines 0 c.args.holdings.now c.args.amounts.now) + c.hour_len-hour_line.result) (omega (arith, v.wrote.end, c.put_lines.ensures.bound)) (c.if-not-has_room.ensures.fits refl) in
    let e = good c.args.day.now.hour c.args.holdings.now c.args.amounts.now c.args.figures.now (length c.args.out.now) s (omega (arith, c.hour_len-hour_line.ensures.value)) in
    let b = both c.args.day.now.hour c.args.holdings.now c.args.amounts.now c.args.figures.now (length c.args.out.now) s _ _ _ v c.put_hour.ensures in
    let w = whole c.args.out.now (statement_of c.args.day.now.hour c.args.holdings.now c.args.amounts.now c.args.figures.now) c.put_hour.new.out.len c.put_hour.new.out.buffer.now b.wrote in
    let z : c.put_hour.new.out.buffer.now ≡ written (stated c.args.day.now.hour c.args.holdings.now c.args.amounts.now c.args.figures.now (length c.args.out.now)) c.args.out.now = w.1 ∙ ap (λ r. written r c.args.out.now) (sym e) in
    let n = b.same in
    record { answer = ap (λ (m : ℕ). Ok m) w.0 ∙ ap length_of (sym e); buffer = search rules }
