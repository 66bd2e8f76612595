use Rattle.std.proofs.Common.{refl, ◌∙◌, arith}
use Rattle.month.proofs.Columns.{tied_true}
use Rattle.month.proofs.Posts.{roll_roomy, answered_is, ok, owners_ready, amounts_ready, sums_ready, month_ready, flows, roll_of_hour, sheet_of_hour, amounts_of_hour, month_of_hour}
use Rattle.month.proofs.state.OpenMonth.post.Goals as goal

pub invariant_of-hour : goal.invariant_of-hour
invariant_of-hour g c = let a = c.in_ok-sums.ensures in record { on_roll = owners_ready a; credits = (sums_ready a).0; charges = (sums_ready a).1 }

pub write_hour-requires : goal.write_hour-requires
write_hour-requires g c =
    let a = c.in_ok-sums.ensures in
    record { lines = (refl, (ok a).lines); room = amounts_ready a; roll = roll_roomy _ _ (tied_true _ _ (ok a).ties) (omega arith) (omega arith) (omega arith) }

pub enter-requires : goal.enter-requires
enter-requires g c = let a = c.in_ok-sums.ensures in record { later = (ok a).later; month = month_ready a; flows = flows a _ refl }

pub returns : goal.returns
returns g c =
    let a = c.in_ok-sums.ensures in
    record {
      tests = a.tests;
      month_after = c.enter.ensures ∙ month_of_hour a c.args.day.now.hour;
      roll_after = c.write_hour.ensures.roll ∙ roll_of_hour a;
      sheet_after = c.write_hour.ensures.sheet ∙ sheet_of_hour a;
      amounts_after = c.write_hour.ensures.amounts ∙ amounts_of_hour a;
      answer = c.answer.ensures ∙ answered_is c.args.day.now.rent c.in_ok-sums.sums _ c.enter.new.self.balance c.args.day.now.rent_low a.sums;
    }
