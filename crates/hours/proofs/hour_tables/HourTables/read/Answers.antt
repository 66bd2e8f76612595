use Rattle.std.proofs.Common.{◌≡◌, length, sym, ◌∙◌, rules}
use Rattle.std.proofs.lemmas.Result.{err_from_is_err_and}
use Rattle.refusals.specs.Numbers.{told}
use Rattle.packages.specs.Counting.{seen_in}
use Rattle.format.specs.Reading.{reads_into}
use Rattle.hours.proofs.Fronts.{read_in, refused_in_lem, stays_in, largest}
use Rattle.hours.proofs.hour_tables.HourTables.read.Goals as goal

pub returns-in_err-self : goal.returns-in_err-self
returns-in_err-self c =
    let t = c.args.self.now in
    let r = reads_into c.args.bytes.now t.constraints t.points t.factors t.holdings in
    let a = c.in_err-self.ensures in
    let e = refused_in_lem r (told c.in_err-self.field-0.0) a.answer in
    let cs = stays_in r _ (λ x. x.constraints) t.constraints c.read_package.new.constraints e a.constraint_rows in
    let ps = stays_in r _ (λ x. x.points) t.points c.read_package.new.points e a.point_rows in
    let fs = stays_in r _ (λ x. x.factors) t.factors c.read_package.new.factors e a.factor_rows in
    let hs = stays_in r _ (λ x. x.holdings) t.holdings c.read_package.new.holdings e a.holding_rows in
    let cl : length t.constraints ≡ 32 = search rules in
    let pl : length t.points ≡ 256 = search rules in
    let fl : length t.factors ≡ 8192 = search rules in
    let hl : length t.holdings ≡ 1024 = search rules in
    let p = err_from_is_err_and c.from_residual.result c.from_residual.ensures.1 in
    rw (p.1, p.2) (sym (largest c.args.bytes.now t.constraints t.points t.factors t.holdings cl pl fl hl) ∙ e, rw (cs, ps, fs, hs))

pub returns : goal.returns
returns c =
    let t = c.args.self.now in
    let a = c.in_ok-self.ensures in
    let cl : length t.constraints ≡ 32 = search rules in
    let pl : length t.points ≡ 256 = search rules in
    let fl : length t.factors ≡ 8192 = search rules in
    let hl : length t.holdings ≡ 1024 = search rules in
    sym (largest c.args.bytes.now t.constraints t.points t.factors t.holdings cl pl fl hl) ∙ sym (read_in _ (seen_in c.in_ok-self.field-0) _ _ _ _ _ _ _ _ a.answer a.constraint_rows a.point_rows a.factor_rows a.holding_rows)
