use Rattle.std.proofs.Common.{◌≡◌, ◌+◌, ◌/◌, ◌%◌, [], ◌∷◌, length, decimal, sym, ap, arith, length-append}
use Rattle.std.proofs.lemmas.Fmt.{decimal_digit, decimal_step, length-decimal-le}
use Rattle.statement.proofs.numbers.+decimal_len.Goals as goal

pub returns-then-n-lt10 : goal.returns-then-n-lt10
returns-then-n-lt10 t c = record { value = sym (ap length (decimal_digit c.args.n c.if-n-lt10.true)); bound = omega arith }

pub returns-else-n-lt10 : goal.returns-else-n-lt10
returns-else-n-lt10 t c =
    let s = ap length (decimal_step c.args.n c.if-n-lt10.false (omega arith)) in
    let v : c.decimal_len.result + 1 ≡ length (decimal c.args.n) =
    omega (arith, s, length-append (decimal (c.args.n / 10)) ((48 + c.args.n % 10) ∷ []), c.decimal_len.ensures.value) in
    record { value = v; bound = omega (arith, v, length-decimal-le 20 c.args.n (omega arith) (omega arith) (omega arith)) }
