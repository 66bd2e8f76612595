use Rattle.std.proofs.Common.{◌≡◌, ℕ, ◌+◌, List, ◌++◌, length, ℤ, pos, nat_abs, decimal, sym, refl, ap, ◌∙◌, subst, length-append, w64, to_z, of_z}
use lib.Signed.{lt_z}
use Rattle.std.specs.Fmt.{sign_text, signed_decimal}
use Rattle.std.proofs.lemmas.Int.{to_z-of_z}
use Rattle.buffer.specs.Appends.{Appends}
use Rattle.buffer.proofs.Joins.{appended}
use Rattle.statement.proofs.Texts.{signed_parts}
use Rattle.statement.proofs.numbers.put_signed.Goals as goal

-- the parts that the number z is written in, z as its bits hold it and u its magnitude
parts : (z : ℤ) (n : ℤ) (u : ℕ) → z ≡ n → u ≡ nat_abs z → sign_text (lt_z z (pos 0)) ++ decimal u ≡ signed_decimal n
parts z n u e h = ap (λ m. sign_text (lt_z z (pos 0)) ++ decimal m) h ∙ sym (signed_parts z) ∙ ap signed_decimal e

long : (z : ℤ) (n : ℤ) → z ≡ n → length (sign_text (lt_z z (pos 0))) + length (decimal (nat_abs z)) ≡ length (signed_decimal n)
long z n e = sym (length-append (sign_text (lt_z z (pos 0))) (decimal (nat_abs z))) ∙ ap length (parts z n (nat_abs z) e refl)

pub returns : goal.returns
returns c =
    subst (λ (ds : List ℕ). Appends c.args.out.now ds c.put_decimal.new.out) (parts (to_z w64 (of_z w64 c.args.n)) c.args.n c.unsigned_abs.result (to_z-of_z w64 c.args.n c.ranges.n) c.unsigned_abs.ensures.value)
    (appended _ _ _ _ _ c.put_sign.ensures c.put_decimal.ensures)
