-- Signed numbers as text.
use borrow.Author.Tests.{lt-leb}
use Rattle.std.proofs.Common.{◌≡◌, suc, ◌++◌, ℤ, pos, negsuc, nat_abs, decimal, sym, refl, ap, arith}
use lib.Signed.{lt_z}
use Rattle.std.specs.Fmt.{sign_text, signed_decimal}

pub signed_parts : (z : ℤ) → signed_decimal z ≡ sign_text (lt_z z (pos 0)) ++ decimal (nat_abs z)
signed_parts (pos n) = ap (λ b. sign_text b ++ decimal n) (sym (lt-leb (suc n) 0 (omega arith)))
signed_parts (negsuc n) = refl
