-- A number read from what was written of it, and written from what was read.
use Rattle.std.proofs.Common.{◌≡◌, ℕ, ◌+◌, ◌*◌, ◌/◌, ◌%◌, ◌^◌, ◌<◌, [], ◌∷◌, ℤ, ap, ◌∙◌, arith, w16, w32, SFits, to_z, of_z}
use native.Mathlib.Nat.{div-div-eq-div-mul}
use mir.Syntax.{Width}
use mir.Val.{bits}
use Rattle.std.proofs.lemmas.Int.{to_z-of_z, of_z-to_z}
use Rattle.codec.specs.Bytes.{be2, be4, be8, twos2, twos4, num2, num4, num8, int2}

pub num2_be2 : (n : ℕ) → n < 2 ^ 16 → num2 (n / 256 % 256) (n % 256) ≡ n
num2_be2 n h = omega arith

pub num4_be4 : (n : ℕ) → n < 2 ^ 32 → num4 (n / 16777216 % 256) (n / 65536 % 256) (n / 256 % 256) (n % 256) ≡ n
num4_be4 n h =
    let p = div-div-eq-div-mul n 256 256 in
    let q = div-div-eq-div-mul n 65536 256 in
    let top : n / 16777216 < 256 = omega arith in
    let a : n / 256 % 256 + 256 * (n / 65536) ≡ n / 256 = omega arith in
    let b : n / 65536 % 256 + 256 * (n / 16777216) ≡ n / 65536 = omega arith in
    let d : n / 16777216 % 256 ≡ n / 16777216 = omega arith in
    omega arith

pub num8_be8 : (n : ℕ) → n < 2 ^ 64 → num8 (n / 72057594037927936 % 256) (n / 281474976710656 % 256) (n / 1099511627776 % 256) (n / 4294967296 % 256) (n / 16777216 % 256) (n / 65536 % 256) (n / 256 % 256) (n % 256) ≡ n
num8_be8 n h =
    let p = div-div-eq-div-mul n 256 256 in
    let q = div-div-eq-div-mul n 65536 256 in
    let r = div-div-eq-div-mul n 16777216 256 in
    let s = div-div-eq-div-mul n 4294967296 256 in
    let t = div-div-eq-div-mul n 1099511627776 256 in
    let u = div-div-eq-div-mul n 281474976710656 256 in
    omega arith

pub be2_num2 : (a b : ℕ) → a < 256 → b < 256 → be2 (num2 a b) ≡ a ∷ b ∷ []
be2_num2 a b ha hb =
    let p : num2 a b / 256 % 256 ≡ a = omega arith in
    let q : num2 a b % 256 ≡ b = omega arith in
    cc

pub be4_num4 : (a b c d : ℕ) → a < 256 → b < 256 → c < 256 → d < 256 → be4 (num4 a b c d) ≡ a ∷ b ∷ c ∷ d ∷ []
be4_num4 a b c d ha hb hc hd =
    let p : num4 a b c d / 16777216 % 256 ≡ a = omega arith in
    let q : num4 a b c d / 65536 % 256 ≡ b = omega arith in
    let r : num4 a b c d / 256 % 256 ≡ c = omega arith in
    let s : num4 a b c d % 256 ≡ d = omega arith in
    cc

pub be8_num8 : (a b c d e f g h : ℕ) → a < 256 → b < 256 → c < 256 → d < 256 → e < 256 → f < 256 → g < 256 → h < 256 → be8 (num8 a b c d e f g h) ≡ a ∷ b ∷ c ∷ d ∷ e ∷ f ∷ g ∷ h ∷ []
be8_num8 a b c d e f g h ha hb hc hd he hf hg hh =
    let p1 : num8 a b c d e f g h / 72057594037927936 % 256 ≡ a = omega arith in
    let p2 : num8 a b c d e f g h / 281474976710656 % 256 ≡ b = omega arith in
    let p3 : num8 a b c d e f g h / 1099511627776 % 256 ≡ c = omega arith in
    let p4 : num8 a b c d e f g h / 4294967296 % 256 ≡ d = omega arith in
    let p5 : num8 a b c d e f g h / 16777216 % 256 ≡ e = omega arith in
    let p6 : num8 a b c d e f g h / 65536 % 256 ≡ f = omega arith in
    let p7 : num8 a b c d e f g h / 256 % 256 ≡ g = omega arith in
    let p8 : num8 a b c d e f g h % 256 ≡ h = omega arith in
    cc

of_z_lt : (w : Width) (z : ℤ) → SFits w z → of_z w z < 2 ^ bits w
of_z_lt w z f = search arith

-- in two's complement
pub int2_twos2 : (z : ℤ) → SFits w16 z → int2 (of_z w16 z / 256 % 256) (of_z w16 z % 256) ≡ z
int2_twos2 z f = ap (to_z w16) (num2_be2 (of_z w16 z) (of_z_lt w16 z f)) ∙ to_z-of_z w16 z f

pub twos2_int2 : (a b : ℕ) → a < 256 → b < 256 → twos2 (int2 a b) ≡ a ∷ b ∷ []
twos2_int2 a b ha hb = ap be2 (of_z-to_z w16 (num2 a b) (omega arith)) ∙ be2_num2 a b ha hb

pub int4_twos4 : (z : ℤ) → SFits w32 z → to_z w32 (num4 (of_z w32 z / 16777216 % 256) (of_z w32 z / 65536 % 256) (of_z w32 z / 256 % 256) (of_z w32 z % 256)) ≡ z
int4_twos4 z f = ap (to_z w32) (num4_be4 (of_z w32 z) (of_z_lt w32 z f)) ∙ to_z-of_z w32 z f

pub twos4_int4 : (a b c d : ℕ) → a < 256 → b < 256 → c < 256 → d < 256 → twos4 (to_z w32 (num4 a b c d)) ≡ a ∷ b ∷ c ∷ d ∷ []
twos4_int4 a b c d ha hb hc hd = ap be4 (of_z-to_z w32 (num4 a b c d) (omega arith)) ∙ be4_num4 a b c d ha hb hc hd
