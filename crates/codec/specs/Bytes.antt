-- Numbers as bytes, the highest first.
use Rattle.std.specs.Prelude.{ℕ, ◌+◌, ◌*◌, ◌/◌, ◌%◌, ◌<◌, List, [], ◌∷◌, ℤ, slice_index}
use Rattle.std.specs.Int.{w16, w32}
use Rattle.std.proofs.Common.{of_z, to_z}

-- a number in 2, 4 and 8 bytes
abbrev pub be2 : ℕ → List ℕ
be2 n = (n / 256 % 256) ∷ (n % 256) ∷ []

abbrev pub be4 : ℕ → List ℕ
be4 n = (n / 16777216 % 256) ∷ (n / 65536 % 256) ∷ (n / 256 % 256) ∷ (n % 256) ∷ []

abbrev pub be8 : ℕ → List ℕ
be8 n =
    (n / 72057594037927936 % 256) ∷ (n / 281474976710656 % 256) ∷ (n / 1099511627776 % 256) ∷ (n / 4294967296 % 256) ∷ (n / 16777216 % 256) ∷ (n / 65536 % 256) ∷ (n / 256 % 256) ∷ (n % 256) ∷ []

-- and one that may be below 0, in two's complement
abbrev pub twos2 : ℤ → List ℕ
twos2 z = be2 (of_z w16 z)

abbrev pub twos4 : ℤ → List ℕ
twos4 z = be4 (of_z w32 z)

-- the number that bytes stand for
abbrev pub num2 : ℕ → ℕ → ℕ
num2 a b = a * 256 + b

abbrev pub num4 : ℕ → ℕ → ℕ → ℕ → ℕ
num4 a b c d = a * 16777216 + b * 65536 + c * 256 + d

abbrev pub num8 : ℕ → ℕ → ℕ → ℕ → ℕ → ℕ → ℕ → ℕ → ℕ
num8 a b c d e f g h =
    a * 72057594037927936 + b * 281474976710656 + c * 1099511627776 + d * 4294967296 + e * 16777216 + f * 65536 + g * 256 + h

-- the number that stands at a place
abbrev pub num2_at : List ℕ → ℕ → ℕ
num2_at bs i = num2 (slice_index bs i) (slice_index bs (i + 1))

abbrev pub num4_at : List ℕ → ℕ → ℕ
num4_at bs i = num4 (slice_index bs i) (slice_index bs (i + 1)) (slice_index bs (i + 2)) (slice_index bs (i + 3))

abbrev pub num8_at : List ℕ → ℕ → ℕ
num8_at bs i =
    num8 (slice_index bs i) (slice_index bs (i + 1)) (slice_index bs (i + 2)) (slice_index bs (i + 3)) (slice_index bs (i + 4)) (slice_index bs (i + 5)) (slice_index bs (i + 6)) (slice_index bs (i + 7))

abbrev pub int2 : ℕ → ℕ → ℤ
int2 a b = to_z w16 (num2 a b)

abbrev pub int4_at : List ℕ → ℕ → ℤ
int4_at bs i = to_z w32 (num4_at bs i)

-- each element is a byte
abbrev pub Bytes : List ℕ → Type 0
Bytes bs = (k : ℕ) → slice_index bs k < 256
