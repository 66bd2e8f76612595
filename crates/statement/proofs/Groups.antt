-- A number's digits, by groups of two and of four.
use Rattle.std.proofs.Common.{◌≡◌, ℕ, ◌+◌, ◌/◌, ◌%◌, ◌^◌, ◌<◌, ◌≤◌, [], ◌∷◌, ◌++◌, length, decimal, ap, ◌∙◌, append_assoc, arith, length-append}
use Rattle.std.proofs.lemmas.Fmt.{decimal_digit, decimal_step}
use Rattle.statement.specs.Groups.{pair_of, four_of}

-- a number of two digits
pub of_two : (n : ℕ) → 10 ≤ n → n < 100 → decimal n ≡ pair_of n
of_two n h k = decimal_step n h (omega arith) ∙ ap (λ ds. ds ++ ((48 + n % 10) ∷ [])) (decimal_digit (n / 10) (omega arith))

-- the last two digits
pub last_two : (n : ℕ) → 100 ≤ n → n < 2 ^ 64 → decimal n ≡ decimal (n / 100) ++ pair_of (n % 100)
last_two n h b =
    let q : n / 10 / 10 ≡ n / 100 = omega arith in
    let u : n / 10 % 10 ≡ n % 100 / 10 = omega arith in
    let v : n % 10 ≡ n % 100 % 10 = omega arith in
    decimal_step n (omega arith) b
    ∙ ap (λ ds. ds ++ ((48 + n % 10) ∷ [])) (decimal_step (n / 10) (omega arith) (omega arith))
    ∙ append_assoc (decimal (n / 10 / 10)) ((48 + n / 10 % 10) ∷ []) ((48 + n % 10) ∷ [])
    ∙ ap (λ m. decimal m ++ ((48 + n / 10 % 10) ∷ ((48 + n % 10) ∷ []))) q
    ∙ ap (λ m. decimal (n / 100) ++ ((48 + m) ∷ ((48 + n % 10) ∷ []))) u
    ∙ ap (λ m. decimal (n / 100) ++ ((48 + n % 100 / 10) ∷ ((48 + m) ∷ []))) v

pub of_three : (n : ℕ) → 100 ≤ n → n < 1000 → decimal n ≡ ((48 + n / 100) ∷ []) ++ pair_of (n % 100)
of_three n h k = last_two n h (omega arith) ∙ ap (λ ds. ds ++ pair_of (n % 100)) (decimal_digit (n / 100) (omega arith))

pub of_four : (n : ℕ) → 1000 ≤ n → n < 10000 → decimal n ≡ four_of n
of_four n h k = last_two n (omega arith) (omega arith) ∙ ap (λ ds. ds ++ pair_of (n % 100)) (of_two (n / 100) (omega arith) (omega arith))

-- the last four digits
pub last_four : (n : ℕ) → 10000 ≤ n → n < 2 ^ 64 → decimal n ≡ decimal (n / 10000) ++ four_of (n % 10000)
last_four n h b =
    let q : n / 100 / 100 ≡ n / 10000 = omega arith in
    let u : n / 100 % 100 ≡ n % 10000 / 100 = omega arith in
    let v : n % 100 ≡ n % 10000 % 100 = omega arith in
    last_two n (omega arith) b
    ∙ ap (λ ds. ds ++ pair_of (n % 100)) (last_two (n / 100) (omega arith) (omega arith))
    ∙ append_assoc (decimal (n / 100 / 100)) (pair_of (n / 100 % 100)) (pair_of (n % 100))
    ∙ ap (λ m. decimal m ++ (pair_of (n / 100 % 100) ++ pair_of (n % 100))) q
    ∙ ap (λ m. decimal (n / 10000) ++ (pair_of m ++ pair_of (n % 100))) u
    ∙ ap (λ m. decimal (n / 10000) ++ (pair_of (n % 10000 / 100) ++ pair_of m)) v

pub last_four_long : (n : ℕ) → 10000 ≤ n → n < 2 ^ 64 → length (decimal n) ≡ length (decimal (n / 10000)) + 4
last_four_long n h b = ap length (last_four n h b) ∙ length-append (decimal (n / 10000)) (four_of (n % 10000))
