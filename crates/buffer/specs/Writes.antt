-- What was written into a buffer.
use Rattle.std.specs.Prelude.{◌≡◌, ℕ, ◌+◌, List, ◌++◌, length, take, drop}

-- from `at` on, bs was written, up to `to`; what lies before and past it stays
pub record Wrote (was : List ℕ) (at : ℕ) (bs : List ℕ) (to : ℕ) (is : List ℕ) : Type 0 where
  pub end : to ≡ at + length bs
  pub front : take to is ≡ take at was ++ bs
  pub rest : drop to is ≡ drop to was
  pub len : length is ≡ length was
