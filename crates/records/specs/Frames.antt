-- How the bytes of a package fall into records: two bytes of length, and then as many bytes, the first of them a letter.
use Rattle.std.specs.Prelude.{ℕ, suc, Bool, true, false, List, [], ◌∷◌, ◌++◌, length, take, drop, nat_le}
use Rattle.codec.specs.Bytes.{be2, num2}

-- nothing more, a record that is empty or past the end, or one with its letter and fields and what follows it
pub data Frame : Type 0 where
  End : Frame
  Bad : Frame
  One : ℕ → List ℕ → List ℕ → Frame

abbrev pub lettered : List ℕ → List ℕ → Frame
lettered [] rest = Bad
lettered (letter ∷ fields) rest = One letter fields rest

abbrev pub cut : Bool → ℕ → List ℕ → Frame
cut true n bs = lettered (take n bs) (drop n bs)
cut false n bs = Bad

abbrev pub frame_of : List ℕ → Frame
frame_of [] = End
frame_of (h ∷ []) = Bad
frame_of (h ∷ l ∷ bs) = cut (nat_le (num2 h l) (length bs)) (num2 h l) bs

-- a record as bytes
abbrev pub framed : ℕ → List ℕ → List ℕ
framed letter fields = be2 (suc (length fields)) ++ (letter ∷ fields)
