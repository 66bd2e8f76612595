-- The table of refusals: the number of each cause, the layer of each number, and what is told of a refusal.
use Rattle.std.specs.Prelude.{ℕ, cond, List, ◌++◌, Ok, Err, codes, decimal, Result, ◌==◌, nat_le}
use Rattle.refusals.specs.declared.refusal.Cause.{Cause}
use Rattle.refusals.specs.declared.refusal.Cause.TheVariants.{PackageLength, Version, RecordLength, RecordOrder, TooManyRecords, OutOfRange, TooShort, Sizes, OwnerOffRoll, PointPair, WrongBlock, NotServed, RepeatedHolding, HourMoney, BadEntry, HourOrder, RollMismatch, MonthMoney, NoLoad, LoadLine, RollSize}
use Rattle.refusals.specs.declared.refusal.Layer.{Layer}
use Rattle.refusals.specs.declared.refusal.Layer.TheVariants.{Package, Instrument, Hour, Month}
use Rattle.refusals.specs.declared.refusal.Refusal.{Refusal}

abbrev pub number_of : Cause → ℕ
number_of PackageLength = 1
number_of Version = 2
number_of RecordLength = 3
number_of RecordOrder = 4
number_of TooManyRecords = 5
number_of OutOfRange = 6
number_of TooShort = 7
number_of Sizes = 11
number_of OwnerOffRoll = 12
number_of PointPair = 13
number_of WrongBlock = 14
number_of NotServed = 15
number_of RepeatedHolding = 16
number_of HourMoney = 17
number_of BadEntry = 18
number_of HourOrder = 21
number_of RollMismatch = 22
number_of MonthMoney = 23
number_of NoLoad = 24
number_of LoadLine = 25
number_of RollSize = 26

-- package 1 to 7, instrument 15, hour the other teens, month above
abbrev pub layer_of : ℕ → Layer
layer_of n = cond (nat_le n 7) Package (cond (n == 15) Instrument (cond (nat_le n 18) Hour Month))

-- what a caller is told of a refusal: layer, number and place
pub record Told : Type 0 where
  pub layer : Layer
  pub number : ℕ
  pub place : ℕ

-- the refusal of a number at a place
abbrev pub refused_at : ℕ → ℕ → Told
refused_at n p = record { layer = layer_of n; number = n; place = p }

abbrev pub told : Refusal → Told
told e = refused_at (number_of e.cause) e.place

-- an answer as its caller reads it: what was made, seen by f, or what is told of the refusal
abbrev pub told_by : {X Y : Type 0} → (X → Y) → Result X Refusal → Result Y Told
told_by f (Ok x) = Ok (f x)
told_by f (Err e) = Err (told e)

-- `refused N at P`
abbrev pub refused_text : Told → List ℕ
refused_text e = codes "refused " ++ (decimal e.number ++ (codes " at " ++ decimal e.place))

-- the line that a program prints of a refusal
abbrev pub shown_refusal : Refusal → List ℕ
shown_refusal e = codes "refused " ++ (decimal (number_of e.cause) ++ (codes " at " ++ decimal e.place))
