-- The lines of a month's packages.
use Rattle.std.specs.Prelude.{ℕ, List, [], ◌++◌, map, Ok, Err, string_bytes, codes, decimal, Result, String, slice_index_or}
use Rattle.std.specs.Fmt.{signed_decimal}
use Rattle.std.specs.declared.alloc.Global.{Global}
use Rattle.refusals.specs.declared.refusal.Refusal.{Refusal}
use Rattle.refusals.specs.Numbers.{Told, told, refused_text}
use Rattle.statement.specs.Lines.{hour_line_of}
use Rattle.settlement.specs.Settled.{figures_told}
use Rattle.month_settlement.specs.declared.outcomes.BookedHour.{BookedHour}

-- an hour that was posted, as its statement has it
unfoldable pub booked_text : BookedHour → List ℕ
booked_text b = hour_line_of b.hour (figures_told b.answer)

-- its two halves
unfoldable pub booked_head : BookedHour → List ℕ
booked_head b = codes "hour " ++ (decimal b.hour ++ (codes " rent " ++ (signed_decimal b.answer.rent.value ++ (codes " credit " ++ signed_decimal b.answer.credits.value))))

unfoldable pub booked_tail : BookedHour → List ℕ
booked_tail b = codes " charge " ++ (signed_decimal b.answer.charges.value ++ (codes " short " ++ (signed_decimal b.answer.short.value ++ (codes " balance " ++ (signed_decimal b.answer.balance.value ++ codes "\n")))))

-- FILE: refused N at P
abbrev pub refused_in : List ℕ → Told → List ℕ
refused_in name e = name ++ (codes ": " ++ (refused_text e ++ codes "\n"))

abbrev pub outcome_text : List ℕ → Result BookedHour Refusal → List ℕ
outcome_text name (Ok b) = booked_text b
outcome_text name (Err e) = refused_in name (told e)

abbrev pub names_of : List (String Global) → List (List ℕ)
names_of names = map string_bytes names

abbrev pub name_at : List (List ℕ) → ℕ → List ℕ
name_at names i = slice_index_or names i []

-- what became of the package at a place
abbrev pub outcome_line : List (List ℕ) → ℕ → Result BookedHour Refusal → List ℕ
outcome_line names i outcome = outcome_text (name_at names i) outcome
