-- Why a month was not settled, in words.
use Rattle.std.specs.Prelude.{ℕ, List, ◌++◌, codes}
use Rattle.refusals.specs.Numbers.{shown_refusal}
use Rattle.month_settlement.specs.declared.month_error.MonthError.{MonthError}
use Rattle.month_settlement.specs.declared.month_error.MonthError.TheVariants.{Refused, OutOfMemory}

abbrev pub error_text : MonthError → List ℕ
error_text (Refused e) = codes "the month is " ++ shown_refusal e
error_text OutOfMemory = codes "out of memory"
