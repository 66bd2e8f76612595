-- What a letter gives where it names something of its kind, and where it names nothing.
use Rattle.std.specs.Prelude.{ℕ, Ok, Err, Some, None, Option, Result}
use Rattle.rows.specs.declared.letters.UnknownLetter.{UnknownLetter}

abbrev pub named_by : {X : Type 0} → (ℕ → Option X) → ℕ → Result X UnknownLetter
named_by of l = elim (of l) [ None ↦ Err (record { letter = l }) | Some x ↦ Ok x ]
