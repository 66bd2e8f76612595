-- The two halves of an hour's line are the line.
use Rattle.std.proofs.Common.{◌≡◌, ℕ, List, ◌++◌, IfOk, Ok, Err, Result, ap, ◌∙◌, append_assoc}
use Rattle.month_settlement.specs.declared.outcomes.BookedHour.{BookedHour}
use Rattle.month_text.specs.Lines.{booked_text, booked_head, booked_tail}

whole : (b : BookedHour) → booked_head b ++ booked_tail b ≡ booked_text b
unfolding booked_head booked_tail booked_text
whole b = simp append_assoc

pub whole_made : {X Y : Type 0} (r : Result X Y) (x z : List ℕ) (b : BookedHour) → IfOk r (λ _. z ≡ x ++ (booked_head b ++ booked_tail b)) → IfOk r (λ _. z ≡ x ++ booked_text b)
whole_made (Ok v) x z b h = h ∙ ap (λ (l : List ℕ). x ++ l) (whole b)
whole_made (Err v) x z b h = tt
