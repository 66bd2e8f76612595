-- One text appended after another.
use Rattle.std.proofs.Common.{◌≡◌, ℕ, List, ◌++◌, IfOk, Ok, Err, Result, ap, ◌∙◌, append_assoc}

pub joined : (x y z a b : List ℕ) → y ≡ x ++ a → z ≡ y ++ b → z ≡ x ++ (a ++ b)
joined x y z a b e f = f ∙ ap (λ (l : List ℕ). l ++ b) e ∙ append_assoc x a b

pub joined_made : {X Y : Type 0} (r : Result X Y) (x y z a b : List ℕ) → y ≡ x ++ a → IfOk r (λ _. z ≡ y ++ b) → IfOk r (λ _. z ≡ x ++ (a ++ b))
joined_made (Ok v) x y z a b e f = joined x y z a b e f
joined_made (Err v) x y z a b e f = tt
