-- Two posts, a refund and a close are a run.
use Rattle.std.proofs.Common.{◌≡◌, ℕ, List, [], ◌∷◌, ℤ, refl, subst}
use Rattle.ledger.specs.declared.lines.HourAnswer.{HourAnswer}
use Rattle.ledger.specs.declared.lines.HourLine.{HourLine}
use Rattle.ledger.specs.declared.lines.RollLine.{RollLine}
use Rattle.ledger.specs.declared.lines.LoadLine.{LoadLine}
use Rattle.ledger.specs.Figures.{Figures}
use Rattle.ledger.specs.Calls.{RefundAccepted, CloseAccepted}
use Rattle.ledger.specs.Posting.{Posting, PostAccepted}
use Rattle.ledger.specs.Ledger.{Event, posted, refunded, closed}
use Rattle.ledger.specs.Runs.{Cell, cell, is_open, is_refunded, is_closed, Keeps, posts, refunds, closes, Move, Stands, Holds}
use Rattle.ledger.proofs.Runs.{holds_alone}
use Rattle.short_month.specs.TwoHours.{hour, TwoHours}

-- an hour's posting without the tables that it writes
abbrev pub bare : Posting → Posting
bare p = hour p.means p.tables p.holdings p.day

abbrev move : Cell → Event → Cell → Move
move a e b = record { before = a; event = e; after = b }

pub two_hours : (n : ℕ) → n ≡ 128 → (f₀ : Figures) (r₀ : List RollLine) → Stands n f₀ r₀ → (p q : Posting) → Keeps p.means → Keeps q.means → (a b : HourAnswer) (s t : List HourLine) (x y : List ℤ) (f₁ f₂ f₃ f₄ : Figures) (r₁ r₂ r₃ : List RollLine) (loads loads' : List LoadLine) → PostAccepted f₀ r₀ p a f₁ r₁ s x → PostAccepted f₁ r₁ q b f₂ r₂ t y → RefundAccepted f₂ r₂ f₃ r₃ → CloseAccepted f₃ r₃ loads f₄ loads' → TwoHours (bare p) (bare q) loads f₄ loads'
two_hours n is f₀ r₀ st p q kp kq a b s t x y f₁ f₂ f₃ f₄ r₁ r₂ r₃ loads loads' h₁ h₂ h₃ h₄ =
    let F : ℕ → Type 0 = λ k. Stands k f₀ r₀ in
    let ms : List Move = move (cell (is_open f₀) r₀) (posted p a s x) (cell (is_open f₁) r₁) ∷ (move (cell (is_open f₁) r₁) (posted q b t y) (cell (is_open f₂) r₂) ∷ (move (cell (is_open f₂) r₂) refunded (cell (is_refunded f₃) r₃) ∷ (move (cell (is_refunded f₃) r₃) (closed loads loads') (cell (is_closed f₄) r₃) ∷ []))) in
    let held : Holds 128 ms (cell (is_closed f₄) r₃) = holds_alone 128 f₀ r₀ (subst F is st) ms (cell (is_closed f₄) r₃) (refl, posts kp h₁, (refl, posts kq h₂, (refl, refunds h₃, (refl, closes h₄, refl)))) in
    record { month = held.month_of_ledger; paid = held.events.1.1.1.0; balanced = held.balanced; made_good = held.made_good }
