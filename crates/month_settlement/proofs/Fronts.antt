-- The front of the tables that a roll and an hour sheet stand in.
use Rattle.std.proofs.Common.{◌≡◌, ℕ, zero, suc, ◌≤◌, min, List, ◌∷◌, ◌++◌, length, take, replicate, ℤ, pos, refl, ap, ◌∙◌, subst, arith}
use lib.ListN.{length-replicate}
use Rattle.std.proofs.lemmas.List.{take_at, length-take-le}
use Rattle.refusals.specs.Numbers.{Told}
use Rattle.payoff.specs.Rules.{Meaning}
use Rattle.format.specs.Hours.{Tables}
use Rattle.ledger.specs.declared.lines.HourAnswer.{HourAnswer}
use Rattle.ledger.specs.declared.lines.HourLine.{HourLine}
use Rattle.ledger.specs.declared.lines.RollLine.{RollLine}
use Rattle.ledger.specs.Lines.{clear_hour}
use Rattle.ledger.specs.Figures.{Figures}
use Rattle.ledger.specs.Posting.{Posting, PostAccepted, PostRefused}
use Rattle.posting.specs.Posts.{posting_on}
use Rattle.month_settlement.specs.Books.{posting_in}

pub front_length : {X : Type 0} (k n : ℕ) (x : X) → k ≤ n → length (take k (replicate n x)) ≡ k
front_length k n x h = length-take-le k (replicate n x) (omega (arith, length-replicate n x))

pub front_again : {X : Type 0} (k : ℕ) (xs ys zs : List X) → length xs ≡ length ys → length ys ≡ k → take k (xs ++ zs) ≡ xs
front_again k xs ys zs e h = take_at xs zs k (e ∙ h)

take_replicate : {X : Type 0} (k n : ℕ) (x : X) → k ≤ n → take k (replicate n x) ≡ replicate k x
take_replicate zero n x h = refl
take_replicate (suc k) zero x h = absurd (omega arith)
take_replicate (suc k) (suc n) x h = ap (λ (l : List _). x ∷ l) (take_replicate k n x (omega arith))

-- an hour that is posted with the front of a clear sheet
lent_is : (m : Meaning) (n k : ℕ) (t : Tables) → k ≡ min n 128 → posting_on m t (take k (replicate 128 clear_hour)) (replicate 1024 (pos 0)) ≡ posting_in m n t
lent_is m n k t e =
    ap (λ (s : List HourLine). posting_on m t s (replicate 1024 (pos 0))) (ap (λ (i : ℕ). take i (replicate 128 clear_hour)) e ∙ take_replicate (min n 128) 128 clear_hour (omega arith))

module _ (m : Meaning) (n k : ℕ) (t : Tables) (ke : k ≡ min n 128) {f f' : Figures} {roll roll' : List RollLine} {s' : List HourLine} {x' : List ℤ} where
  pub accepted_in : {a : HourAnswer} → PostAccepted f roll (posting_on m t (take k (replicate 128 clear_hour)) (replicate 1024 (pos 0))) a f' roll' s' x' → PostAccepted f roll (posting_in m n t) a f' roll' s' x'
  accepted_in {a = a} h = let F : Posting → Type 0 = λ p. PostAccepted f roll p a f' roll' s' x' in subst F (lent_is m n k t ke) h

  pub refused_in_lem : {e : Told} → PostRefused f roll (posting_on m t (take k (replicate 128 clear_hour)) (replicate 1024 (pos 0))) e f' roll' s' x' → PostRefused f roll (posting_in m n t) e f' roll' s' x'
  refused_in_lem {e = e} h = let F : Posting → Type 0 = λ p. PostRefused f roll p e f' roll' s' x' in subst F (lent_is m n k t ke) h
