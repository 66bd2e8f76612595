-- The hour sheet of an hour that was posted as a month's first, or its refusal.
use Rattle.std.proofs.Common.{◌≡◌, List, replicate, ℤ, Ok, Err, Option, Result, sym, ap, ◌∙◌, subst}
use Rattle.refusals.specs.Numbers.{Told}
use Rattle.payoff.specs.Rules.{Meaning}
use Rattle.format.specs.Hours.{Tables}
use Rattle.ledger.specs.declared.lines.HourAnswer.{HourAnswer}
use Rattle.ledger.specs.declared.lines.HourLine.{HourLine}
use Rattle.ledger.specs.declared.lines.RollLine.{RollLine}
use Rattle.ledger.specs.Lines.{clear_roll}
use Rattle.ledger.specs.Figures.{Figures, started}
use Rattle.ledger.specs.Posting.{PostAccepted, PostRefused}
use Rattle.settlement.specs.Settled.{first_hour_of}
use Rattle.hour_explained.specs.Sheet.{sheet_after, first_sheet}

module _ (m : Meaning) (t : Tables) (f₀ f' : Figures) (roll₀ roll' : List RollLine) (s' : List HourLine) (x' : List ℤ) (fe : f₀ ≡ started 128) (re : roll₀ ≡ replicate 128 clear_roll) where
  pub sheet_posted : (a : HourAnswer) → PostAccepted f₀ roll₀ (first_hour_of m t) a f' roll' s' x' → ◌≡◌ {A = Result (List HourLine) Told} (Ok s') (first_sheet m t)
  sheet_posted a acc =
      let F : Figures → Type 0 = λ f. PostAccepted f roll₀ (first_hour_of m t) a f' roll' s' x' in
      let G : List RollLine → Type 0 = λ r. PostAccepted (started 128) r (first_hour_of m t) a f' roll' s' x' in
      let h : PostAccepted (started 128) (replicate 128 clear_roll) (first_hour_of m t) a f' roll' s' x' = subst G re (subst F fe acc) in
      ap (λ (l : List HourLine). Ok l) h.sheet_after ∙ ap (λ (o : Option Told). sheet_after o (first_hour_of m t)) (sym h.tests)

  pub sheet_refused : (e : Told) → PostRefused f₀ roll₀ (first_hour_of m t) e f' roll' s' x' → ◌≡◌ {A = Result (List HourLine) Told} (Err e) (first_sheet m t)
  sheet_refused e ref =
      let F : Figures → Type 0 = λ f. PostRefused f roll₀ (first_hour_of m t) e f' roll' s' x' in
      let G : List RollLine → Type 0 = λ r. PostRefused (started 128) r (first_hour_of m t) e f' roll' s' x' in
      let h : PostRefused (started 128) (replicate 128 clear_roll) (first_hour_of m t) e f' roll' s' x' = subst G re (subst F fe ref) in
      ap (λ (o : Option Told). sheet_after o (first_hour_of m t)) (sym h.tests)
