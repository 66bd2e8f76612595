-- A post of tables that are known by other names.
use Rattle.std.proofs.Common.{◌≡◌, List, ℤ, Result, subst, MatchResult}
use Rattle.refusals.specs.declared.refusal.Refusal.{Refusal}
use Rattle.refusals.specs.Numbers.{told}
use Rattle.rows.specs.declared.plain.DayRow.{DayRow}
use Rattle.rows.specs.declared.plain.HoldingRow.{HoldingRow}
use Rattle.payoff.specs.Rules.{Meaning}
use Rattle.payoff.specs.Tables as payoff
use Rattle.format.specs.Hours.{Tables}
use Rattle.ledger.specs.declared.lines.HourAnswer.{HourAnswer}
use Rattle.ledger.specs.declared.lines.HourLine.{HourLine}
use Rattle.ledger.specs.declared.lines.RollLine.{RollLine}
use Rattle.ledger.specs.Figures.{Figures}
use Rattle.ledger.specs.Posting.{Posting, posting_of, PostAccepted, PostRefused}
use Rattle.posting.specs.Posts.{posting_on}

pub posted_as_lem : (m : Meaning) (t : Tables) (d : DayRow) (ts : payoff.Tables) (hs : List HoldingRow) (s s' : List HourLine) (x x' : List ℤ) (f f' : Figures) (roll roll' : List RollLine) (r : Result HourAnswer Refusal) → d ≡ t.day → ts ≡ payoff.tables t.constraints t.points t.factors → hs ≡ t.holdings → MatchResult r (λ a. PostAccepted f roll (posting_of m d ts hs s x) a f' roll' s' x') (λ e. PostRefused f roll (posting_of m d ts hs s x) (told e) f' roll' s' x') → MatchResult r (λ a. PostAccepted f roll (posting_on m t s x) a f' roll' s' x') (λ e. PostRefused f roll (posting_on m t s x) (told e) f' roll' s' x')
posted_as_lem m t d ts hs s s' x x' f f' roll roll' r de te he h =
    let F : Posting → Type 0 = λ p. MatchResult r (λ a. PostAccepted f roll p a f' roll' s' x') (λ e. PostRefused f roll p (told e) f' roll' s' x') in
    let e : posting_of m d ts hs s x ≡ posting_on m t s x = rw (de, te, he) in
    subst F e h
