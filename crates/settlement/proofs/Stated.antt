-- What is written of a posted hour is its statement.
use Rattle.std.proofs.Common.{◌≡◌, ℕ, suc, ◌≤◌, true, cond, leb, List, [], ◌∷◌, ◌++◌, map, length, drop, replicate, ℤ, Ok, Err, Result, refl, ap, ◌∙◌, subst, arith}
use Rattle.std.proofs.lemmas.List.{length-map, length-append}
use Rattle.std.proofs.lemmas.Bool.{le-leb}
use Rattle.refusals.specs.Numbers.{Told, refused_at}
use Rattle.rows.specs.declared.plain.HoldingRow.{HoldingRow}
use Rattle.payoff.specs.Rules.{Meaning}
use Rattle.format.specs.Hours.{Tables}
use Rattle.statement.specs.declared.figures.HourFigures.{HourFigures}
use Rattle.statement.specs.Lines.{holding_line, holding_lines, statement_of, sizes_ok, stated}
use Rattle.ledger.specs.declared.lines.HourAnswer.{HourAnswer}
use Rattle.ledger.specs.declared.lines.HourLine.{HourLine}
use Rattle.ledger.specs.declared.lines.RollLine.{RollLine}
use Rattle.ledger.specs.Lines.{clear_roll}
use Rattle.ledger.specs.Figures.{Figures, started}
use Rattle.ledger.specs.Posting.{amount_in, rent_of, dues_of, answer_of, PostAccepted, PostRefused}
use Rattle.ledger.specs.Ledger.{blank, with_hour}
use Rattle.ledger.proofs.Passed.{passed}
use Rattle.settlement.specs.Settled.{figures_told, first_hour_of, first_statement, statement_in, within}

-- amounts past the holdings are not told
lines_front : (f : HoldingRow → ℤ) (i : ℕ) (hs : List HoldingRow) (more : List ℤ) → holding_lines i hs (map f hs ++ more) ≡ holding_lines i hs (map f hs)
lines_front f i [] more = refl
lines_front f i (h ∷ hs) more = ap (λ (l : List ℕ). holding_line i h.owner (f h) ++ l) (lines_front f (suc i) hs more)

statement_front : (hour : ℕ) (f : HoldingRow → ℤ) (hs : List HoldingRow) (more : List ℤ) (g : HourFigures) → statement_of hour hs (map f hs ++ more) g ≡ statement_of hour hs (map f hs) g
unfolding statement_of
statement_front hour f hs more g = rw (lines_front f 0 hs more)

sizes_ok_lem : (a b : ℕ) → a ≤ 1024 → a ≤ b → sizes_ok a b ≡ true
sizes_ok_lem a b h k = let e : leb a 1024 ≡ true = le-leb a 1024 h in let d : leb a b ≡ true = le-leb a b k in rw (e, d)

-- an hour that was posted as a month's first
pub stated_first : (m : Meaning) (t : Tables) (f₀ f' : Figures) (roll₀ roll' : List RollLine) (a : HourAnswer) (s' : List HourLine) (x' : List ℤ) (hour room : ℕ) (hs : List HoldingRow) (g : HourFigures) → f₀ ≡ started 128 → roll₀ ≡ replicate 128 clear_roll → PostAccepted f₀ roll₀ (first_hour_of m t) a f' roll' s' x' → hour ≡ t.day.hour → hs ≡ t.holdings → g ≡ figures_told a → stated hour hs x' g room ≡ within room (statement_in m t)
stated_first m t f₀ f' roll₀ roll' a s' x' hour room hs g fe re acc de he ge =
    let F : Figures → Type 0 = λ f. PostAccepted f roll₀ (first_hour_of m t) a f' roll' s' x' in
    let G : List RollLine → Type 0 = λ r. PostAccepted (started 128) r (first_hour_of m t) a f' roll' s' x' in
    let p = first_hour_of m t in
    let h : PostAccepted (started 128) (replicate 128 clear_roll) p a f' roll' s' x' = subst G re (subst F fe acc) in
    let ok = passed (started 128) (replicate 128 clear_roll) p h.tests in
    let amounts = map (amount_in p) p.holdings ++ drop (length p.holdings) p.amounts in
    let told : HourFigures = figures_told (answer_of (rent_of p) (dues_of p) (with_hour blank p).balance) in
    let ae : a ≡ answer_of (rent_of p) (dues_of p) (with_hour blank p).balance = h.answer ∙ ap (λ (f : Figures). answer_of (rent_of p) (dues_of p) f.balance) h.month_after in
    let long : length p.holdings ≤ length amounts = omega (arith, length-append (map (amount_in p) p.holdings) (drop (length p.holdings) p.amounts), length-map p.holdings (amount_in p)) in
    let sz : sizes_ok (length p.holdings) (length amounts) ≡ true = sizes_ok_lem _ _ ok.few long in
    let fr : statement_of p.day.hour p.holdings amounts told ≡ first_statement p = statement_front p.day.hour (amount_in p) p.holdings _ told in
    let S : List ℕ → Result (List ℕ) Told = λ text. cond (leb (length text) room) (Ok text) (Err (refused_at 7 0)) in
    let e₁ : stated hour hs x' g room ≡ stated p.day.hour p.holdings amounts told room = rw (de, he, h.amounts_after, ge ∙ ap figures_told ae) in
    let e₂ : stated p.day.hour p.holdings amounts told room ≡ S (first_statement p) = rw sz (ap S fr) in
    let e₃ : S (first_statement p) ≡ within room (statement_in m t) = rw h.tests in
    e₁ ∙ e₂ ∙ e₃

pub refused_first : (m : Meaning) (t : Tables) (f₀ f' : Figures) (roll₀ roll' : List RollLine) (e : Told) (s' : List HourLine) (x' : List ℤ) (room : ℕ) → f₀ ≡ started 128 → roll₀ ≡ replicate 128 clear_roll → PostRefused f₀ roll₀ (first_hour_of m t) e f' roll' s' x' → within room (statement_in m t) ≡ Err e
refused_first m t f₀ f' roll₀ roll' e s' x' room fe re ref =
    let F : Figures → Type 0 = λ f. PostRefused f roll₀ (first_hour_of m t) e f' roll' s' x' in
    let G : List RollLine → Type 0 = λ r. PostRefused (started 128) r (first_hour_of m t) e f' roll' s' x' in
    let h : PostRefused (started 128) (replicate 128 clear_roll) (first_hour_of m t) e f' roll' s' x' = subst G re (subst F fe ref) in
    rw h.tests
