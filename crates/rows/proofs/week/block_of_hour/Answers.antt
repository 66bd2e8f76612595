use Rattle.std.proofs.Common.{◌≡◌, ℕ, ◌+◌, ◌-◌, ◌*◌, ◌/◌, ◌%◌, ◌<◌, ◌≤◌, Bool, T, eqb, List, ◌++◌, get_or, replicate, refl, ap, ◌∙◌, arith}
use Rattle.rows.specs.declared.letters.Block.{Block}
use Rattle.rows.specs.declared.letters.Block.TheVariants.{PeakWeekday, PeakWeekend, OffPeak}
use Rattle.rows.specs.Letters.{block_letter}
use Rattle.rows.specs.Week.{block_at}
use Rattle.rows.proofs.Tables.{entry}
use Rattle.rows.proofs.week.block_of_hour.Goals as goal

abbrev day : Block → List Block
day x = replicate 6 OffPeak ++ (replicate 16 x ++ replicate 2 OffPeak)

-- the constant, which is compared with this entry by entry
abbrev table : List Block
table =
    day PeakWeekday ++ (day PeakWeekday ++ (day PeakWeekday ++ (day PeakWeekday ++ (day PeakWeekday ++ (day PeakWeekend ++ day PeakWeekend)))))

-- entry k is the block of weekday k / 24 at the hour ending k % 24 + 1
abbrev right : ℕ → Block → Bool
right k x = eqb (block_letter x) (block_letter (block_at (k / 24) (k % 24 + 1)))

same : (a b : Block) → T (eqb (block_letter a) (block_letter b)) → a ≡ b
same PeakWeekday PeakWeekday t = refl
same PeakWeekday PeakWeekend t = absurd t
same PeakWeekday OffPeak t = absurd t
same PeakWeekend PeakWeekday t = absurd t
same PeakWeekend PeakWeekend t = refl
same PeakWeekend OffPeak t = absurd t
same OffPeak PeakWeekday t = absurd t
same OffPeak PeakWeekend t = absurd t
same OffPeak OffPeak t = refl

rule : (weekday ending : ℕ) → weekday * 24 + ending - 1 < 168 → 1 ≤ ending → ending ≤ 24 → get_or table (weekday * 24 + ending - 1) PeakWeekday ≡ block_at weekday ending
rule weekday ending lt low high =
    let w : (weekday * 24 + ending - 1) / 24 ≡ weekday = omega arith in
    let h : (weekday * 24 + ending - 1) % 24 + 1 ≡ ending = omega arith in
    same _ _ (entry right PeakWeekday table tt (weekday * 24 + ending - 1) lt)
    ∙ ap (λ x. block_at x ((weekday * 24 + ending - 1) % 24 + 1)) w ∙ ap (block_at weekday) h

pub returns : goal.returns
returns c = rule c.args.weekday c.args.ending (omega arith) c.requires.first c.requires.last
