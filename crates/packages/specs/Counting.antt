-- The tests of records by how many came before.
use Rattle.std.specs.Prelude.{ℕ, ◌+◌, true, cond, ◌&&◌, List, length, Err, Result, ◌==◌, nat_lt}
use Rattle.refusals.specs.Numbers.{Told, refused_at}
use Rattle.rows.specs.declared.plain.DayRow.{DayRow}
use Rattle.rows.specs.Plain.{plain_day}
use Rattle.codec.specs.Records.{decode_constraint, decode_point, decode_holding}
use Rattle.format.specs.Hours.{Hour, Tables}
use Rattle.format.specs.Reading.{admit}
use Rattle.packages.specs.declared.counts.Counts.{Counts}
use Rattle.packages.specs.declared.filled.Filled.{Filled}

abbrev pub counts : ℕ → ℕ → ℕ → Counts
counts cs ps hs = record { constraints = cs; points = ps; holdings = hs }

abbrev pub counted : Hour → Counts
counted h = counts (length h.constraints) (length h.points) (length h.holdings)

-- a C, a P and an H after so many records
abbrev pub count_constraint : ℕ → Counts → List ℕ → Result Counts Told
count_constraint p n fields =
    admit p (n.points == 0 && n.holdings == 0) (nat_lt n.constraints 32) (decode_constraint p fields) (λ _. counts (n.constraints + 1) n.points n.holdings)

abbrev pub count_point : ℕ → Counts → List ℕ → Result Counts Told
count_point p n fields =
    admit p (n.holdings == 0) (nat_lt n.points 256) (decode_point p n.constraints fields) (λ _. counts n.constraints (n.points + 1) n.holdings)

abbrev pub count_holding : ℕ → Counts → List ℕ → Result Counts Told
count_holding p n fields = admit p true (nat_lt n.holdings 1024) (decode_holding p fields) (λ _. counts n.constraints n.points (n.holdings + 1))

abbrev pub count_takes : ℕ → Counts → ℕ → List ℕ → Result Counts Told
count_takes p n letter fields =
    cond (letter == 67) (count_constraint p n fields) (cond (letter == 80) (count_point p n fields) (cond (letter == 72) (count_holding p n fields) (Err (refused_at 4 p))))

-- what a call tells of the tables that it filled
pub record Seen : Type 0 where
  pub day : DayRow
  pub constraints : ℕ
  pub points : ℕ
  pub factors : ℕ
  pub holdings : ℕ

abbrev pub seen_of : Tables → Seen
seen_of t = record { day = t.day; constraints = length t.constraints; points = length t.points; factors = length t.factors; holdings = length t.holdings }

abbrev pub seen_in : Filled → Seen
seen_in f = record { day = plain_day f.day; constraints = f.constraints; points = f.points; factors = f.factors; holdings = f.holdings }
