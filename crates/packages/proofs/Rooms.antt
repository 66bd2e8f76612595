-- The last test, and the tables after it.
use Rattle.std.proofs.Common.{◌≡◌, ℕ, ◌≤◌, ◌*◌, Bool, true, cond, ◌&&◌, leb, List, ◌++◌, length, drop, Ok, Err, Result, sym, ap, ◌∙◌, subst, leb-true}
use borrow.Rule.Slice.PartMut.{post_of}
use Rattle.refusals.specs.Numbers.{Told, refused_at}
use Rattle.codec.specs.Bytes.{Bytes}
use Rattle.codec.specs.Records.{answered}
use Rattle.format.specs.Hours.{Tables, hour_of, package_of}
use Rattle.format.specs.Reading.{reads_tables, roomed, laid}
use Rattle.format.specs.Writing.{sizes_ok, bad_entry}
use Rattle.format.proofs.Taking.{answered_inv}
use Rattle.format.proofs.Ways.{read_writes, tested_inv, sizes_inv}
use Rattle.codec.proofs.Pairs.{and_left, and_right}
use Rattle.packages.specs.Counting.{Seen, seen_of}
use Rattle.packages.specs.Laying.{has_room}
use Rattle.packages.specs.declared.lent.LentTables.{LentTables}

abbrev pub room : Seen → ℕ → ℕ → ℕ → ℕ → Bool
room s a b c d = leb s.constraints a && (leb s.points b && (leb s.factors c && leb s.holdings d))

pub laid_ok : {X : Type 0} (R : Result Tables Told) (t : Tables) (f : Tables → List X) (w : List X) → R ≡ Ok t → f t ++ drop (length (f t)) w ≡ laid R f w
laid_ok R t f w q = ap (λ r. laid r f w) (sym q)

module _ (R : Result Tables Told) (a b c d : ℕ) where
  pub room_good : (s : Seen) → Ok s ≡ answered seen_of R → room s a b c d ≡ true → (t : Tables) × (R ≡ Ok t) × (seen_of t ≡ s) × (roomed a b c d R ≡ Ok t)
  room_good s q n =
      let v = answered_inv seen_of R s (sym q) in
      let m : room (seen_of v.0) a b c d ≡ true = ap (λ x. room x a b c d) v.2 ∙ n in
      (v.0, v.1, v.2, ap (roomed a b c d) v.1 ∙ ap (λ x. cond x (Ok v.0) (Err (refused_at 7 0))) m)

-- the table of shift factors has a row for each point
pub factor_count : (bs : List ℕ) (s : Seen) → Bytes bs → Ok s ≡ answered seen_of (reads_tables bs) → s.factors ≡ s.points * s.constraints
factor_count bs s b q =
    let v = answered_inv seen_of (reads_tables bs) s (sym q) in
    let w = read_writes bs v.0 b v.1 in
    let n = tested_inv (sizes_ok v.0) (bad_entry v.0) (package_of (hour_of v.0)) (length bs) bs w in
    subst (λ (x : Seen). x.factors ≡ x.points * x.constraints) v.2 (sizes_inv v.0 n.0).3

-- the table whose front was filled
pub front_filled : {X : Type 0} (n : ℕ) (rows last w : List X) → last ≡ rows → length rows ≡ n → last ++ post_of 0 n w ≡ rows ++ drop (length rows) w
front_filled n rows last w e l = ap (λ ys. ys ++ post_of 0 n w) e ∙ ap (λ k. rows ++ drop k w) (sym l)

-- what the test of the room says
pub fits : (l : LentTables) (s : Seen) → has_room l s ≡ true → (s.constraints ≤ length l.constraints.now) × (s.points ≤ length l.points.now) × (s.factors ≤ length l.factors.now) × (s.holdings ≤ length l.holdings.now)
fits l s e =
    let p = and_right (leb s.constraints (length l.constraints.now)) _ e in
    let q = and_right (leb s.points (length l.points.now)) _ p in
    (leb-true _ _ (and_left _ _ e), leb-true _ _ (and_left _ _ p), leb-true _ _ (and_left _ _ q), leb-true _ _ (and_right (leb s.factors (length l.factors.now)) _ q))
