-- The hour of a package, by its day row's record and the counts of the others.
use Rattle.std.proofs.Common.{◌≡◌, ℕ, ◌*◌, ◌^◌, ◌<◌, ◌≤◌, true, cond, eqb, List, [], length, drop, Ok, Err, Result, sym, refl, ap, ◌∙◌, subst, mul-le-mul, arith, length-append, length-drop, eq-eqb}
use Rattle.std.proofs.lemmas.List.{length-map}
use Rattle.refusals.specs.Numbers.{Told, refused_at}
use Rattle.rows.specs.declared.plain.DayRow.{DayRow}
use Rattle.codec.specs.Bytes.{Bytes}
use Rattle.codec.specs.Records.{decode_day, answered}
use Rattle.codec.proofs.Spelled.{bytes_drop, bytes_right}
use Rattle.records.specs.Frames.{One, frame_of, framed}
use Rattle.records.proofs.Cuts.{frame_canon}
use Rattle.format.specs.Hours.{Hour, hour, tables_of, factors_of}
use Rattle.format.specs.Reading.{after, run, on_first}
use Rattle.format.proofs.Taking.{refused, answered_inv}
use Rattle.format.proofs.Canon.{Good, new_good, run_canon}
use Rattle.format.proofs.Ways.{rows_length}
use Rattle.packages.specs.declared.counts.Counts.{Counts}
use Rattle.packages.specs.Counting.{counts, counted, Seen, seen_of}

-- what is told of an hour
abbrev pub told_of : Hour → Seen
told_of h = seen_of (tables_of h)

abbrev pub seen_by : DayRow → Counts → Seen
seen_by d n = record { day = d; constraints = n.constraints; points = n.points; factors = n.points * n.constraints; holdings = n.holdings }

-- a package whose first record is its day row's, with what follows it, and the number of the next record
pub record Opened (bs : List ℕ) (l : ℕ) (f rest : List ℕ) (d : DayRow) (next : ℕ) : Type 0 where
  pub bytes : Bytes bs
  pub frame : frame_of (drop 5 bs) ≡ One l f rest
  pub letter : l ≡ 68
  pub day : decode_day 0 f ≡ Ok d
  pub place : next ≡ 1

-- what testing the records after it answers
abbrev pub Tested : List ℕ → ℕ → Result Counts Told → Type 0
Tested rest next r = (k : ℕ) (t : Hour) → length rest < k → counted t ≡ counts 0 0 0 → r ≡ answered counted (run k next t rest)

module _ (bs : List ℕ) (l : ℕ) (f rest : List ℕ) (d : DayRow) (next : ℕ) (o : Opened bs l f rest d next) where
  -- what follows the first record is shorter than the package
  left : length rest < length bs
  left =
      let e = ap length (frame_canon (drop 5 bs) l f rest (bytes_drop 5 bs o.bytes) o.frame) in
      let d = length-drop 5 bs in
      let a = length-append (framed l f) rest in
      omega arith

  by_run : (r : Result Counts Told) → Tested rest next r → answered counted (run (length bs) 1 (hour d [] [] []) rest) ≡ r
  by_run r t = ap (λ m. answered counted (run (length bs) m (hour d [] [] []) rest)) (sym o.place) ∙ sym (t (length bs) (hour d [] [] []) left refl)

  onward : on_first (length bs) (frame_of (drop 5 bs)) ≡ run (length bs) 1 (hour d [] [] []) rest
  onward =
      let a : eqb l 68 ≡ true = eq-eqb l 68 o.letter in
      ap (on_first (length bs)) o.frame ∙ ap (λ c. cond c (after (decode_day 0 f) (λ x. run (length bs) 1 (hour x [] [] []) rest)) (Err (refused_at 4 0))) a
      ∙ ap (λ r. after r (λ x. run (length bs) 1 (hour x [] [] []) rest)) o.day

  rest_bytes : Bytes rest
  rest_bytes = bytes_right (framed l f) rest (subst Bytes (frame_canon (drop 5 bs) l f rest (bytes_drop 5 bs o.bytes) o.frame) (bytes_drop 5 bs o.bytes))

  made : (n : Counts) → Tested rest next (Ok n) → (h : Hour) × (run (length bs) 1 (hour d [] [] []) rest ≡ Ok h) × (counted h ≡ n) × Good h × (h.day ≡ d)
  made n q =
      let a = answered_inv counted (run (length bs) 1 (hour d [] [] []) rest) n (by_run (Ok n) q) in
      let r = run_canon (length bs) 1 (hour d [] [] []) a.0 rest rest_bytes (new_good d) a.1 in
      (a.0, a.1, a.2, r.1, r.2)

  pub few : (n : Counts) → Tested rest next (Ok n) → n.points * n.constraints < 2 ^ 64
  few n q =
      let m = made n q in
      let p : n.points ≤ 256 = subst (λ (x : Counts). x.points ≤ 256) m.2 m.3.few_points in
      let c : n.constraints ≤ 32 = subst (λ (x : Counts). x.constraints ≤ 32) m.2 m.3.few_constraints in
      let w : n.points * n.constraints ≤ 256 * 32 = mul-le-mul {n₂ = 256} {m₂ = 32} p c in
      omega arith

  pub told_good : (n : Counts) → Tested rest next (Ok n) → Ok (seen_by d n) ≡ answered told_of (on_first (length bs) (frame_of (drop 5 bs)))
  told_good n q =
      let m = made n q in
      let h = m.0 in
      let s : told_of m.0 ≡ seen_by m.0.day (counted m.0) =
      ap (λ p. record { day = m.0.day; constraints = length m.0.constraints; points = p; factors = length (factors_of m.0.points); holdings = length m.0.holdings }) (length-map m.0.points (λ x. x.point))
      ∙ ap (λ x. record { day = m.0.day; constraints = length m.0.constraints; points = length m.0.points; factors = x; holdings = length m.0.holdings }) (rows_length (length m.0.constraints) m.0.points m.3.points) in
      sym (ap (answered told_of) (onward ∙ m.1) ∙ ap (λ (x : Seen). Ok x) (s ∙ ap (λ x. seen_by x (counted m.0)) m.4 ∙ ap (seen_by d) m.2))

  pub told_refused : (x : Told) → Tested rest next (Err x) → Err x ≡ answered told_of (on_first (length bs) (frame_of (drop 5 bs)))
  told_refused x q = go (run (length bs) 1 (hour d [] [] []) rest) onward (by_run (Err x) q)
    where
      go : (r : Result Hour Told) → on_first (length bs) (frame_of (drop 5 bs)) ≡ r → answered counted r ≡ Err x → Err x ≡ answered told_of (on_first (length bs) (frame_of (drop 5 bs)))
      go (Ok h) w z = refused x (counted h) (sym z)
      go (Err y) w z = sym (ap (answered told_of) w ∙ cc)
