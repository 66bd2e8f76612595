-- How long lines are, and one more of them.
use Rattle.std.proofs.Common.{◌≡◌, ℕ, suc, ◌+◌, ◌*◌, ◌^◌, ◌<◌, ◌≤◌, true, List, [], ◌∷◌, ◌++◌, length, get_or, take, map, ℤ, decimal, sym, refl, ap, ◌∙◌, subst, inl, inr, append-nil, arith, length-append, Bor, Iter, w64, SFits}
use Prim.Native.Nat.{min}
use Rattle.std.specs.List.{flat_map, zip, enumerate_from}
use Rattle.std.proofs.lemmas.Grind.{flat_map-append}
use Rattle.std.proofs.lemmas.List.{map-append}
use Rattle.std.proofs.lemmas.List.Folds.{length-flat_map-take}
use Rattle.std.proofs.lemmas.List.FromFn.{length-enumerate_from, get_or-enumerate_from}
use Rattle.std.proofs.lemmas.Slice.Zip.{length-zip}
use Rattle.std.proofs.iter.Yields.{fronts}
use Rattle.std.proofs.lemmas.Iterator.{YieldsList, YieldsList-from_slice, YieldsList-from_zip, zips}
use Rattle.std.proofs.lemmas.Iterator.Consumers.{YieldsList-from_enumerate}
use Rattle.std.specs.Iterator.Adapters.{zip_first, zip_second, enumerate_source, enumerate_count, enumerate_steps}
use Rattle.std.specs.Slice.Iter.{iter_rest}
use Rattle.std.specs.declared.iter.Enumerate.{Enumerate}
use Rattle.std.specs.declared.iter.Zip.{Zip}
use Rattle.std.specs.Fmt.{signed_decimal}
use Rattle.std.proofs.lemmas.Fmt.{length-decimal-le, length_signed_le}
use Rattle.std.proofs.lemmas.Bool.Decides.{nat_tests}
use Rattle.rows.specs.declared.plain.HoldingRow.{HoldingRow}
use Rattle.buffer.specs.Appends.{Appends}
use Rattle.buffer.specs.declared.output.Output.{Output}
use Rattle.buffer.proofs.Joins.{appended}
use Rattle.statement.specs.Lines.{holding_line, holding_lines, sizes_ok}
use Rattle.statement.specs.Room.{Room}

pub holding_long : (i o : ℕ) (a : ℤ) → length (holding_line i o a) ≡ 24 + length (decimal i) + length (decimal o) + length (signed_decimal a)
holding_long i o a = simp length-append (omega arith)

pub holding_longest : (i o : ℕ) (a : ℤ) → i < 1024 → o < 2 ^ 16 → SFits w64 a → length (holding_line i o a) ≤ 53
holding_longest i o a h k f =
    let l = holding_long i o a in
    let p = length-decimal-le 4 i (omega arith) (omega arith) (omega arith) in
    let q = length-decimal-le 5 o (omega arith) (omega arith) (omega arith) in
    let s = length_signed_le 19 a (omega (arith, f.sfits)) (omega (arith, f.sfits)) in
    omega arith

-- a text has room where it was counted, and where the longest has
pub has_room : (room longest long : ℕ) → long ≤ longest → Room room longest long → long ≤ room
has_room room longest long h (inl p) = omega arith
has_room room longest long h (inr p) = p

pub sizes_inv : (a b : ℕ) → sizes_ok a b ≡ true → (a ≤ 1024) × (a ≤ b)
sizes_inv a b e = (grind (arith, nat_tests), grind (arith, nat_tests))

-- a holding with its number and its amount, and its line
abbrev pub Turn : Type 0
Turn = ℕ × (HoldingRow × ℤ)

abbrev pub line_of : Turn → List ℕ
line_of t = holding_line t.0 t.1.0.owner t.1.1

abbrev pub lines_of : List Turn → List ℕ
lines_of ts = flat_map line_of ts

abbrev pub turns : List HoldingRow → List ℤ → List Turn
turns hs zs = enumerate_from 0 (zip hs zs)

lines_from : (j : ℕ) (hs : List HoldingRow) (zs : List ℤ) → lines_of (enumerate_from j (zip hs zs)) ≡ holding_lines j hs zs
lines_from j [] zs = refl
lines_from j (h ∷ hs) [] = refl
lines_from j (h ∷ hs) (z ∷ zs) =
    let s : j + 1 ≡ suc j = omega arith in
    ap (λ ys. holding_line j h.owner z ++ ys) (ap (λ k. lines_of (enumerate_from k (zip hs zs))) s ∙ lines_from (suc j) hs zs)

pub turns_long : (hs : List HoldingRow) (zs : List ℤ) → length (turns hs zs) ≡ min (length hs) (length zs)
turns_long hs zs = length-enumerate_from 0 (zip hs zs) ∙ length-zip hs zs

-- as the loop has them
abbrev pub seen : ℕ × (Bor HoldingRow × Bor ℤ) → Turn
seen t = (t.0, (t.1.0.now, t.1.1.now))

-- holdings with their amounts, numbered, come in turn
pub turns_come : (hs : List HoldingRow) (zs : List ℤ) (s : Enumerate (Zip (Iter HoldingRow) (Iter ℤ))) → iter_rest (zip_first (enumerate_source s)) ≡ hs → iter_rest (zip_second (enumerate_source s)) ≡ zs → enumerate_count s ≡ 0 → YieldsList (enumerate_steps (zips fronts fronts)) seen s (turns hs zs)
turns_come hs zs s a b n = YieldsList-from_enumerate (YieldsList-from_zip (YieldsList-from_slice hs a) (YieldsList-from_slice zs b)) n

-- the turns so far, and the next of them
module _ (hs : List HoldingRow) (zs : List ℤ) (ts : List (ℕ × (Bor HoldingRow × Bor ℤ))) where
  pub lines_all : (map seen ts ≡ turns hs zs) × (length ts ≡ length (turns hs zs)) → (lines_of (map seen ts) ≡ holding_lines 0 hs zs) × (length ts ≤ length hs)
  lines_all e = (ap lines_of e.0 ∙ lines_from 0 hs zs, omega (arith, e.1, turns_long hs zs))

  module _ (t : ℕ × (Bor HoldingRow × Bor ℤ)) where
    pub lines_push : lines_of (map seen (ts ++ (t ∷ []))) ≡ lines_of (map seen ts) ++ line_of (seen t)
    lines_push = ap lines_of (map-append seen ts (t ∷ [])) ∙ flat_map-append line_of (map seen ts) (seen t ∷ []) ∙ ap (λ ys. lines_of (map seen ts) ++ ys) (append-nil (line_of (seen t)))

    module _ (s : sizes_ok (length hs) (length zs) ≡ true) (so_far : map seen ts ≡ take (length ts) (turns hs zs)) (next : (length ts < length (turns hs zs)) × (seen t ≡ get_or (turns hs zs) (length ts) (seen t))) where
      pub number_small : t.0 < 1024
      number_small =
          let n = sizes_inv (length hs) (length zs) s in
          let l = length-enumerate_from 0 (zip hs zs) in
          let i = ap (λ (u : Turn). u.0) (next.1 ∙ get_or-enumerate_from 0 (zip hs zs) (length ts) (seen t) (omega arith)) in
          omega (arith, turns_long hs zs)

      pub next_long : length (lines_of (map seen ts)) + length (line_of (seen t)) ≤ length (holding_lines 0 hs zs)
      next_long =
          let l = length-flat_map-take line_of (turns hs zs) (length ts) (seen t) next.0 in
          let p = ap (λ us. length (lines_of us)) so_far in
          let q = ap (λ u. length (line_of u)) next.1 in
          let r = ap length (lines_from 0 hs zs) in
          omega arith

      pub line_room : (o p : Output) → Appends o (lines_of (map seen ts)) p → p.len ≤ o.len + 53 * length ts → Room (length o.buffer.now) (o.len + 53 * length hs) (o.len + length (holding_lines 0 hs zs)) → Room (length p.buffer.now) (p.len + 53) (p.len + length (line_of (seen t)))
      line_room o p w b (inl q) = inl (omega (arith, w.wrote.len, next.0, turns_long hs zs))
      line_room o p w b (inr q) = inr (omega (arith, next_long, w.wrote.end, w.wrote.len))

    pub line_more : (o p q : Output) → Appends o (lines_of (map seen ts)) p → Appends p (line_of (seen t)) q → Appends o (lines_of (map seen (ts ++ (t ∷ [])))) q
    line_more o p q w v = subst (λ (bs : List ℕ). Appends o bs q) (sym lines_push) (appended o p q (lines_of (map seen ts)) (line_of (seen t)) w v)
