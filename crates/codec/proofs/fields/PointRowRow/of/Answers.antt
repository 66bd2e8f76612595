use Rattle.std.proofs.Common.{◌≡◌, ℕ, ◌+◌, true, leb, List, length, get_or, take, drop, ℤ, ap, ◌∙◌, arith, w32, SFits, rules, to_z, of_z, le-leb}
use Rattle.std.proofs.lemmas.Int.{to_z-of_z}
use Rattle.std.proofs.lemmas.List.{get_or-take, get_or-drop}
use Rattle.codec.specs.Bytes.{num4, int4_at}
use Rattle.codec.proofs.fields.PointRowRow.of.Goals as goal

figure : (z : ℤ) (xs bs : List ℕ) (i : ℕ) → SFits w32 z → z ≡ to_z w32 (num4 (get_or xs 0 0) (get_or xs 1 0) (get_or xs 2 0) (get_or xs 3 0)) → xs ≡ take 4 (drop i bs) → to_z w32 (of_z w32 z) ≡ int4_at bs i
figure z xs bs i f e t =
    let n : i + 0 ≡ i = omega arith in
    let a : get_or xs 0 0 ≡ get_or bs i 0 = ap (λ ys. get_or ys 0 0) t ∙ get_or-take 4 (drop i bs) 0 0 (omega arith) ∙ get_or-drop i bs 0 0 ∙ ap (λ k. get_or bs k 0) n in
    let b : get_or xs 1 0 ≡ get_or bs (i + 1) 0 = ap (λ ys. get_or ys 1 0) t ∙ get_or-take 4 (drop i bs) 1 0 (omega arith) ∙ get_or-drop i bs 1 0 in
    let c : get_or xs 2 0 ≡ get_or bs (i + 2) 0 = ap (λ ys. get_or ys 2 0) t ∙ get_or-take 4 (drop i bs) 2 0 (omega arith) ∙ get_or-drop i bs 2 0 in
    let d : get_or xs 3 0 ≡ get_or bs (i + 3) 0 = ap (λ ys. get_or ys 3 0) t ∙ get_or-take 4 (drop i bs) 3 0 (omega arith) ∙ get_or-drop i bs 3 0 in
    to_z-of_z w32 z f ∙ e ∙ rw (a, b, c, d)

pub returns : goal.returns
returns c =
    let l : leb 13 (length c.args.fields.now) ≡ true = le-leb _ _ (omega arith) in
    let p = figure c.from_be_bytes.result c.bytes_at.result c.args.fields.now 1 (search rules) c.from_be_bytes.ensures c.bytes_at.ensures in
    let q = figure c.from_be_bytes-2.result c.bytes_at-2.result c.args.fields.now 5 (search rules) c.from_be_bytes-2.ensures c.bytes_at-2.ensures in
    let r = figure c.from_be_bytes-3.result c.bytes_at-3.result c.args.fields.now 9 (search rules) c.from_be_bytes-3.ensures c.bytes_at-3.ensures in
    rw (l, p, q, r)
