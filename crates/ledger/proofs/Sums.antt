-- Sums over owners.
use Rattle.std.proofs.Common.{◌≡◌, ℕ, zero, suc, ◌+◌, ◌*◌, ◌<◌, ◌≤◌, cond, eqb, List, [], ◌∷◌, sum_by, refl, ap, ⊎_elim, arith}
use native.Mathlib.Nat.{div-zero, mul-div_cancel_left}
use Rattle.std.specs.List.{AllByRecursion}
use Rattle.std.proofs.lemmas.List.Sums.{sum_by-cons}
use Rattle.std.proofs.lemmas.Bool.{eq-eqb, ne_eqb, cases_eq}
use Rattle.sharing.specs.Shares.{up_to, share_of}
use Rattle.sharing.proofs.Parts.{up_to_same}
use Rattle.ledger.specs.declared.lines.Due.{Due}
use Rattle.ledger.specs.Hour.{own_sum}

pub up_to_add : (f g : ℕ → ℕ) (n : ℕ) → up_to (λ k. f k + g k) n ≡ up_to f n + up_to g n
up_to_add f g zero = refl
up_to_add f g (suc n) = omega (arith, up_to_add f g n)

pub up_to_none : (n : ℕ) → up_to (λ k. 0) n ≡ 0
up_to_none zero = refl
up_to_none (suc n) = omega (arith, up_to_none n)

pub up_to_at : (f : ℕ → ℕ) (i n : ℕ) → i < n → f i ≤ up_to f n
up_to_at f i zero h = absurd (omega arith)
up_to_at f i (suc n) h =
    ⊎_elim (λ (e : i ≡ n). omega (arith, ap f e)) (λ (d : i ≡ n → ⊥). omega (arith, up_to_at f i n (omega arith))) (cases_eq i n)

-- a sum in which only one owner has something
one_none : (j c n : ℕ) → n ≤ j → up_to (λ o. cond (eqb j o) c 0) n ≡ 0
one_none j c zero h = refl
one_none j c (suc n) h =
    omega (arith, one_none j c n (omega arith), ap (λ b. cond b c 0) (ne_eqb j n (λ e. omega arith)))

pub one_owner : (j c n : ℕ) → j < n → up_to (λ o. cond (eqb j o) c 0) n ≡ c
one_owner j c zero h = absurd (omega arith)
one_owner j c (suc n) h =
    ⊎_elim (λ (e : j ≡ n). omega (arith, one_none j c n (omega arith), ap (λ b. cond b c 0) (eq-eqb j n e))) (λ (d : j ≡ n → ⊥). omega (arith, one_owner j c n (omega arith), ap (λ b. cond b c 0) (ne_eqb j n d))) (cases_eq j n)

-- what each owner's holdings come to is what all come to
pub own_sums : (f : Due → ℕ) (ds : List Due) (n : ℕ) → AllByRecursion (λ d. d.owner < n) ds → up_to (own_sum f ds) n ≡ sum_by f ds
own_sums f [] n a = up_to_none n
own_sums f (d ∷ ds) n a =
    let own = λ (o : ℕ). cond (eqb d.owner o) (f d) 0 in
    let e : up_to (own_sum f (d ∷ ds)) n ≡ up_to (λ o. own o + own_sum f ds o) n = up_to_same (own_sum f (d ∷ ds)) (λ o. own o + own_sum f ds o) n (λ k h. sum_by-cons (λ (x : Due). cond (eqb x.owner k) (f x) 0) d ds) in
    omega (arith, e, up_to_add own (own_sum f ds) n, one_owner d.owner (f d) n a.0, own_sums f ds n a.1, sum_by-cons f d ds)

-- where the whole of the weight is shared, each line gets its weight
pub share_back : (v : ℕ) (w : ℕ → ℕ) (i : ℕ) → w i ≤ v → share_of v v w i ≡ w i
share_back zero w i h = omega (arith, div-zero (0 * up_to w (suc i)), div-zero (0 * up_to w i))
share_back (suc v) w i h =
    omega (arith, mul-div_cancel_left (up_to w (suc i)) {n = suc v} (omega arith), mul-div_cancel_left (up_to w i) {n = suc v} (omega arith))
