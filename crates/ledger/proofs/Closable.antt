-- What an accepted close has passed.
use Rattle.std.proofs.Common.{◌≡◌, ℕ, suc, ◌<◌, ◌≤◌, Bool, true, false, cond, ◌&&◌, eqb, ltb, leb, List, [], ◌∷◌, length, get_or, ℤ, pos, negsuc, Some, None, Option, refl, ap, arith}
use lib.Signed.{le_z}
use Rattle.std.specs.Option.{option_map}
use Rattle.std.specs.List.{AllByRecursion}
use Rattle.std.proofs.ByRecursion.{All-get_or}
use Rattle.std.proofs.lemmas.Bool.{and_parts, leb-true}
use Rattle.std.proofs.lemmas.Bool.Decides.{nat_tests}
use Rattle.refusals.specs.Numbers.{refused_at}
use Rattle.rows.specs.Firsts.{first_bad}
use Rattle.ledger.specs.declared.lines.RollLine.{RollLine}
use Rattle.ledger.specs.declared.lines.LoadLine.{LoadLine}
use Rattle.ledger.specs.Figures.{Figures, every, tied}
use Rattle.ledger.specs.Calls.{load_ok, loads_test, load_total, close_test}
use Rattle.ledger.proofs.Passed.{cond_none, none_cond, both_none, mapped_none}

-- what holds of each entry that passes a test holds of a table of such entries
pub each_of : {X : Type 0} (P : X → Type 0) (ok : X → Bool) → ((x : X) → ok x ≡ true → P x) → (xs : List X) → every ok xs ≡ true → AllByRecursion P xs
each_of P ok one [] e = tt
each_of P ok one (x ∷ xs) e =
    let a = and_parts (ok x) (every ok xs) e in
    (one x a.0, each_of P ok one xs a.1)

bad_cons : (b : Bool) (o : Option ℕ) (t : Bool) → cond b (option_map (λ k. suc k) o) (Some 0) ≡ None → (o ≡ None → t ≡ true) → (b && t) ≡ true
bad_cons true None t e h = h refl
bad_cons true (Some k) t e h = absurd (let z : ◌≡◌ {A = ℕ} 0 1 = cc in omega arith)
bad_cons false o t e h = absurd (let z : ◌≡◌ {A = ℕ} 0 1 = cc in omega arith)

pub none_bad : {X : Type 0} (ok : X → Bool) (xs : List X) → first_bad ok xs ≡ None → every ok xs ≡ true
none_bad ok [] e = refl
none_bad ok (x ∷ xs) e = bad_cons (ok x) (first_bad ok xs) (every ok xs) e (none_bad ok xs)

-- what an accepted close has passed
pub record Closable (f : Figures) (roll : List RollLine) (loads : List LoadLine) : Type 0 where
  pub ties : tied f roll ≡ true
  pub few : length loads ≤ 64
  pub sound : every load_ok loads ≡ true
  pub load : load_total loads ≡ 0 → f.balance ≡ 0

pub closable : (f : Figures) (roll : List RollLine) (loads : List LoadLine) → close_test f roll loads ≡ None → Closable f roll loads
closable f roll loads e =
    let a = cond_none (tied f roll) _ (refused_at 22 0) e in
    let b = both_none (loads_test loads) _ a.1 in
    let c = cond_none (leb (length loads) 64) _ (refused_at 25 0) b.0 in
    let d = none_cond (ltb 0 f.balance && eqb (load_total loads) 0) (refused_at 24 0) b.1 in
    record { ties = a.0; few = leb-true _ _ c.0; sound = none_bad load_ok loads (mapped_none _ _ c.1); load = λ z. grind (arith, nat_tests) }

pub every_at_lem : {X : Type 0} (ok : X → Bool) (xs : List X) (i : ℕ) (d : X) → every ok xs ≡ true → i < length xs → ok (get_or xs i d) ≡ true
every_at_lem ok xs i d e h = All-get_or (λ x. ok x ≡ true) xs i d h (each_of (λ x. ok x ≡ true) ok (λ x t. t) xs e)

nothing : (z : ℤ) → (le_z (pos 0) z && le_z z (pos 0)) ≡ true → z ≡ pos 0
nothing (pos n) e = let h : n ≤ 0 = leb-true n 0 (and_parts (leb 0 n) (leb n 0) e).1 in ap (λ (k : ℕ). pos k) (omega arith)
nothing (negsuc n) e = absurd (let z : ◌≡◌ {A = ℕ} 0 1 = cc in omega arith)

pub unpaid : (x : LoadLine) → load_ok x ≡ true → x.paid.value ≡ pos 0
unpaid x e = nothing x.paid.value (and_parts (leb x.mwh 40000000) _ e).1
