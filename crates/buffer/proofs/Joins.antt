-- One text after another in a buffer.
use Rattle.std.proofs.Common.{◌≡◌, ℕ, ◌+◌, ◌-◌, ◌≤◌, List, [], ◌++◌, length, take, drop, sym, refl, ap, ◌∙◌, append_assoc, append-nil, arith, length-append}
use Rattle.std.proofs.lemmas.List.{drop-drop, take-append-drop}
use Rattle.buffer.specs.Writes.{Wrote}
use Rattle.buffer.specs.Appends.{Appends}
use Rattle.buffer.specs.declared.output.Output.{Output}

past : (xs : List ℕ) (q r : ℕ) → q ≤ r → drop r xs ≡ drop (r - q) (drop q xs)
past xs q r h = let u : r ≡ q + (r - q) = omega arith in ap (λ m. drop m xs) u ∙ sym (drop-drop (r - q) q xs)

pub nothing : (a : List ℕ) (p : ℕ) → Wrote a p [] p a
nothing a p = record { end = omega arith; front = sym (append-nil (take p a)); rest = refl; len = refl }

pub joined : (a b d : List ℕ) (p q r : ℕ) (xs ys : List ℕ) → Wrote a p xs q b → Wrote b q ys r d → Wrote a p (xs ++ ys) r d
joined a b d p q r xs ys h k =
    let n = length-append xs ys in
    let le : q ≤ r = omega arith in
    record {
      end = omega arith;
      front = k.front ∙ ap (λ zs. zs ++ ys) h.front ∙ append_assoc (take p a) xs ys;
      rest = k.rest ∙ past b q r le ∙ ap (drop (r - q)) h.rest ∙ sym (past a q r le);
      len = k.len ∙ h.len;
    }

-- a text that was written from 0 on
pub whole : (a : List ℕ) (bs : List ℕ) (r : ℕ) (d : List ℕ) → Wrote a 0 bs r d → (r ≡ length bs) × (d ≡ bs ++ drop (length bs) a) × (take r d ≡ bs)
whole a bs r d w =
    let e : r ≡ length bs = w.end ∙ omega arith in
    let s = take-append-drop r d in
    (e, sym s ∙ ap (λ xs. xs ++ drop r d) w.front ∙ ap (λ xs. bs ++ xs) w.rest ∙ ap (λ m. bs ++ drop m a) e, w.front)

-- the same of what is appended
pub appended : (o p q : Output) (xs ys : List ℕ) → Appends o xs p → Appends p ys q → Appends o (xs ++ ys) q
appended o p q xs ys h k = record { same = k.same ∙ h.same; wrote = joined o.buffer.now p.buffer.now q.buffer.now o.len p.len q.len xs ys h.wrote k.wrote }
