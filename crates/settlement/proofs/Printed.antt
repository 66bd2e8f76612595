-- A statement that was written had room.
use Rattle.std.proofs.Common.{◌≡◌, ℕ, ◌≤◌, Bool, true, false, cond, leb, List, length, IfOk, Ok, Err, Result, refl, arith}
use Rattle.std.proofs.lemmas.Bool.{leb-true}
use Rattle.refusals.specs.declared.refusal.Refusal.{Refusal}
use Rattle.refusals.specs.Numbers.{Told, refused_at, told_by}
use Rattle.statement.specs.Lines.{length_of}
use Rattle.settlement.specs.Settled.{within}

fits : (b : Bool) (n room : ℕ) (text : List ℕ) → leb (length text) room ≡ b → Ok n ≡ length_of (cond b (Ok text) (Err (refused_at 7 0))) → n ≤ room
fits true n room text h e = let k : n ≡ length text = cc in let l = leb-true (length text) room h in omega arith
fits false n room text h e = absurd (let z : ◌≡◌ {A = ℕ} 0 1 = cc in omega arith)

pub text_fits : (room n : ℕ) (r : Result (List ℕ) Told) → Ok n ≡ length_of (within room r) → n ≤ room
text_fits room n (Ok text) e = fits (leb (length text) room) n room text refl e
text_fits room n (Err x) e = absurd (let z : ◌≡◌ {A = ℕ} 0 1 = cc in omega arith)

pub made_fits : (room : ℕ) (r : Result ℕ Refusal) (w : Result (List ℕ) Told) → told_by (λ n. n) r ≡ length_of (within room w) → IfOk r (λ n. n ≤ room)
made_fits room (Ok n) w e = text_fits room n w e
made_fits room (Err x) w e = tt
