-- The laws of sharing.
use Rattle.std.proofs.Common.{◌≡◌, ℕ, zero, suc, ◌+◌, ◌-◌, ◌*◌, ◌/◌, ◌<◌, ◌≤◌, sym, refl, ap, ◌∙◌, mul-le-mul_right, mul_comm, mul-zero, mul-add, div-mul-le_self, mul-div_cancel, arith}
use native.Mathlib.Nat.{mul-sub, zero-div, div-zero, lt-div-mul-add, add-mul-div_left}
use Rattle.sharing.specs.Shares.{up_to, share_of, Fair}
use Rattle.sharing.proofs.Parts.{div_mono, part_mono}

module _ (s v : ℕ) (w : ℕ → ℕ) where
  -- the shares up to a line come to what falls to these lines
  pub shares_up_to : (n : ℕ) → up_to (share_of s v w) n ≡ s * up_to w n / v
  shares_up_to zero = sym (ap (λ k. k / v) (mul-zero s) ∙ zero-div v)
  shares_up_to (suc n) = omega (arith, shares_up_to n, part_mono s (up_to w n) (w n) v)

  pub share_within : s ≤ v → 0 < v → (i : ℕ) → share_of s v w i ≤ w i
  share_within h p i =
      let b = up_to w i in
      let c : s * (b + w i) / v ≤ (s * b + v * w i) / v = div_mono (s * (b + w i)) (s * b + v * w i) v (omega (arith, mul-add s b (w i), mul-le-mul_right {m = s} {n = v} (w i) h)) in
      let d : (s * b + v * w i) / v ≡ s * b / v + w i = add-mul-div_left (s * b) (w i) p in
      omega arith

  pub share_near : 0 < v → (i : ℕ) → (share_of s v w i * v < s * w i + v) × (s * w i < share_of s v w i * v + v)
  share_near p i =
      let b = up_to w i in
      let c = b + w i in
      let m : s * b / v ≤ s * c / v = part_mono s b (w i) v in
      let l1 = div-mul-le_self (s * c) v in
      let l2 = div-mul-le_self (s * b) v in
      let u1 = lt-div-mul-add {a = s * c} {b = v} p in
      let u2 = lt-div-mul-add {a = s * b} {b = v} p in
      let e : s * c ≡ s * b + s * w i = mul-add s b (w i) in
      let q : share_of s v w i * v ≡ s * c / v * v - s * b / v * v = omega (arith, mul_comm (s * c / v - s * b / v) v, mul_comm (s * c / v) v, mul_comm (s * b / v) v, mul-sub v (s * c / v) (s * b / v)) in
      let mm : s * b / v * v ≤ s * c / v * v = mul-le-mul_right v m in
      (omega arith, omega arith)

  -- where nothing is shared, every share is nothing
  pub share_none : s ≡ 0 → (i : ℕ) → share_of s v w i ≡ 0
  share_none e i =
      let z : (k : ℕ) → s * k / v ≡ 0 = λ k. ap (λ n. n * k / v) e ∙ ap (λ n. n / v) (mul_comm 0 k ∙ mul-zero k) ∙ zero-div v in
      omega (arith, z (up_to w (suc i)), z (up_to w i))

-- every law, of lines whose weights come to the total
pub fair : (s v : ℕ) (w : ℕ → ℕ) (n : ℕ) → up_to w n ≡ v → (v ≡ 0 → s ≡ 0) → Fair s v w n
fair s zero w n total none =
    record {
      whole = shares_up_to s 0 w n ∙ div-zero (s * up_to w n) ∙ sym (none refl);
      within = λ h i l. omega (arith, share_none s 0 w (none refl) i);
      not_over = λ p. absurd (omega arith);
      not_under = λ p. absurd (omega arith);
    }
fair s (suc v) w n total none =
    let p : 0 < suc v = omega arith in
    record {
      whole = shares_up_to s (suc v) w n ∙ ap (λ k. s * k / suc v) total ∙ mul-div_cancel s p;
      within = λ h i l. share_within s (suc v) w h p i;
      not_over = λ q i l. (share_near s (suc v) w p i).0;
      not_under = λ q i l. (share_near s (suc v) w p i).1;
    }
