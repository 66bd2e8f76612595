-- What writing answers once the sizes and the entries passed.
use Rattle.std.proofs.Common.{◌≡◌, ℕ, ◌<◌, ◌≤◌, true, false, cond, leb, length, nat_abs, None, Ok, Err, ap, ◌∙◌, arith, le-leb}
use borrow.Author.Differences.{ints}
use borrow.Author.Tests.{lt-leb}
use Rattle.refusals.specs.Numbers.{refused_at}
use Rattle.rows.specs.declared.day.Day.{Day}
use Rattle.rows.specs.Plain.{plain_day}
use Rattle.rows.specs.Ranges.{day_ok}
use Rattle.format.specs.Hours.{Tables, hour_of, package_of}
use Rattle.format.specs.Writing.{sizes_ok, bad_entry, tested, writes}

-- a typed hour is in range
pub day_ok_lem : (d : Day) → day_ok (plain_day d) ≡ true
unfolding day_ok
day_ok_lem d =
    let a : leb 1 d.hour ≡ true = le-leb _ _ d.first_hour in
    let b : leb d.hour 744 ≡ true = le-leb _ _ d.last_hour in
    let w : leb d.weekday 6 ≡ true = le-leb _ _ d.sunday in
    let e : leb 1 d.ending ≡ true = le-leb _ _ d.first_ending in
    let f : leb d.ending 24 ≡ true = le-leb _ _ d.last_ending in
    let n : nat_abs d.rent.value ≤ 3000000000 = omega (arith, ints, d.rent_low, d.rent_high) in
    let r : leb (nat_abs d.rent.value) 3000000000 ≡ true = le-leb _ _ n in
    rw (a, b, w, e, f, r)

module _ (t : Tables) (room : ℕ) (s : sizes_ok t ≡ true) (b : bad_entry t ≡ None) where
  tested_so : writes t room ≡ cond (leb (length (package_of (hour_of t))) room) (Ok (package_of (hour_of t))) (Err (refused_at 7 0))
  tested_so = ap (λ x. tested x (bad_entry t) (package_of (hour_of t)) room) s ∙ ap (λ o. tested true o (package_of (hour_of t)) room) b

  pub writes_short : room < length (package_of (hour_of t)) → writes t room ≡ Err (refused_at 7 0)
  writes_short h =
      let l : leb (length (package_of (hour_of t))) room ≡ false = lt-leb _ _ h in
      tested_so ∙ ap (λ x. cond x (Ok (package_of (hour_of t))) (Err (refused_at 7 0))) l

  pub writes_good : length (package_of (hour_of t)) ≤ room → writes t room ≡ Ok (package_of (hour_of t))
  writes_good h =
      let l : leb (length (package_of (hour_of t))) room ≡ true = le-leb _ _ h in
      tested_so ∙ ap (λ x. cond x (Ok (package_of (hour_of t))) (Err (refused_at 7 0))) l
