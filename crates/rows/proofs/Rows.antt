-- What the test of a row answers, where it passes and where it fails.
use Rattle.std.proofs.Common.{◌≡◌, Bool, true, false, Some, None, Option}
use Rattle.std.specs.Prelude.{if◌then◌else◌}
use Rattle.std.specs.Option.{option_map}

pub untyped : {X Y : Type 0} (ok : X → Bool) (plain : Y → X) (row : X) (lost : Option Y) → ok row ≡ false → lost ≡ None → option_map plain lost ≡ (if ok row then Some row else None)
untyped ok plain row lost fails is = rw (fails, is)

-- what was made, seen plain, is the row
pub typed : {X : Type 0} (ok : X → Bool) (row plain : X) → ok row ≡ true → plain ≡ row → Some plain ≡ (if ok row then Some row else None)
typed ok row plain passes same = rw (passes, same)
