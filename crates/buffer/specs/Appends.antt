-- What was written after what was there.
use Rattle.std.specs.Prelude.{◌≡◌, ℕ, ◌+◌, ◌≤◌, List, length}
use Rattle.buffer.specs.declared.output.Output.{Output}
use Rattle.buffer.specs.Writes.{Wrote}

-- there is room for n bytes more
abbrev pub HasRoom : Output → ℕ → Type 0
HasRoom o n = o.len + n ≤ length o.buffer.now

-- bs was written after what was written, in the same buffer
pub record Appends (was : Output) (bs : List ℕ) (is : Output) : Type 0 where
  pub same : is.buffer.ghost_name ≡ was.buffer.ghost_name
  pub wrote : Wrote was.buffer.now was.len bs is.len is.buffer.now
