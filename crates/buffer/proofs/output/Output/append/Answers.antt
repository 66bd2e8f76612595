use Rattle.std.proofs.Common.{rules}
use Rattle.std.proofs.lemmas.Slice.{overwrites}
use Rattle.buffer.proofs.output.Output.append.Goals as goal

pub returns : goal.returns
returns c = record { same = search rules; wrote = record { end = search rules; front = search (rules, overwrites); rest = search (rules, overwrites); len = search rules } }
