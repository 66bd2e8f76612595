-- The text that explains a package.
use Rattle.std.specs.Prelude.{ℕ, List, ◌++◌, Ok, Err, codes, Result}
use Rattle.refusals.specs.Numbers.{Told}
use Rattle.payoff.specs.Rules.{Meaning}
use Rattle.payoff.specs.Tables.{tables}
use Rattle.format.specs.Hours.{Tables}
use Rattle.format.specs.Reading.{reads_tables, roomed}
use Rattle.explanation.specs.Lines.{refused_text, explanation_of}

-- the refusal of the package, or the explanation of its holdings
abbrev pub read_text : Meaning → Result Tables Told → List ℕ
read_text m (Err e) = refused_text e ++ codes "\n"
read_text m (Ok t) = explanation_of m (tables t.constraints t.points t.factors) t.holdings

-- a package, read into tables of the largest hour
abbrev pub package_text : Meaning → List ℕ → List ℕ
package_text m bs = read_text m (roomed 32 256 8192 1024 (reads_tables bs))
