-- The lines that explain an hour's holdings.
use Rattle.std.specs.Prelude.{ℕ, suc, cond, List, [], ◌∷◌, ◌++◌, Some, None, Ok, Err, codes, decimal, Option, Result}
use Rattle.std.proofs.Math.Utf8.{encode}
use Rattle.std.specs.Fmt.{signed_decimal}
use Rattle.refusals.specs.Numbers.{Told, refused_at}
use Rattle.rows.specs.declared.plain.HoldingRow.{HoldingRow}
use Rattle.rows.specs.Ranges.{holding_ok}
use Rattle.payoff.specs.Tables.{Tables, tables_test}
use Rattle.payoff.specs.Rules.{Meaning}
use Rattle.pricing.specs.Calls.{Priced, priced_in}

-- `refused N at P`
abbrev pub refused_text : Told → List ℕ
refused_text e = codes "refused " ++ (decimal e.number ++ (codes " at " ++ decimal e.place))

-- the four figures and the hedge price
unfoldable pub prices_text : Priced → List ℕ
prices_text p =
    codes "quantity " ++ (decimal p.payoff.quantity ++ (codes " target " ++ (signed_decimal p.payoff.target ++ (codes " deration " ++ (signed_decimal p.payoff.deration ++ (codes " floor " ++ (signed_decimal p.payoff.floor ++ (codes " hedge " ++ signed_decimal p.hedge_price))))))))

-- the amounts
unfoldable pub amounts_text : Priced → List ℕ
amounts_text p =
    codes " amount " ++ (signed_decimal p.amount ++ (codes " target amount " ++ (signed_decimal p.target ++ (codes " floor amount " ++ (signed_decimal p.floor ++ (codes " derated amount " ++ (signed_decimal p.derated ++ (codes " hedge value " ++ signed_decimal p.hedge_value))))))))

abbrev pub answer_text : Result Priced Told → List ℕ
answer_text (Ok p) = prices_text p ++ amounts_text p
answer_text (Err e) = refused_text e

-- a holding of the list, priced where it stands
abbrev pub answer_at : Meaning → Tables → ℕ → HoldingRow → Result Priced Told
answer_at m t i h = cond (holding_ok h) (priced_in m t h i) (Err (refused_at 18 i))

-- which holding of the list it is
unfoldable pub head_text : ℕ → HoldingRow → List ℕ
head_text i h =
    codes "holding " ++ (decimal i ++ (codes " " ++ (encode h.letter ++ (codes " " ++ (decimal h.source ++ (codes " to " ++ (decimal h.sink ++ codes ": ")))))))

abbrev pub holding_line : ℕ → HoldingRow → Result Priced Told → List ℕ
holding_line i h r = head_text i h ++ (answer_text r ++ codes "\n")

-- a line for each holding, numbered from i
abbrev pub lines_from : Meaning → Tables → ℕ → List HoldingRow → List ℕ
lines_from m t i [] = []
lines_from m t i (h ∷ hs) = holding_line i h (answer_at m t i h) ++ lines_from m t (suc i) hs

-- the refusal of the tables, or a line for each holding
abbrev pub text_after : Option Told → Meaning → Tables → List HoldingRow → List ℕ
text_after (Some e) m t hs = refused_text e ++ codes "\n"
text_after None m t hs = lines_from m t 0 hs

abbrev pub explanation_of : Meaning → Tables → List HoldingRow → List ℕ
explanation_of m t hs = text_after (tables_test t) m t hs
