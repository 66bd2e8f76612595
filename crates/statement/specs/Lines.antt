-- The statement of an hour: a line for each holding, and one for the hour.
use Rattle.std.specs.Prelude.{ℕ, suc, Bool, cond, ◌&&◌, List, [], ◌∷◌, ◌++◌, length, drop, ℤ, pos, Ok, Err, codes, Result, nat_le}
use Rattle.std.specs.Fmt.{signed_decimal}
use Rattle.refusals.specs.Numbers.{Told, refused_at}
use Rattle.rows.specs.declared.plain.HoldingRow.{HoldingRow}
use Rattle.statement.specs.declared.figures.HourFigures.{HourFigures}

-- a word and a number, which has no leading zeros, and a - in front where it is negative
abbrev pub told : List ℕ → ℤ → List ℕ
told word z = word ++ signed_decimal z

-- holding I owner O amount A
abbrev pub holding_line : ℕ → ℕ → ℤ → List ℕ
holding_line i owner amount =
    told (codes "holding ") (pos i) ++ (told (codes " owner ") (pos owner) ++ (told (codes " amount ") amount ++ codes "\n"))

-- of the holdings from number i on
abbrev pub holding_lines : ℕ → List HoldingRow → List ℤ → List ℕ
holding_lines i [] amounts = []
holding_lines i (h ∷ hs) [] = []
holding_lines i (h ∷ hs) (a ∷ amounts) = holding_line i h.owner a ++ holding_lines (suc i) hs amounts

-- hour N rent R credit C charge G short S balance B
abbrev pub hour_line_of : ℕ → HourFigures → List ℕ
hour_line_of hour f =
    told (codes "hour ") (pos hour) ++ (told (codes " rent ") f.rent ++ (told (codes " credit ") f.credits ++ (told (codes " charge ") f.charges ++ (told (codes " short ") f.shortfall ++ (told (codes " balance ") f.balance ++ codes "\n")))))

unfoldable pub statement_of : ℕ → List HoldingRow → List ℤ → HourFigures → List ℕ
statement_of hour hs amounts f = holding_lines 0 hs amounts ++ hour_line_of hour f

-- test 11: at most 1,024 holdings, and an amount for each
abbrev pub sizes_ok : ℕ → ℕ → Bool
sizes_ok holdings amounts = nat_le holdings 1024 && nat_le holdings amounts

-- the tests in order, the last of them 7, that the room suffices
abbrev pub stated : ℕ → List HoldingRow → List ℤ → HourFigures → ℕ → Result (List ℕ) Told
stated hour hs amounts f room =
    cond (sizes_ok (length hs) (length amounts)) (cond (nat_le (length (statement_of hour hs amounts f)) room) (Ok (statement_of hour hs amounts f)) (Err (refused_at 7 0))) (Err (refused_at 11 0))

-- an answer tells the length
abbrev pub length_of : Result (List ℕ) Told → Result ℕ Told
length_of (Ok bs) = Ok (length bs)
length_of (Err e) = Err e

-- a buffer afterwards
abbrev pub written : Result (List ℕ) Told → List ℕ → List ℕ
written (Ok bs) was = bs ++ drop (length bs) was
written (Err e) was = was
