-- A set of instrument letters.
use Rattle.std.specs.Prelude.{ℕ, Bool, true, false, Some, None, Option}
use Rattle.rows.specs.declared.letters.InstrumentKind.{InstrumentKind}
use Rattle.rows.specs.declared.letters.InstrumentKind.TheVariants.{Obligation, PtpOption, ObligationWithRefund, OptionWithRefund}
use Rattle.rows.specs.Letters.{instrument_of}
use Rattle.payoff.specs.declared.letters.LetterSet.{LetterSet}

abbrev pub has_kind : LetterSet → InstrumentKind → Bool
has_kind s Obligation = s.obligation
has_kind s PtpOption = s.option
has_kind s ObligationWithRefund = s.obligation_with_refund
has_kind s OptionWithRefund = s.option_with_refund

abbrev pub has_named : LetterSet → Option InstrumentKind → Bool
has_named s None = false
has_named s (Some k) = has_kind s k

-- whether the set has a letter
abbrev pub has_letter : LetterSet → ℕ → Bool
has_letter s l = has_named s (instrument_of l)

abbrev pub no_letters : LetterSet
no_letters = record { obligation = false; option = false; obligation_with_refund = false; option_with_refund = false }

-- the set with one letter more
abbrev pub with_kind : LetterSet → InstrumentKind → LetterSet
with_kind s Obligation = record { obligation = true; option = s.option; obligation_with_refund = s.obligation_with_refund; option_with_refund = s.option_with_refund }
with_kind s PtpOption = record { obligation = s.obligation; option = true; obligation_with_refund = s.obligation_with_refund; option_with_refund = s.option_with_refund }
with_kind s ObligationWithRefund = record { obligation = s.obligation; option = s.option; obligation_with_refund = true; option_with_refund = s.option_with_refund }
with_kind s OptionWithRefund = record { obligation = s.obligation; option = s.option; obligation_with_refund = s.obligation_with_refund; option_with_refund = true }
