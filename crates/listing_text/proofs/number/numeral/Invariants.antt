use Rattle.std.proofs.Common.{◌≡◌, take}
use Rattle.listing_text.specs.Grammar.{value_after}
use Rattle.listing_text.proofs.Numerals.{DigitsTo}
use Rattle.listing_text.proofs.number.numeral.Given as goal

-- the bytes so far are digits, of which `value` is the number
abbrev pub invariant-loop-byte : goal.invariant-loop-byte
invariant-loop-byte l = DigitsTo l.word l.byte-index × (l.value ≡ value_after 0 (take l.byte-index l.word))
