-- What mark, spoil and strike are to one label.
--   asked      the call that asks for a deed
--   made       how the label stands after it
--   is_high    the grade is above 1000
--   misplaced  the label does not stand as the deed needs it
--   against    the rows of the table that speak against a deed to a label that stands so
-- Assumes nothing.
use Rattle.std.specs.Prelude.{ℕ, Bool, false, ◌||◌, List, [], ◌∷◌, nat_lt}
use Rattle.refusal.specs.Table.{Row}
use Rattle.book.specs.declared.standing.Standing.{Standing}
use Rattle.book.specs.declared.standing.Standing.TheVariants.{Waiting, Graded}
use Rattle.book.specs.declared.calls.Call.{Call}
use Rattle.book.specs.declared.calls.Call.TheVariants as call
use Rattle.book.specs.declared.deed.Deed.{Deed}
use Rattle.book.specs.declared.deed.Deed.TheVariants.{Mark, Spoil, Strike}
use Rattle.book.specs.Standings.{is_waiting, is_out, is_graded, is_torn}
use Rattle.book.specs.Faults.{line}

abbrev pub asked : Deed → (len label : ℕ) → Call
asked (Mark grade) len label = call.Mark len label grade
asked Spoil len label = call.Spoil len label
asked Strike len label = call.Strike len label

abbrev pub made : Deed → Standing
made (Mark grade) = Graded grade
made Spoil = Waiting
made Strike = Waiting

abbrev pub is_high : Deed → Bool
is_high (Mark grade) = nat_lt 1000 grade
is_high Spoil = false
is_high Strike = false

abbrev pub misplaced : Deed → Standing → Bool
misplaced (Mark grade) s = is_waiting s || is_graded s
misplaced Spoil s = is_waiting s || is_graded s
misplaced Strike s = is_waiting s || is_out s

abbrev pub against : Deed → Standing → (label : ℕ) → List Row
against d s label = line 13 label (misplaced d s) ∷ line 17 label (is_torn s) ∷ []
