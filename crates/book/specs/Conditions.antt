-- The refusal table at each call of the book, over how the labels stand: read from the words, or in the plain book.
-- n is the count of labels, c the cursor, len the length of the memory handed in.
--   unfit      the memory is not N words
--   past       the label is not below N
--   ungraded   some label waits or is out; some word is torn, the lowest being the place
--   stopped    the label where a take stops
--   opening    the table at opening
--   finishing  .. at a finish
--   table      .. at any call
-- Assumes nothing.
use Rattle.std.specs.Prelude.{ℕ, not, ◌&&◌, List, [], ◌∷◌, ◌==◌, nat_le, slice_index_or}
use Rattle.std.specs.Option.{unwrap_or}
use Rattle.refusal.specs.Table.{Row}
use Rattle.book.specs.declared.standing.Standing.{Standing}
use Rattle.book.specs.declared.standing.Standing.TheVariants.{Waiting}
use Rattle.book.specs.declared.calls.Call.{Call}
use Rattle.book.specs.declared.calls.Call.TheVariants.{Take, Mark, Spoil, Strike, Finish}
use Rattle.book.specs.declared.deed.Deed.TheVariants as deed
use Rattle.book.specs.Standings.{is_out, is_graded, is_torn, stops, unready}
use Rattle.book.specs.Faults.{line}
use Rattle.book.specs.Search.{lowest, some, each, stop}
use Rattle.book.specs.Deeds.{is_high, against}

abbrev pub unfit : (n len : ℕ) → Row
unfit n len = line 6 0 (not (len == n))

abbrev pub past : (n label : ℕ) → Row
past n label = line 7 label (nat_le n label)

abbrev pub ungraded : List Standing → List Row
ungraded ss = line 16 0 (some unready ss) ∷ line 17 (unwrap_or (lowest is_torn ss) 0) (some is_torn ss) ∷ []

-- how a label stands
abbrev pub stands : List Standing → ℕ → Standing
stands ss label = slice_index_or ss label Waiting

-- where it stops nowhere, a smaller row than the one that asks is given
abbrev pub stopped : ℕ → List Standing → ℕ
stopped c ss = unwrap_or (stop c ss) 0

abbrev pub opening : (n len : ℕ) → List Row
opening n len = unfit n len ∷ []

abbrev pub finishing : (n len : ℕ) → List Standing → List Row
finishing n len ss = unfit n len ∷ ungraded ss

abbrev pub table : (n c : ℕ) → List Standing → Call → List Row
table n c ss (Take len) =
    unfit n len ∷
    line 14 0 (not (some stops ss) && some is_out ss) ∷
    line 15 0 (each is_graded ss) ∷
    line 17 (stopped c ss) (is_torn (stands ss (stopped c ss))) ∷
    []
table n c ss (Mark len label grade) =
    unfit n len ∷ past n label ∷ line 10 0 (is_high (deed.Mark grade)) ∷ against (deed.Mark grade) (stands ss label) label
table n c ss (Spoil len label) = unfit n len ∷ past n label ∷ against deed.Spoil (stands ss label) label
table n c ss (Strike len label) = unfit n len ∷ past n label ∷ against deed.Strike (stands ss label) label
table n c ss (Finish len) = finishing n len ss
