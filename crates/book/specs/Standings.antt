-- How a word is read, and what a call writes.
--   standing                                what a word says of its label
--   standings                               what each of the words says
--   code                                    the word that a call writes for a standing
--   is_waiting, is_out, is_graded, is_torn  which standing it is
-- Assumes nothing.
use Rattle.std.specs.Prelude.{ℕ, ◌+◌, ◌-◌, Bool, true, false, cond, ◌||◌, List, map, ◌==◌, nat_le}
use Rattle.book.specs.declared.standing.Standing.{Standing}
use Rattle.book.specs.declared.standing.Standing.TheVariants.{Waiting, Out, Graded, Torn}

-- 0 waiting, 1 out, 2 to 1002 graded with the word less 2, above torn
abbrev pub standing : ℕ → Standing
standing w = cond (w == 0) Waiting (cond (w == 1) Out (cond (nat_le w 1002) (Graded (w - 2)) Torn))

abbrev pub standings : List ℕ → List Standing
standings ws = map standing ws

-- no call writes a torn word; 1003 is the lowest
abbrev pub code : Standing → ℕ
code Waiting = 0
code Out = 1
code (Graded g) = g + 2
code Torn = 1003

abbrev pub is_waiting : Standing → Bool
is_waiting Waiting = true
is_waiting Out = false
is_waiting (Graded g) = false
is_waiting Torn = false

abbrev pub is_out : Standing → Bool
is_out Waiting = false
is_out Out = true
is_out (Graded g) = false
is_out Torn = false

abbrev pub is_graded : Standing → Bool
is_graded Waiting = false
is_graded Out = false
is_graded (Graded g) = true
is_graded Torn = false

abbrev pub is_torn : Standing → Bool
is_torn Waiting = false
is_torn Out = false
is_torn (Graded g) = false
is_torn Torn = true

-- a take stops here
abbrev pub stops : Standing → Bool
stops s = is_waiting s || is_torn s

-- the label has yet to be graded
abbrev pub unready : Standing → Bool
unready s = is_waiting s || is_out s
