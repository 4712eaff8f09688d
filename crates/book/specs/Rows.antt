-- A row of calls on the plain book.
--   Row       the answers to a row of calls from p on, and the book q that it leaves: each call gets the book that the
--             last one left, and an accepted finish ends the row
--   finishes  whether a finish was accepted
-- Assumes nothing.
use Rattle.std.specs.Prelude.{◌≡◌, ℕ, Bool, false, ◌||◌, List, [], ◌∷◌, MatchBool, Result}
use Rattle.refusal.specs.declared.Slip.{Slip}
use Rattle.book.specs.declared.calls.Call.{Call}
use Rattle.book.specs.declared.calls.Answer.{Answer}
use Rattle.book.specs.Calls.{is_finished}
use Rattle.book.specs.Plain.{Plain, Step}

abbrev pub Row : ℕ → Plain → List Call → List (Result Answer Slip) → Plain → Type 0
Row n p [] [] q = p ≡ q
Row n p [] (a ∷ told) q = ⊥
Row n p (call ∷ calls) [] q = ⊥
Row n p (call ∷ calls) (a ∷ told) q =
    (m : Plain) × Step n p call a m × MatchBool (is_finished a) ((told ≡ []) × (m ≡ q)) (Row n m calls told q)

abbrev pub finishes : List (Result Answer Slip) → Bool
finishes [] = false
finishes (a ∷ told) = is_finished a || finishes told
