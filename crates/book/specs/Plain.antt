-- The plain book: a cursor, and how each label stands. It has no words, and no label of it is torn.
--   Label       how a label stands: it waits, it is out, or it is graded with a grade
--   opened      the book at first: the cursor is 0, and each of its n labels waits
--   conditions  the refusal table at a call, with the labels of the plain book read for the words
--   Takes       the label that a take comes to
--   Does        what a call does that no condition stands against: its answer, and the book after it
--   Step        what a call answers, and the book after it
-- Assumes nothing.
use Rattle.std.specs.Prelude.{◌≡◌, ℕ, ◌<◌, ◌⊎◌, List, map, length, get_or, replicate, Some, None, Ok, Err, Result, ◌≢◌, slice_index_or, slice_set}
use Rattle.refusal.specs.declared.Slip.{Slip}
use Rattle.refusal.specs.Table.{Row, refusal}
use Rattle.book.specs.declared.standing.Standing.{Standing}
use Rattle.book.specs.declared.standing.Standing.TheVariants.{Waiting, Out, Graded}
use Rattle.book.specs.declared.calls.Call.{Call}
use Rattle.book.specs.declared.calls.Call.TheVariants.{Take, Mark, Spoil, Strike, Finish}
use Rattle.book.specs.declared.calls.Answer.{Answer}
use Rattle.book.specs.declared.calls.Answer.TheVariants.{Took, Done, Finished}
use Rattle.book.specs.Search.{Sooner}
use Rattle.book.specs.Conditions.{table}
use Rattle.book.specs.Books.{next}

pub data Label : Type 0 where
  waiting : Label
  out : Label
  graded : ℕ → Label

pub record Plain : Type 0 where
  pub cursor : ℕ
  pub labels : List Label

abbrev pub opened : ℕ → Plain
opened n = record { cursor = 0; labels = replicate n waiting }

-- the standing that a word would say
abbrev pub stand : Label → Standing
stand waiting = Waiting
stand out = Out
stand (graded grade) = Graded grade

abbrev pub conditions : ℕ → Plain → Call → List Row
conditions n p call = table n p.cursor (map stand p.labels) call

-- it waits, and no label waits that is met sooner, going upward from the cursor and from the last label on to 0
pub record Takes (p : Plain) (label : ℕ) : Type 0 where
  pub within : label < length p.labels
  pub waits : get_or p.labels label waiting ≡ waiting
  pub sooner : (j : ℕ) → j < length p.labels → Sooner p.cursor j label → slice_index_or p.labels j waiting ≢ waiting

-- the book with one label changed
abbrev pub put : Plain → ℕ → Label → Plain
put p label l = record { cursor = p.cursor; labels = slice_set p.labels label l }

abbrev pub Does : ℕ → Plain → Call → Result Answer Slip → Plain → Type 0
Does n p (Take len) a q =
    (label : ℕ) × Takes p label × (a ≡ Ok (Took label)) × (q ≡ record { cursor = next n label; labels = slice_set p.labels label out })
Does n p (Mark len label grade) a q = (a ≡ Ok Done) × (q ≡ put p label (graded grade))
Does n p (Spoil len label) a q = (a ≡ Ok Done) × (q ≡ put p label waiting)
Does n p (Strike len label) a q = (a ≡ Ok Done) × (q ≡ put p label waiting)
Does n p (Finish len) a q = (a ≡ Ok Finished) × (q ≡ p)

-- a call that meets a condition answers the refusal of the smallest number, and changes nothing
pub record Refuses (n : ℕ) (p : Plain) (call : Call) (a : Result Answer Slip) (q : Plain) : Type 0 where
  pub slip : Slip
  pub given : refusal (conditions n p call) ≡ Some slip
  pub answer : a ≡ Err slip
  pub same : q ≡ p

-- every other call is accepted, and does what it says
pub record Accepts (n : ℕ) (p : Plain) (call : Call) (a : Result Answer Slip) (q : Plain) : Type 0 where
  pub clear : refusal (conditions n p call) ≡ None
  pub does : Does n p call a q

abbrev pub Step : ℕ → Plain → Call → Result Answer Slip → Plain → Type 0
Step n p call a q = Refuses n p call a q ⊎ Accepts n p call a q
