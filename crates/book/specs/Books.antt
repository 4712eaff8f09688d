-- What the calls on a book are refused for, hand out and leave. A refusal leaves all as it was.
--   rows_at    the refusal table at a call on a book with these words
--   Opened     a newly opened book
--   cleared    the words after opening
--   wrote      the words after a call that sets one label to a standing
--   took       the words after a take
--   next       the number after a label's, or 0 at the end
--   cursor_at  the cursor after a take
-- Assumes nothing.
use Rattle.std.specs.Prelude.{◌≡◌, ℕ, ◌+◌, cond, List, length, replicate, Ok, Err, Result, nat_lt, slice_set}
use Rattle.refusal.specs.Table.{Row}
use Rattle.plan.specs.declared.shape.Plan.{Plan}
use Rattle.book.specs.declared.standing.Standing.{Standing}
use Rattle.book.specs.declared.standing.Standing.TheVariants.{Waiting, Out}
use Rattle.book.specs.declared.fault.BookFault.{BookFault}
use Rattle.book.specs.declared.calls.Call.{Call}
use Rattle.book.specs.declared.shape.Book.{Book}
use Rattle.book.specs.Standings.{standings, code}
use Rattle.book.specs.Conditions.{table}

abbrev pub rows_at : Book → List ℕ → Call → List Row
rows_at b ws call = table b.plan.labels b.cursor (standings ws) call

pub record Opened (p : Plan) (b : Book) : Type 0 where
  pub plan : b.plan ≡ p
  pub cursor : b.cursor ≡ 0

abbrev pub cleared : Result Book BookFault → List ℕ → List ℕ
cleared (Ok b) ws = replicate (length ws) (code Waiting)
cleared (Err fault) ws = ws

abbrev pub wrote : Result (Unit {0}) BookFault → List ℕ → ℕ → Standing → List ℕ
wrote (Ok done) ws label s = slice_set ws label (code s)
wrote (Err fault) ws label s = ws

abbrev pub took : Result ℕ BookFault → List ℕ → List ℕ
took (Ok label) ws = slice_set ws label (code Out)
took (Err fault) ws = ws

abbrev pub next : (n label : ℕ) → ℕ
next n label = cond (nat_lt (label + 1) n) (label + 1) 0

abbrev pub cursor_at : Result ℕ BookFault → Book → ℕ
cursor_at (Ok label) b = next b.plan.labels label
cursor_at (Err fault) b = b.cursor
