-- One call of a row: what it answers, and the book and the words that it leaves.
--   Holds   a book with these words stands for a plain book
--   Turned  what a call does to a book that stands for the plain book p
--   Unfit   what it does where the memory handed in is not N words
--   Acts    what a call on the words that it is handed does
-- Assumes nothing.
use Rattle.std.specs.Prelude.{◌≡◌, ℕ, List, length, Err, Result, ◌≢◌}
use Rattle.refusal.specs.declared.Slip.{Slip}
use Rattle.plan.specs.declared.shape.Plan.{Plan}
use Rattle.book.specs.declared.calls.Call.{Call}
use Rattle.book.specs.declared.calls.Answer.{Answer}
use Rattle.book.specs.declared.shape.Book.{Book}
use Rattle.book.specs.declared.row.Next.{Next}
use Rattle.book.specs.declared.row.Next.TheVariants.{Going}
use Rattle.book.specs.Faults.{slip_of}
use Rattle.book.specs.Calls.{len_of, is_finished}
use Rattle.book.specs.Plain.{Plain, Step}
use Rattle.book.specs.Laws.{Sized}
use Rattle.book.specs.Shown.{Shows, Leaves}

pub record Holds (b : Book) (ws : List ℕ) (p : Plain) : Type 0 where
  pub sized : Sized b.plan.labels p
  pub cursor : b.cursor ≡ p.cursor
  pub words : Shows ws p

pub record Turned (plan : Plan) (p : Plain) (call : Call) (a : Result Answer Slip) (left : Next) (ws : List ℕ) : Type 0 where
  pub after : Plain
  pub step : Step plan.labels p call a after
  pub words : Shows ws after
  pub next : Leaves plan (is_finished a) left after

pub record Unfit (b : Book) (ws : List ℕ) (a : Result Answer Slip) (left : Next) (vs : List ℕ) : Type 0 where
  pub answer : a ≡ Err (slip_of 6 0)
  pub next : (c : Book) × (left ≡ Going c) × (c.plan ≡ b.plan) × (c.cursor ≡ b.cursor)
  pub words : vs ≡ ws

pub record Acts (b : Book) (ws : List ℕ) (call : Call) (a : Result Answer Slip) (left : Next) (vs : List ℕ) : Type 0 where
  pub follows : (p : Plain) → Holds b ws p → len_of call ≡ b.plan.labels → Turned b.plan p call a left vs
  pub unfit : length ws ≢ b.plan.labels → Unfit b ws a left vs
