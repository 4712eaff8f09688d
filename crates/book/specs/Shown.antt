-- How a book and its words stand for a plain book, and what a row of calls leaves.
--   Shows    each word says how its label stands in the plain book
--   Leaves   the book after a call or a row: still the plan's, at the plain book's cursor, or finished
--   Played   what a row of calls gives
--   RowEnds  that, or the error of a row, which changes no word
-- Assumes nothing.
use Rattle.std.specs.Prelude.{◌≡◌, ℕ, Bool, true, false, List, map, length, Some, None, Ok, Err, vec_items, Result}
use Rattle.refusal.specs.Table.{refusal}
use Rattle.plan.specs.declared.shape.Plan.{Plan}
use Rattle.book.specs.declared.calls.Call.{Call}
use Rattle.book.specs.declared.row.Next.{Next}
use Rattle.book.specs.declared.row.Next.TheVariants.{Going, Over}
use Rattle.book.specs.declared.row.Ran.{Ran}
use Rattle.book.specs.declared.row.RowFault.{RowFault}
use Rattle.book.specs.declared.row.RowFault.TheVariants.{Memory, Opening}
use Rattle.book.specs.Standings.{standings}
use Rattle.book.specs.Faults.{book_slip}
use Rattle.book.specs.Conditions.{opening}
use Rattle.book.specs.Plain.{Plain, stand, opened}
use Rattle.book.specs.Rows.{Row, finishes}

abbrev pub Shows : List ℕ → Plain → Type 0
Shows ws p = standings ws ≡ map stand p.labels

abbrev pub Leaves : Plan → Bool → Next → Plain → Type 0
Leaves plan finished (Going b) p = (finished ≡ false) × (b.plan ≡ plan) × (b.cursor ≡ p.cursor)
Leaves plan finished (Over f) p = (finished ≡ true) × (f.plan ≡ plan)

-- the answers are those of the plain book, call by call from its opening on, and the words show the plain book at the end
pub record Played (plan : Plan) (calls : List Call) (ran : Ran) (ws : List ℕ) : Type 0 where
  pub after : Plain
  pub answers : Row plan.labels (opened plan.labels) calls (vec_items ran.answers) after
  pub words : Shows ws after
  pub next : Leaves plan (finishes (vec_items ran.answers)) ran.next after

-- ws are the words before the row, and vs those after it
abbrev pub RowEnds : Plan → List Call → (ws vs : List ℕ) → Result Ran RowFault → Type 0
RowEnds plan calls ws vs (Ok ran) = (refusal (opening plan.labels (length ws)) ≡ None) × Played plan calls ran vs
RowEnds plan calls ws vs (Err (Opening fault)) = (refusal (opening plan.labels (length ws)) ≡ Some (book_slip fault)) × (vs ≡ ws)
RowEnds plan calls ws vs (Err Memory) = (refusal (opening plan.labels (length ws)) ≡ None) × (vs ≡ ws)
