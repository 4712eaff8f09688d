-- Rows of cells in the caller's table.
--   count_row   the row of every call on a strip: the arithmetic's count is not the plan's
--   rows_rows   the refusal table's rows when rows are asked for
--   level_rows  .. and when the level of one label for one factor is
--   Written     what the table holds after rows are written: their cells in their part, and all else as before
-- Assumes nothing.
use Rattle.std.specs.Prelude.{◌≡◌, ℕ, ◌+◌, ◌*◌, ◌<◌, ◌≤◌, not, List, [], ◌∷◌, length, ◌==◌, nat_le, nat_lt, slice_index_or}
use Rattle.refusal.specs.declared.Layer.TheVariants as layer
use Rattle.refusal.specs.Table.{Row, row}
use Rattle.levels.specs.Rings.{Arithmetic}
use Rattle.shuffle.specs.Ways.{Ways}
use Rattle.plan.specs.declared.shape.Plan.{Plan}
use Rattle.strip.specs.declared.cell.Cell.{Cell}
use Rattle.strip.specs.Labels.{index, cell_at}

abbrev pub count_row : Plan → Arithmetic → Row
count_row P R = row 1 layer.Strip 0 (not (R.count == P.levels))

abbrev pub rows_rows : Plan → Arithmetic → (first count start len : ℕ) → List Row
rows_rows P R first count start len =
    count_row P R ∷
    row 6 layer.Strip 0 (nat_lt len (start + count * P.factors)) ∷
    row 7 layer.Strip 0 (nat_lt P.labels (first + count)) ∷
    []

abbrev pub level_rows : Plan → Arithmetic → (label factor : ℕ) → List Row
level_rows P R label factor =
    count_row P R ∷
    row 7 layer.Strip label (nat_le P.labels label) ∷
    row 8 layer.Strip 0 (nat_le P.factors factor) ∷
    []

-- what a list holds past its end, where a clause has to name a cell
abbrev pub blank : Cell
blank = record { level = 0; fine = 0 }

pub record Written (P : Plan) (R : Arithmetic) (W : Ways) (first count start : ℕ) (before after : List Cell) : Type 0 where
  pub cells : (k j : ℕ) → k < count → j < P.factors → slice_index_or after (start + (k * P.factors + j)) blank ≡ cell_at P R W (index P W (first + k)) j
  pub under : (p : ℕ) → p < start → slice_index_or after p blank ≡ slice_index_or before p blank
  pub over : (p : ℕ) → start + count * P.factors ≤ p → slice_index_or after p blank ≡ slice_index_or before p blank
  pub sized : length after ≡ length before
