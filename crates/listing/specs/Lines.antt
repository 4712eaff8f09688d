-- The bytes of a listing's rows.
--   cell_text   a space, a cell's level, a stroke and its fine setting
--   cells_text  the settings of some cells, one after the other
--   row_text    a label's line: its number, the settings of its cells, and a line feed
--   cells_of    the cells of a label's first j factors
--   rows_text   the lines of the first n labels
-- Assumes nothing.
use Rattle.std.specs.Prelude.{ℕ, zero, suc, List, [], ◌∷◌, ◌++◌}
use Rattle.std.specs.List.{flat_map}
use Rattle.levels.specs.Rings.{Arithmetic}
use Rattle.shuffle.specs.Ways.{Ways}
use Rattle.plan.specs.declared.shape.Plan.{Plan}
use Rattle.strip.specs.declared.cell.Cell.{Cell}
use Rattle.strip.specs.Labels.{index, cell_at}
use Rattle.listing_text.specs.Texts.{label_text, setting_text, end_text}

abbrev pub cell_text : Cell → List ℕ
cell_text c = setting_text c.level c.fine

abbrev pub cells_text : List Cell → List ℕ
cells_text = flat_map cell_text

abbrev pub row_text : ℕ → List Cell → List ℕ
row_text i cells = label_text i ++ (cells_text cells ++ end_text)

abbrev pub cells_of : Plan → Arithmetic → Ways → (i j : ℕ) → List Cell
cells_of P R W i zero = []
cells_of P R W i (suc j) = cells_of P R W i j ++ cell_at P R W (index P W i) j ∷ []

abbrev pub rows_text : Plan → Arithmetic → Ways → ℕ → List ℕ
rows_text P R W zero = []
rows_text P R W (suc n) = rows_text P R W n ++ row_text n (cells_of P R W n P.factors)
