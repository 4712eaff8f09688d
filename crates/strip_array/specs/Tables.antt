-- The table of a strip, as the checker reads it.
--   claimed  what is claimed of it: as many levels, factors and runs as the plan has, and its strength
--   part     the levels of its cells, run after run, out of a table that may be longer
--   Arrayed  the rows of all labels stand in the table, and their levels are an orthogonal array of index 1
-- Assumes nothing.
use Rattle.std.specs.Prelude.{ℕ, ◌*◌, List, map, take}
use Rattle.levels.specs.Rings.{Arithmetic}
use Rattle.shuffle.specs.Ways.{Ways}
use Rattle.plan.specs.declared.shape.Plan.{Plan}
use Rattle.strip.specs.declared.cell.Cell.{Cell}
use Rattle.strip.specs.Rows.{Written}
use Rattle.strength.specs.declared.claim.Claim.{Claim}
use Rattle.strength.specs.Arrays.{OrthogonalArray}

abbrev pub claimed : Plan → Claim
claimed P = record { levels = P.levels; strength = P.strength; factors = P.factors; runs = P.labels }

abbrev pub part : Plan → List Cell → List ℕ
part P table = map (λ c. c.level) (take (P.labels * P.factors) table)

pub record Arrayed (P : Plan) (R : Arithmetic) (W : Ways) (before after : List Cell) : Type 0 where
  pub rows : Written P R W 0 P.labels 0 before after
  pub array : OrthogonalArray (claimed P) (part P after) 1
