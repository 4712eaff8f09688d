-- A strip as a design: its labels are the runs, and their levels the array.
-- Assumes nothing.
use Rattle.levels.specs.Rings.{Arithmetic}
use Rattle.shuffle.specs.Ways.{Ways}
use Rattle.plan.specs.declared.shape.Plan.{Plan}
use Rattle.strip.specs.Labels.{level}
use Rattle.design.specs.Designs.{Design}

abbrev pub StripDesign : Plan → Arithmetic → Ways → Type 0
StripDesign P R W = Design P.labels P.levels P.factors P.strength (level P R W)
