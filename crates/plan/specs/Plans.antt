-- When a plan is refused, and what an accepted one holds.
--   undivided  counts of levels for which no arithmetic with inverses exists here
--   plan_rows  the refusal table's rows at planning
--   Planned    the plan of these numbers
-- Assumes nothing.
use Rattle.std.specs.Prelude.{◌≡◌, List, [], ◌∷◌, Bool, ◌&&◌, ◌||◌, ℕ, ◌^◌, ltb, leb, eqb}
use Rattle.refusal.specs.declared.Layer.TheVariants as layer
use Rattle.refusal.specs.Table.{Row, row}
use Rattle.plan.specs.declared.shape.Plan.{Plan}

abbrev pub undivided : ℕ → Bool
undivided s = eqb s 6 || eqb s 9 || eqb s 10 || eqb s 12 || eqb s 14 || eqb s 15

abbrev pub plan_rows : (s t d : ℕ) → List Row
plan_rows s t d =
    row 1 layer.Plan 0 (ltb s 2 || ltb 16 s) ∷
    row 2 layer.Plan 0 (eqb d 0 || ltb s d) ∷
    row 3 layer.Plan 0 (eqb t 0 || ltb d t) ∷
    row 4 layer.Plan 0 (leb 2 t && undivided s) ∷
    row 5 layer.Plan 0 (ltb 65536 (s ^ t)) ∷
    []

pub record Planned (s t d seed : ℕ) (p : Plan) : Type 0 where
  pub levels : p.levels ≡ s
  pub strength : p.strength ≡ t
  pub factors : p.factors ≡ d
  pub seeded : p.seed ≡ seed
  pub labels : p.labels ≡ s ^ t
