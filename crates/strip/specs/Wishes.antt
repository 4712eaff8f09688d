-- When a search for a label is refused.
--   factor_of, level_of  what the k-th wish names
--   repeats              the k-th wish names the factor of an earlier one
--   find_rows            the refusal table's rows when a label is sought by wishes
--   locate_rows          and when it is sought by a factor and a fine setting
--   points_of            the points of the wished factors
--   values_of            the values there that give the wished levels
-- Assumes nothing.
use Rattle.std.specs.Prelude.{ℕ, Bool, not, leb, List, [], ◌∷◌, map, length, ◌==◌, nat_eq, nat_le, nat_lt, slice_index_or}
use Rattle.refusal.specs.declared.Layer.TheVariants as layer
use Rattle.refusal.specs.Table.{Row, row, first, row_at}
use Rattle.levels.specs.Rings.{Arithmetic}
use Rattle.shuffle.specs.Ways.{Ways}
use Rattle.plan.specs.declared.shape.Plan.{Plan}
use Rattle.strip.specs.declared.wish.Wish.{Wish}
use Rattle.strip.specs.Labels.{point, level_key}
use Rattle.strip.specs.Rows.{count_row}

-- what a list holds past its end, where a clause has to name a wish
abbrev pub idle : Wish
idle = record { factor = 0; level = 0 }

abbrev pub factor_of : List Wish → ℕ → ℕ
factor_of ws k = (slice_index_or ws k idle).factor

abbrev pub level_of : List Wish → ℕ → ℕ
level_of ws k = (slice_index_or ws k idle).level

abbrev pub repeats : List Wish → ℕ → Bool
repeats ws k = nat_lt (first (λ m. nat_eq (factor_of ws m) (factor_of ws k)) k) k

abbrev pub find_rows : Plan → Arithmetic → List Wish → List Row
find_rows P R ws =
    count_row P R ∷
    row_at 8 layer.Strip (λ k. leb P.factors (factor_of ws k)) (length ws) ∷
    row_at 9 layer.Strip (λ k. leb P.levels (level_of ws k)) (length ws) ∷
    row 11 layer.Strip 0 (not (length ws == P.strength)) ∷
    row_at 12 layer.Strip (repeats ws) (length ws) ∷
    []

abbrev pub locate_rows : Plan → Arithmetic → (j f : ℕ) → List Row
locate_rows P R j f =
    count_row P R ∷
    row 8 layer.Strip 0 (nat_le P.factors j) ∷
    row 9 layer.Strip 0 (nat_le P.labels f) ∷
    []

abbrev pub points_of : List Wish → List ℕ
points_of ws = map (λ w. point w.factor) ws

abbrev pub values_of : Plan → Ways → List Wish → List ℕ
values_of P W ws = map (λ w. W.back (level_key P.seed w.factor) P.levels w.level) ws
