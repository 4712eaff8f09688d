-- The effect of a factor, read off the grades of a finished book, which are given as a function.
--   grade_of       the grade that a label's word holds
--   finished_rows  the refusal table's rows when an effect is asked for
--   grades_over    the sum of the grades of the labels that have a level
--   effect_over    the sum of the grades of the labels with level a, less that of those with level b
--   AdditiveOver   each label's grade is a base plus one share per factor's level
--   EffectOver     what an effect answers: its value, and what that is where the grades are additive
-- Assumes nothing.
use Rattle.std.specs.Prelude.{◌≡◌, ℕ, ◌-◌, ◌/◌, ◌<◌, ◌≤◌, cond, ◌||◌, List, ◌∷◌, ℤ, pos, ◌+ℤ◌, ◌-ℤ◌, ◌*ℤ◌, nat_le, slice_index}
use Rattle.refusal.specs.declared.Layer.TheVariants as layer
use Rattle.refusal.specs.Table.{Row, row}
use Rattle.levels.specs.Rings.{Arithmetic}
use Rattle.shuffle.specs.Ways.{Ways}
use Rattle.plan.specs.declared.shape.Plan.{Plan}
use Rattle.strip.specs.Labels.{level}
use Rattle.strip.specs.Rows.{count_row}
use Rattle.book.specs.declared.standing.Standing.{Standing}
use Rattle.book.specs.Conditions.{unfit, ungraded}
use Rattle.design.specs.Sums.{sum_to}
use Rattle.design.specs.Designs.{sum_at}

abbrev pub grade_of : List ℕ → ℕ → ℤ
grade_of ws i = pos (slice_index ws i - 2)

-- len is the length of the memory handed in, and ss is how the labels stand
abbrev pub finished_rows : Plan → Arithmetic → (len : ℕ) → List Standing → (f a b : ℕ) → List Row
finished_rows P R len ss f a b =
    count_row P R ∷
    unfit P.labels len ∷
    row 8 layer.Book 0 (nat_le P.factors f) ∷
    row 9 layer.Book (cond (nat_le P.levels a) 0 1) (nat_le P.levels a || nat_le P.levels b) ∷
    ungraded ss

-- over the labels that have level a for factor f
abbrev pub grades_over : Plan → Arithmetic → Ways → (grade : ℕ → ℤ) → (f a : ℕ) → ℤ
grades_over P R W grade f a = sum_at P.labels (level P R W) f a grade

abbrev pub effect_over : Plan → Arithmetic → Ways → (grade : ℕ → ℤ) → (f a b : ℕ) → ℤ
effect_over P R W grade f a b = grades_over P R W grade f a -ℤ grades_over P R W grade f b

-- base and shares are whole numbers, and may be negative
abbrev pub AdditiveOver : Plan → Arithmetic → Ways → (grade : ℕ → ℤ) → (base : ℤ) (share : ℕ → ℕ → ℤ) → Type 0
AdditiveOver P R W grade base share = (i : ℕ) → i < P.labels → grade i ≡ base +ℤ sum_to P.factors (λ j. share j (level P R W i j))

pub record EffectOver (P : Plan) (R : Arithmetic) (W : Ways) (grade : ℕ → ℤ) (f a b : ℕ) (v : ℤ) : Type 0 where
  pub value : v ≡ effect_over P R W grade f a b
  -- at strength 2 or more it is exactly N/s times a's share less b's
  pub shares : 2 ≤ P.strength → (base : ℤ) (share : ℕ → ℕ → ℤ) → AdditiveOver P R W grade base share → v ≡ pos (P.labels / P.levels) *ℤ (share f a -ℤ share f b)
