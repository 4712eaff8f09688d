-- What names a label: some factors with a level each, or one factor with a fine setting.
--   Chosen     t wishes: different factors of the strip, each with a level
--   Named      i is the one label that has every wished level
--   Located    i is the one label with this fine setting for this factor
--   Names      any t different factors with a level each name exactly one label
--   NamesFine  a factor and a fine setting name exactly one label
--   Exact      both: the strip is an orthogonal array of strength t, and each factor has each fine setting once
-- Assumes nothing.
use Rattle.std.specs.Prelude.{◌≡◌, ℕ, ◌<◌, ◌≢◌, List, [], ◌∷◌, length}
use Rattle.std.specs.List.{AllByRecursion}
use Rattle.levels.specs.Rings.{Arithmetic}
use Rattle.shuffle.specs.Ways.{Ways}
use Rattle.plan.specs.declared.shape.Plan.{Plan}
use Rattle.strip.specs.declared.wish.Wish.{Wish}
use Rattle.strip.specs.Labels.{level, fine}

-- no factor is wished for twice
abbrev pub Apart : List Wish → Type 0
Apart [] = Unit {0}
Apart (w ∷ ws) = AllByRecursion (λ v. v.factor ≢ w.factor) ws × Apart ws

pub record Chosen (P : Plan) (ws : List Wish) : Type 0 where
  pub sized : length ws ≡ P.strength
  pub factors : AllByRecursion (λ w. w.factor < P.factors) ws
  pub levels : AllByRecursion (λ w. w.level < P.levels) ws
  pub apart : Apart ws

-- label i has every wished level
abbrev pub Meets : Plan → Arithmetic → Ways → List Wish → ℕ → Type 0
Meets P R W ws i = AllByRecursion (λ w. level P R W i w.factor ≡ w.level) ws

pub record Named (P : Plan) (R : Arithmetic) (W : Ways) (ws : List Wish) (i : ℕ) : Type 0 where
  pub below : i < P.labels
  pub meets : Meets P R W ws i
  pub alone : (k : ℕ) → k < P.labels → Meets P R W ws k → k ≡ i

pub record Located (P : Plan) (R : Arithmetic) (W : Ways) (j f i : ℕ) : Type 0 where
  pub below : i < P.labels
  pub meets : fine P R W i j ≡ f
  pub alone : (k : ℕ) → k < P.labels → fine P R W k j ≡ f → k ≡ i

abbrev pub Names : Plan → Arithmetic → Ways → Type 0
Names P R W = (ws : List Wish) → Chosen P ws → (i : ℕ) × Named P R W ws i

abbrev pub NamesFine : Plan → Arithmetic → Ways → Type 0
NamesFine P R W = (j f : ℕ) → j < P.factors → f < P.labels → (i : ℕ) × Located P R W j f i

pub record Exact (P : Plan) (R : Arithmetic) (W : Ways) : Type 0 where
  pub names : Names P R W
  pub fine : NamesFine P R W
