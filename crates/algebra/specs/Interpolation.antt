-- Interpolation by divided differences: the polynomial that takes given values at given points.
--   slopes  the values less the first one, each divided by its point less the first one
--   rebuild v + (x - x0) q(x), as coefficients
--   interp  the coefficients: through the first point, with the slopes interpolated at the others
-- `inv` is a function that inverts the differences of the points.
-- Assumes nothing.
use Rattle.std.specs.Prelude.{ℕ, List, [], ◌∷◌}
use Rattle.levels.specs.Rings.{Arithmetic}

abbrev pub slopes : Arithmetic → (inv : ℕ → ℕ) (x0 v : ℕ) (xs vs : List ℕ) → List ℕ
slopes R inv x0 v [] vs = []
slopes R inv x0 v (x ∷ xs) [] = []
slopes R inv x0 v (x ∷ xs) (w ∷ ws) = R.product (R.difference w v) (inv (R.difference x x0)) ∷ slopes R inv x0 v xs ws

abbrev pub rebuild : Arithmetic → (x0 v : ℕ) (q : List ℕ) → List ℕ
rebuild R x0 v [] = v ∷ []
rebuild R x0 v (q ∷ qs) = R.difference v (R.product x0 q) ∷ rebuild R x0 q qs

abbrev pub interp : Arithmetic → (inv : ℕ → ℕ) (xs vs : List ℕ) → List ℕ
interp R inv [] vs = []
interp R inv (x ∷ xs) [] = []
interp R inv (x ∷ xs) (v ∷ vs) = rebuild R x v (interp R inv xs (slopes R inv x v xs vs))
