-- Where a function inverts.
--   Divides  inv answers an inverse for every code but 0
--   Apart    inv answers an inverse for the difference of any two of the points
-- Assumes nothing.
use Rattle.std.specs.Prelude.{◌≡◌, ℕ, ◌<◌, List, [], ◌∷◌}
use Rattle.std.specs.List.{AllByRecursion}
use Rattle.levels.specs.Rings.{Arithmetic}

abbrev pub Divides : Arithmetic → (ℕ → ℕ) → Type 0
Divides R inv = (a : ℕ) → 0 < a → a < R.count → R.product a (inv a) ≡ R.one

abbrev pub Apart : Arithmetic → (ℕ → ℕ) → List ℕ → Type 0
Apart R inv [] = Unit {0}
Apart R inv (x ∷ xs) = AllByRecursion (λ y. R.product (R.difference y x) (inv (R.difference y x)) ≡ R.one) xs × Apart R inv xs
