-- Polynomials over a level arithmetic, as lists of coefficients, lowest first.
--   Codes  each number of the list is a code
--   eval   the value at x: c0 + x (c1 + x (c2 + ..)), which is the sum of c(l) times x to the power l
-- Assumes nothing.
use Rattle.std.specs.Prelude.{ℕ, ◌<◌, List, [], ◌∷◌}
use Rattle.std.specs.List.{AllByRecursion}
use Rattle.levels.specs.Rings.{Arithmetic}

abbrev pub Codes : Arithmetic → List ℕ → Type 0
Codes R xs = AllByRecursion (λ x. x < R.count) xs

abbrev pub eval : Arithmetic → List ℕ → ℕ → ℕ
eval R [] x = 0
eval R (c ∷ cs) x = R.sum c (R.product x (eval R cs x))
