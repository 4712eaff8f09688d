-- Numbers in base s.
--   digits  the t lowest digits of n, lowest first
--   number  the number that has these digits
-- Assumes nothing.
use Rattle.std.specs.Prelude.{ℕ, zero, suc, ◌+◌, ◌*◌, ◌/◌, ◌%◌, List, [], ◌∷◌}

abbrev pub digits : (s t n : ℕ) → List ℕ
digits s zero n = []
digits s (suc t) n = n % s ∷ digits s t (n / s)

abbrev pub number : (s : ℕ) → List ℕ → ℕ
number s [] = 0
number s (c ∷ cs) = c + s * number s cs
