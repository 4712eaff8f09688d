-- The arithmetic of remainders by the count.
-- Assumes nothing.
use Rattle.std.specs.Prelude.{ℕ, ◌+◌, ◌-◌, ◌*◌, ◌%◌}
use Rattle.levels.specs.Rings.{Arithmetic}

-- the difference adds what b lacks of the next multiple of s
abbrev pub residues : ℕ → Arithmetic
residues s = record {
  count = s;
  one = 1;
  sum = λ a b. (a + b) % s;
  difference = λ a b. (a + (s - b % s)) % s;
  product = λ a b. a * b % s;
}
