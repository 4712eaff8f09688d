-- The two ways that a keyed permutation of the numbers below each size makes, and those of the turn.
--
--   within    a function of key, size and number, kept to numbers below the size and sizes up to 65,536
--   preimage  the number below n that a function sends to i
--   ways_by   out by a function, and back by its preimages
--   turn      i plus the key, an exact sum, modulo the size
--
-- Assumes nothing.
use Rattle.std.specs.Prelude.{ℕ, zero, suc, ◌+◌, ◌%◌, cond, ◌&&◌, ◌==◌, nat_le, nat_lt}
use Rattle.shuffle.specs.Ways.{Ways}

-- a number not below the size, or at a size above 65,536, is its own image
abbrev pub within : (ℕ → ℕ → ℕ → ℕ) → ℕ → ℕ → ℕ → ℕ
within f key n i = cond (nat_lt i n && nat_le n 65536) (f key n i) i

-- the number below n that f sends to i (0 if there is none; the largest if there are several)
unfoldable pub preimage : (ℕ → ℕ) → ℕ → ℕ → ℕ
preimage f zero i = zero
preimage f (suc n) i = cond (f n == i) n (preimage f n i)

-- out by f and back by its preimages
abbrev pub ways_by : (ℕ → ℕ → ℕ → ℕ) → Ways
ways_by f = record { out = within f; back = within (λ key n i. preimage (f key n) n i) }

-- i + key, an exact sum, modulo n
abbrev pub turn : ℕ → ℕ → ℕ → ℕ
turn key n i = (i + key) % n

-- the turn as a shuffler
abbrev pub turn_ways : Ways
turn_ways = ways_by turn
