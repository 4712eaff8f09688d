-- The hash: the relation that says what it is, and the function that computes it.
--
--   Smallest  the mask, by the property that names it
--   Hashed    r is the hash of i: a round, rounds until below n, and a turn
--   mask      the mask, computed
--   scramble  the rounds, computed
--   hash      the hash, computed; it is the r of `Hashed` at every 32-bit key, at each i below an n up to 65,536
--
-- Assumes nothing.
use Rattle.std.specs.Prelude.{◌≡◌, ℕ, ◌+◌, ◌-◌, ◌%◌, ◌^◌, ◌≤◌}
use Rattle.std.specs.Int.Count.{count_leading_zeros}
use Rattle.shuffle.specs.Ways.{Ways}
use Rattle.shuffle.specs.Keyed.{turn, ways_by}
use Rattle.shuffle.specs.Round.{round}
use Rattle.shuffle.specs.Walk.{First, until}

-- w is the smallest number of the form 2^k - 1 that is not below m
pub record Smallest (m w : ℕ) : Type 0 where
  pub form : (k : ℕ) × (w ≡ 2 ^ k - 1)
  pub covers : m ≤ w
  pub least : (k : ℕ) → m ≤ 2 ^ k - 1 → w ≤ 2 ^ k - 1

-- r is the hash of i: with the mask w of n, rounds are repeated until i has come to a y below n,
-- and r is the remainder of y + key, an exact sum, by n
pub record Hashed (key n i r : ℕ) : Type 0 where
  pub w : ℕ
  pub smallest : Smallest (n - 1) w
  pub y : ℕ
  pub first : First (round w key) n (round w key i) y
  pub value : r ≡ (y + key) % n

-- as many ones as n - 1, a 32-bit number, has binary digits
unfoldable pub mask : ℕ → ℕ
mask n = 2 ^ (32 - count_leading_zeros 32 (n - 1)) - 1

-- rounds, at least one, until below n; no walk takes more than 65,536 steps
unfoldable pub scramble : ℕ → ℕ → ℕ → ℕ
scramble key n i = until (round (mask n) key) n 65536 (round (mask n) key i)

-- the rounds, and then the turn
abbrev pub hash : ℕ → ℕ → ℕ → ℕ
hash key n i = turn key n (scramble key n i)

-- the hash as a shuffler
abbrev pub hash_ways : Ways
hash_ways = ways_by hash
