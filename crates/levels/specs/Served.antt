-- What it says of a count that an arithmetic serves it.
-- Assumes nothing.
use Rattle.std.specs.Prelude.{◌≡◌, ℕ, ◌≤◌, true, nat_le}
use Rattle.std.proofs.lemmas.Bool.{and_parts, leb-true}
use Rattle.levels.specs.Counts.{clock_serves, listed_counts, listed_serves}
use Rattle.levels.specs.Below.{T_true, at_of}

pub clock_low : (s : ℕ) → clock_serves s ≡ true → 2 ≤ s
clock_low s h = leb-true 2 s (and_parts (nat_le 2 s) (nat_le s 16) h).0

pub clock_high : (s : ℕ) → clock_serves s ≡ true → s ≤ 16
clock_high s h = leb-true s 16 (and_parts (nat_le 2 s) (nat_le s 16) h).1

-- a listed count is one of a clock too
pub listed_clock : (s : ℕ) → listed_serves s ≡ true → clock_serves s ≡ true
listed_clock s h = T_true (clock_serves s) (at_of listed_counts clock_serves tt s h)
