-- Where the rows of each count stand in a stored table: after those of the smaller counts.
--   before  how many rows the smaller counts have, one for each of their codes
--   row_of  the row of a number
-- Assumes nothing.
use Rattle.std.specs.Prelude.{ℕ, ◌+◌, ◌%◌, cond, List, [], ◌∷◌, nat_lt}
use Rattle.levels.specs.Counts.{listed_counts}

-- of the counts, those smaller than s, each as often as it has codes
abbrev pub before : List ℕ → ℕ → ℕ
before [] s = 0
before (n ∷ ns) s = cond (nat_lt n s) n 0 + before ns s

-- at count s the rows of the smaller counts come first
abbrev pub row_of : ℕ → ℕ → ℕ
row_of s a = before listed_counts s + a % s
