-- The counts that each arithmetic serves, and the refusal of any other.
--   clock_serves, listed_serves, binary_serves  the arithmetic can be made with this count
--   unserved                                    the one row of the refusal table at the making of an arithmetic
-- Assumes nothing.
use Rattle.std.specs.Prelude.{ℕ, Bool, false, not, ◌&&◌, ◌||◌, List, [], ◌∷◌, ◌==◌, nat_le}
use Rattle.refusal.specs.Table.{Row, row}
use Rattle.refusal.specs.declared.Layer.TheVariants.{Arithmetic}

-- s is one of the counts
abbrev pub among : List ℕ → ℕ → Bool
among [] s = false
among (n ∷ ns) s = s == n || among ns s

-- residues computed modulo the count: 2 to 16
abbrev pub clock_serves : ℕ → Bool
clock_serves s = nat_le 2 s && nat_le s 16

-- residues read from tables: these counts, which are prime
abbrev pub listed_counts : List ℕ
listed_counts = 2 ∷ 3 ∷ 5 ∷ 7 ∷ 11 ∷ 13 ∷ []

abbrev pub listed_serves : ℕ → Bool
listed_serves = among listed_counts

-- polynomials with coefficients modulo 2: powers of 2
abbrev pub binary_counts : List ℕ
binary_counts = 4 ∷ 8 ∷ 16 ∷ []

abbrev pub binary_serves : ℕ → Bool
binary_serves = among binary_counts

-- number 1, where an arithmetic does not serve the count
abbrev pub unserved : Bool → List Row
unserved serves = row 1 Arithmetic 0 (not serves) ∷ []
