-- The arithmetic for a count: polynomials at 4, 8 and 16, tables at 2, 3, 5, 7, 11 and 13, clock residues at the rest.
--   meaning         the arithmetic that a choice stands for
--   arithmetic_for  the arithmetic for a count
--   Picks           the choice is the one for the count
--   Chosen          what is promised of a choice
-- Assumes nothing.
use Rattle.std.specs.Prelude.{◌≡◌, ℕ, true, false, cond}
use Rattle.levels.specs.Rings.{Arithmetic}
use Rattle.levels.specs.Counts.{listed_serves, binary_serves}
use Rattle.levels.specs.Residues.{residues}
use Rattle.levels.specs.Polynomials.{polynomials}
use Rattle.levels.specs.declared.choice.AnyRing.{AnyRing}
use Rattle.levels.specs.declared.choice.AnyRing.TheVariants.{Clock, Listed, Binary}

-- what each of the three computes
abbrev pub meaning : AnyRing → Arithmetic
meaning (Clock c) = residues c.count
meaning (Listed l) = residues l.count
meaning (Binary p) = polynomials p.count

-- polynomials where they serve the count, and else residues
abbrev pub arithmetic_for : ℕ → Arithmetic
arithmetic_for s = cond (binary_serves s) (polynomials s) (residues s)

-- clock residues only where neither of the others serves the count
abbrev pub Picks : ℕ → AnyRing → Type 0
Picks s (Clock c) = (listed_serves s ≡ false) × (binary_serves s ≡ false)
Picks s (Listed l) = listed_serves s ≡ true
Picks s (Binary p) = binary_serves s ≡ true

-- a choice for s has the count s, stands for the arithmetic for s, and is of the kind for s
pub record Chosen (s : ℕ) (v : AnyRing) : Type 0 where
  pub count : (meaning v).count ≡ s
  pub value : meaning v ≡ arithmetic_for s
  pub picks : Picks s v
