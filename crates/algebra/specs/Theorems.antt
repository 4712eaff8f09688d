-- What is claimed of polynomials and of digits.
--   Takes  p has as many coefficients as there are points, all of them codes, and takes these values there
-- Assumes nothing.
use Rattle.std.specs.Prelude.{◌≡◌, ℕ, ◌^◌, ◌<◌, List, map, length}
use Rattle.std.specs.List.{AllByRecursion}
use Rattle.levels.specs.Rings.{Arithmetic, RingLaws}
use Rattle.algebra.specs.Polynomials.{Codes, eval}
use Rattle.algebra.specs.Units.{Apart}
use Rattle.algebra.specs.Interpolation.{interp}
use Rattle.algebra.specs.Digits.{digits, number}

pub record Takes (R : Arithmetic) (xs vs p : List ℕ) : Type 0 where
  pub sized : length p ≡ length xs
  pub codes : Codes R p
  pub values : map (eval R p) xs ≡ vs

-- at points that are apart there is one such p, the interpolated one, and no other
pub record Interpolates : Type 0 where
  pub takes : (R : Arithmetic) → RingLaws R → (inv : ℕ → ℕ) (xs vs : List ℕ) → Codes R xs → Codes R vs → Apart R inv xs → length xs ≡ length vs → Takes R xs vs (interp R inv xs vs)
  pub alone : (R : Arithmetic) → RingLaws R → (inv : ℕ → ℕ) (xs vs : List ℕ) → Codes R xs → Apart R inv xs → (p q : List ℕ) → Takes R xs vs p → Takes R xs vs q → p ≡ q

-- t digits below s tell a number below s^t, and every such number has them
pub record Counts : Type 0 where
  pub sized : (s t n : ℕ) → length (digits s t n) ≡ t
  pub codes : (s t n : ℕ) → 0 < s → AllByRecursion (λ c. c < s) (digits s t n)
  pub back : (s t n : ℕ) → 0 < s → n < s ^ t → number s (digits s t n) ≡ n
  pub below : (s : ℕ) → 0 < s → (cs : List ℕ) → AllByRecursion (λ c. c < s) cs → number s cs < s ^ length cs
  pub forth : (s : ℕ) → 0 < s → (cs : List ℕ) → AllByRecursion (λ c. c < s) cs → digits s (length cs) (number s cs) ≡ cs
