-- The steps between a table and its verdict, for the functions inside.
--   combination  the number that a run's tuple writes in base s, the first column highest
--   read         the same, from the levels of the run alone
--   counted      how many of the first n runs have a combination
--   Begun        columns chosen so far, with those from `low` on left
--   Rising-prop  columns rise in one way at most
--   Rest         columns that continue a choice of which k are chosen, each from `low` on
--   Found        the first way to go on from those chosen that fails
--   Search       what going through the choices that begin with `chosen` finds
-- Assumes nothing.
use Rattle.std.specs.Prelude.{◌≡◌, ℕ, ◌+◌, ◌<◌, ◌≤◌, List, [], ◌∷◌, ◌++◌, map, length, Some, None, Option, nat_eq, slice_index}
use Rattle.std.specs.List.{AllByRecursion, AllByRecursion-prop}
use Rattle.std.specs.Coded.{×_prop, Unit-prop, le_prop}
use Rattle.std.specs.Int.Digits.{number_from_digits}
use Rattle.strength.specs.declared.claim.Claim.{Claim}
use Rattle.strength.specs.declared.claim.Failure.{Failure}
use Rattle.strength.specs.Arrays.{shown, tally}
use Rattle.strength.specs.Verdicts.{Rising, Before, Even, Fails}

-- what a run's levels at the columns write
abbrev pub combination : Claim → List ℕ → List ℕ → ℕ → ℕ
combination Q cells columns run = number_from_digits Q.levels (shown Q cells columns run)

-- the same, from the levels of the run alone
abbrev pub read : Claim → List ℕ → List ℕ → ℕ
read Q row columns = number_from_digits Q.levels (map (slice_index row) columns)

-- how many of the first n runs write m
abbrev pub counted : Claim → List ℕ → List ℕ → ℕ → ℕ → ℕ
counted Q cells columns m n = tally (λ run. nat_eq (combination Q cells columns run) m) n

-- columns chosen so far, with those from `low` on left
pub record Begun (Q : Claim) (chosen : List ℕ) (low : ℕ) : Type 0 where
  pub within : length chosen ≤ Q.strength
  pub room : low ≤ Q.factors
  pub rising : Rising chosen
  pub below : AllByRecursion (λ c. c < low) chosen

-- columns rise in one way at most
pub Rising-prop : (columns : List ℕ) → IsProp (Rising columns)
Rising-prop [] = Unit-prop
Rising-prop (c ∷ cs) = ×_prop (AllByRecursion-prop (λ k. c < k) (λ k. le_prop) cs) (Rising-prop cs)

-- rising columns from `low` on that make a choice of k columns whole
pub record Rest (Q : Claim) (k low : ℕ) (columns : List ℕ) : Type 0 where
  pub many : k + length columns ≡ Q.strength
  pub from : AllByRecursion (λ c. low ≤ c) columns
  pub below : AllByRecursion (λ c. c < Q.factors) columns
  pub rising : Rising columns

-- the first way to go on that fails
pub record Found (Q : Claim) (cells chosen : List ℕ) (low : ℕ) (f : Failure) : Type 0 where
  pub columns : List ℕ
  pub rest : Rest Q (length chosen) low columns
  pub fails : Fails Q cells (chosen ++ columns) f
  pub earlier : (others : List ℕ) → Rest Q (length chosen) low others → Before others columns → Even Q cells (chosen ++ others)

-- none fails, or the first that does
abbrev pub Search : Claim → List ℕ → List ℕ → ℕ → Option Failure → Type 0
Search Q cells chosen low None = (columns : List ℕ) → Rest Q (length chosen) low columns → Even Q cells (chosen ++ columns)
Search Q cells chosen low (Some f) = Found Q cells chosen low f
