-- What the checker answers.
--   Choice        t columns in rising order
--   Before        dictionary order of choices
--   Passes        a tuple occurs as often as it should at some columns
--   Even          every tuple does
--   Fails         the lowest tuple that does not, with its columns, its combination and its count
--   FirstFailure  that, at the first choice of columns that is not even
--   Right         the right verdict
-- Assumes nothing.
use Rattle.std.specs.Prelude.{◌≡◌, ℕ, ◌*◌, ◌/◌, ◌^◌, ◌<◌, ◌⊎◌, List, [], ◌∷◌, length, sum_by}
use Rattle.std.specs.List.{AllByRecursion}
use Rattle.std.specs.Int.Digits.{number_from_digits}
use Rattle.strength.specs.declared.claim.Claim.{Claim}
use Rattle.strength.specs.declared.claim.Failure.{Failure}
use Rattle.strength.specs.declared.claim.Verdict.{Verdict}
use Rattle.strength.specs.declared.claim.Verdict.TheVariants.{Yes, No}
use Rattle.strength.specs.Arrays.{occurrences, Tuple, OrthogonalArray}

-- each is below those after it
abbrev pub Rising : List ℕ → Type 0
Rising [] = Unit {0}
Rising (c ∷ cs) = AllByRecursion (λ k. c < k) cs × Rising cs

-- as many columns as the strength, lowest first: each set of columns is one choice
pub record Choice (Q : Claim) (columns : List ℕ) : Type 0 where
  pub many : length columns ≡ Q.strength
  pub below : AllByRecursion (λ c. c < Q.factors) columns
  pub rising : Rising columns

-- the first column that differs is lower
abbrev pub Before : List ℕ → List ℕ → Type 0
Before [] ds = ⊥
Before (c ∷ cs) [] = ⊥
Before (c ∷ cs) (d ∷ ds) = (c < d) ⊎ ((c ≡ d) × Before cs ds)

-- how often the tuple occurs, times the number of tuples, is the number of runs
abbrev pub Passes : Claim → List ℕ → List ℕ → List ℕ → Type 0
Passes Q cells columns tuple = occurrences Q cells columns tuple * Q.levels ^ Q.strength ≡ Q.runs

-- every tuple of levels passes at these columns
abbrev pub Even : Claim → List ℕ → List ℕ → Type 0
Even Q cells columns = (tuple : List ℕ) → Tuple Q tuple → Passes Q cells columns tuple

-- At these columns a tuple fails and no lower one does. The failure names the columns as one number with bit c set for
-- column c, the tuple as it reads in base s with the first column highest, and how often it occurs.
pub record Fails (Q : Claim) (cells columns : List ℕ) (f : Failure) : Type 0 where
  pub tuple : List ℕ
  pub levels : Tuple Q tuple
  pub fails : Passes Q cells columns tuple → ⊥
  pub lowest : (other : List ℕ) → Tuple Q other → number_from_digits Q.levels other < number_from_digits Q.levels tuple → Passes Q cells columns other
  pub mask : f.columns ≡ sum_by (λ c. 2 ^ c) columns
  pub combination : f.combination ≡ number_from_digits Q.levels tuple
  pub count : f.count ≡ occurrences Q cells columns tuple

-- no earlier choice fails
pub record FirstFailure (Q : Claim) (cells : List ℕ) (f : Failure) : Type 0 where
  pub columns : List ℕ
  pub choice : Choice Q columns
  pub fails : Fails Q cells columns f
  pub earlier : (others : List ℕ) → Choice Q others → Before others columns → Even Q cells others

-- Yes exactly to orthogonal arrays, with their index; else the first failure.
abbrev pub Right : Claim → List ℕ → Verdict → Type 0
Right Q cells (Yes index) = (index ≡ Q.runs / Q.levels ^ Q.strength) × OrthogonalArray Q cells index
Right Q cells (No f) = FirstFailure Q cells f × ((index : ℕ) → OrthogonalArray Q cells index → ⊥)
