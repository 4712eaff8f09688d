-- What an orthogonal array is.
--   Q, cells          the claimed numbers of the array; the levels of its cells, run after run
--   at                the level of a run at a column
--   shown             the tuple of levels that a run has at some columns
--   tally             how many numbers below n pass a test
--   occurrences       how many runs have a tuple at some columns
--   Columns, Tuple    t different columns; t levels
--   OrthogonalArray   every tuple of levels occurs equally often at every t different columns
-- Assumes nothing.
use Rattle.std.specs.Prelude.{◌≡◌, ℕ, zero, suc, ◌+◌, ◌*◌, ◌<◌, Bool, true, false, cond, ◌&&◌, ◌≢◌, List, [], ◌∷◌, map, length, ◌==◌, slice_index}
use Rattle.std.specs.List.{AllByRecursion}
use Rattle.strength.specs.declared.claim.Claim.{Claim}

-- the cell of run i at column j stands at i times the factors, plus j
abbrev pub at : Claim → List ℕ → ℕ → ℕ → ℕ
at Q cells run column = slice_index cells (run * Q.factors + column)

-- the levels of a run at these columns, in the order of the columns
abbrev pub shown : Claim → List ℕ → List ℕ → ℕ → List ℕ
shown Q cells columns run = map (at Q cells run) columns

-- whether two tuples are the same
abbrev pub same : List ℕ → List ℕ → Bool
same [] [] = true
same [] (y ∷ ys) = false
same (x ∷ xs) [] = false
same (x ∷ xs) (y ∷ ys) = x == y && same xs ys

-- how many of 0 to n - 1 pass the test
abbrev pub tally : (ℕ → Bool) → ℕ → ℕ
tally test zero = 0
tally test (suc n) = tally test n + cond (test n) 1 0

-- in how many runs the tuple stands at these columns
unfoldable pub occurrences : Claim → List ℕ → List ℕ → List ℕ → ℕ
occurrences Q cells columns tuple = tally (λ run. same (shown Q cells columns run) tuple) Q.runs

-- no two are the same
abbrev pub Different : List ℕ → Type 0
Different [] = Unit {0}
Different (c ∷ cs) = AllByRecursion (λ k. c ≢ k) cs × Different cs

-- as many different columns as the strength, in any order
pub record Columns (Q : Claim) (columns : List ℕ) : Type 0 where
  pub many : length columns ≡ Q.strength
  pub below : AllByRecursion (λ c. c < Q.factors) columns
  pub different : Different columns

-- as many levels
pub record Tuple (Q : Claim) (tuple : List ℕ) : Type 0 where
  pub many : length tuple ≡ Q.strength
  pub below : AllByRecursion (λ l. l < Q.levels) tuple

-- the table has a cell for each run and factor, the cells are levels, and at any t different columns each tuple of
-- levels occurs in as many runs as the index says
pub record OrthogonalArray (Q : Claim) (cells : List ℕ) (index : ℕ) : Type 0 where
  pub sized : length cells ≡ Q.runs * Q.factors
  pub levels : AllByRecursion (λ l. l < Q.levels) cells
  pub balanced : (columns tuple : List ℕ) → Columns Q columns → Tuple Q tuple → occurrences Q cells columns tuple ≡ index
