-- When a table is not checked, and what an accepted one keeps.
--   check_rows  the refusal table's rows at a check, with so many counters
--   Accepted    what is known of the numbers and the cells where none holds
-- Assumes nothing.
use Rattle.std.specs.Prelude.{◌≡◌, ℕ, ◌*◌, ◌^◌, ◌<◌, ◌≤◌, not, ◌||◌, List, [], ◌∷◌, length, ◌==◌, nat_le, nat_lt, slice_index}
use Rattle.std.specs.List.{AllByRecursion}
use Rattle.refusal.specs.declared.Layer.TheVariants as layer
use Rattle.refusal.specs.Table.{Row, row, row_at}
use Rattle.strength.specs.declared.claim.Claim.{Claim}

-- the rows in rising order of number
abbrev pub check_rows : Claim → List ℕ → ℕ → List Row
check_rows Q cells counters =
    row 1 layer.Checker 0 (nat_lt Q.levels 2 || nat_lt 16 Q.levels) ∷
    row 2 layer.Checker 0 (Q.factors == 0 || nat_lt 17 Q.factors) ∷
    row 3 layer.Checker 0 (Q.strength == 0 || nat_lt Q.factors Q.strength) ∷
    row 5 layer.Checker 0 (nat_lt 65536 (Q.levels ^ Q.strength) || Q.runs == 0 || nat_lt 65536 Q.runs) ∷
    row 6 layer.Checker 0 (not (length cells == Q.runs * Q.factors) || not (counters == Q.levels ^ Q.strength)) ∷
    row_at 9 layer.Checker (λ k. nat_le Q.levels (slice_index cells k)) (length cells) ∷
    []

-- what every later step relies on
pub record Accepted (Q : Claim) (cells : List ℕ) : Type 0 where
  pub several : 2 ≤ Q.levels
  pub few : Q.levels ≤ 16
  pub narrow : Q.factors ≤ 17
  pub strong : 1 ≤ Q.strength
  pub meets : Q.strength ≤ Q.factors
  pub short : Q.runs ≤ 65536
  pub sized : length cells ≡ Q.runs * Q.factors
  pub small : Q.levels ^ Q.strength ≤ 65536
  pub levels : AllByRecursion (λ l. l < Q.levels) cells
