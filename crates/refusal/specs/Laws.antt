-- What the reading of the table comes to, whatever its rows.
--   Rising  the numbers of the rows rise
--   Holds   some row gives this slip and holds
--   Given   that, and no row of a smaller number holds
-- Assumes nothing.
use Rattle.std.specs.Prelude.{◌≡◌, ◌<◌, true, false, ◌⊎◌, List, [], ◌∷◌, Some, None}
use Rattle.std.specs.List.{AllByRecursion}
use Rattle.refusal.specs.declared.Slip.{Slip}
use Rattle.refusal.specs.Table.{Row, refusal}

abbrev pub Rising : List Row → Type 0
Rising [] = Unit {0}
Rising (r ∷ rs) = AllByRecursion (λ q. r.slip.number < q.slip.number) rs × Rising rs

abbrev pub Holds : Slip → List Row → Type 0
Holds s [] = ⊥
Holds s (r ∷ rs) = ((r.slip ≡ s) × (r.holds ≡ true)) ⊎ Holds s rs

pub record Given (rows : List Row) (s : Slip) : Type 0 where
  pub holds : Holds s rows
  pub smallest : AllByRecursion (λ q. q.slip.number < s.number → q.holds ≡ false) rows

-- a slip is given exactly where its row holds and no smaller row does
pub record FirstRow : Type 0 where
  pub only : (rows : List Row) → Rising rows → (s : Slip) → refusal rows ≡ Some s → Given rows s
  pub always : (rows : List Row) → Rising rows → (s : Slip) → Given rows s → refusal rows ≡ Some s

-- none is given exactly where no row holds
pub record NoRow : Type 0 where
  pub only : (rows : List Row) → refusal rows ≡ None → AllByRecursion (λ q. q.holds ≡ false) rows
  pub always : (rows : List Row) → AllByRecursion (λ q. q.holds ≡ false) rows → refusal rows ≡ None
