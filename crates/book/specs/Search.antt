-- Going upward through labels.
--   first       the first of m labels from i on that stands so
--   lowest      the lowest label that stands so
--   some        whether a label stands so
--   each        whether every label stands so
--   Sooner      a label is met before another, going upward from the cursor and from the last on to 0
--   stop        where a take stops: the first waiting or torn label from the cursor upward, from the last on to 0, once round
--   FirstStop   what that label is: it waits or is torn, and none met sooner does
-- Assumes nothing.
use Rattle.std.specs.Prelude.{◌≡◌, ℕ, zero, suc, ◌+◌, ◌-◌, ◌<◌, ◌≤◌, Bool, true, false, cond, not, ◌⊎◌, List, length, is_some, Some, None, Option, slice_index_or}
use Rattle.book.specs.declared.standing.Standing.{Standing}
use Rattle.book.specs.declared.standing.Standing.TheVariants.{Waiting}
use Rattle.book.specs.Standings.{stops}

abbrev pub first : (Standing → Bool) → List Standing → (i m : ℕ) → Option ℕ
first so ss i zero = None
first so ss i (suc m) = cond (so (slice_index_or ss i Waiting)) (Some i) (first so ss (i + 1) m)

abbrev pub lowest : (Standing → Bool) → List Standing → Option ℕ
lowest so ss = first so ss 0 (length ss)

abbrev pub some : (Standing → Bool) → List Standing → Bool
some so ss = is_some (lowest so ss)

abbrev pub each : (Standing → Bool) → List Standing → Bool
each so ss = not (some (λ s. not (so s)) ss)

abbrev pub or_else : Option ℕ → Option ℕ → Option ℕ
or_else (Some k) o = Some k
or_else None o = o

abbrev pub stop : ℕ → List Standing → Option ℕ
stop c ss = or_else (first stops ss c (length ss - c)) (first stops ss 0 c)

-- from c, j comes before k
abbrev pub Sooner : (c j k : ℕ) → Type 0
Sooner c j k = ((c ≤ j) × (j < k)) ⊎ ((k < c) × ((c ≤ j) ⊎ (j < k)))

pub record FirstStop (c : ℕ) (ss : List Standing) (k : ℕ) : Type 0 where
  pub within : k < length ss
  pub here : stops (slice_index_or ss k Waiting) ≡ true
  pub sooner : (j : ℕ) → j < length ss → Sooner c j k → stops (slice_index_or ss j Waiting) ≡ false
