-- The refusal table as a call reads it: its rows in rising order of number, of which the first that holds is given.
--   Row      one line of the table at one call: the slip that it would give, and whether its condition holds
--   refusal  the slip of the first row that holds, or none
--   first    the first index at which something holds, for rows that name it as their place
--   Answers  what a call with these rows answers
-- Assumes nothing.
use Rattle.std.specs.Prelude.{◌≡◌, ℕ, zero, suc, ◌<◌, Bool, cond, List, [], ◌∷◌, Some, None, Ok, Err, Option, Result, nat_lt}
use Rattle.refusal.specs.declared.Layer.{Layer}
use Rattle.refusal.specs.declared.Slip.{Slip}

pub record Row : Type 0 where
  pub slip : Slip
  pub holds : Bool

-- a row by its number, layer, place and condition
abbrev pub row : ℕ → Layer → ℕ → Bool → Row
row number layer place holds = record { slip = record { number = number; layer = layer; place = place }; holds = holds }

-- the first k below n at which f holds, or n where there is none
abbrev pub first : (ℕ → Bool) → ℕ → ℕ
first f zero = zero
first f (suc n) = cond (nat_lt (first f n) n) (first f n) (cond (f n) n (suc n))

-- an answer of a search upward below n: the first place, or none
abbrev pub Sought : (ℕ → Bool) → ℕ → Option ℕ → Type 0
Sought f n None = first f n ≡ n
Sought f n (Some k) = (k < n) × (first f n ≡ k)

-- a row that holds where f holds below n, and whose place is the first such
abbrev pub row_at : ℕ → Layer → (ℕ → Bool) → ℕ → Row
row_at number layer f n = row number layer (first f n) (nat_lt (first f n) n)

abbrev pub refusal : List Row → Option Slip
refusal [] = None
refusal (r ∷ rs) = cond r.holds (Some r.slip) (refusal rs)

-- Where a row holds, the answer is the fault that tells the first such row's slip; else it is a value, and the right one.
abbrev pub Answers : {V E : Type 0} → (E → Slip) → List Row → (V → Type 0) → Result V E → Type 0
Answers tells rows right (Ok v) = (refusal rows ≡ None) × right v
Answers tells rows right (Err e) = refusal rows ≡ Some (tells e)
