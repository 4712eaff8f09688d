-- A step repeated until the number is below n.
--
--   Walk   the first iterate below n, with the count of the steps to it
--   First  the same, without the count
--   until  the same, as a function that computes
--
-- Assumes nothing.
use Rattle.std.specs.Prelude.{ℕ, zero, suc, ◌<◌, ◌≤◌, cond, nat_lt}

-- y is the first of x, f x, f (f x), .. that is below n, and it comes after t steps
pub data Walk (f : ℕ → ℕ) (n : ℕ) : ℕ → ℕ → ℕ → Type 0 where
  here : {x : ℕ} → x < n → Walk f n zero x x
  more : {t x y : ℕ} → n ≤ x → Walk f n t (f x) y → Walk f n (suc t) x y

-- y is the first of x, f x, f (f x), .. that is below n
abbrev pub First : (ℕ → ℕ) → ℕ → ℕ → ℕ → Type 0
First f n x y = (t : ℕ) × Walk f n t x y

-- the first of x, f x, f (f x), .. that is below n, if it comes after at most `limit` steps
unfoldable pub until : (ℕ → ℕ) → ℕ → ℕ → ℕ → ℕ
until f n zero x = x
until f n (suc limit) x = cond (nat_lt x n) x (until f n limit (f x))
