-- Finite sums of integers.
--   sum_to   the sum of h 0 to h (n - 1)
--   only     a term that counts only where c is a
--   Inverse  a permutation of the numbers below n, with its inverse
-- Assumes nothing.
use Rattle.std.specs.Prelude.{◌≡◌, ℕ, zero, suc, ◌<◌, cond, ℤ, pos, ◌+ℤ◌, ◌==◌}

-- h 0 + .. + h (n - 1)
abbrev pub sum_to : ℕ → (ℕ → ℤ) → ℤ
sum_to zero h = pos 0
sum_to (suc n) h = sum_to n h +ℤ h n

-- x where c is a, and 0 elsewhere
abbrev pub only : ℕ → ℕ → ℤ → ℤ
only c a x = cond (c == a) x (pos 0)

-- σ is a bijection of the numbers below n, and τ its inverse
pub record Inverse (n : ℕ) (σ τ : ℕ → ℕ) : Type 0 where
  pub into : (i : ℕ) → i < n → σ i < n
  pub back : (k : ℕ) → k < n → τ k < n
  pub left : (i : ℕ) → i < n → τ (σ i) ≡ i
  pub right : (k : ℕ) → k < n → σ (τ k) ≡ k
