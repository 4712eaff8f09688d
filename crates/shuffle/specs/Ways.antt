-- What a shuffler is as a value, and what holds of every one.
--
--   key, n, i    a 32-bit key, a size and a number
--   Ways         the way out and the way back, each a function of key, size and number
--   ShuffleLaws  for each key and size the two ways permute the numbers below the size and undo each other
--
-- Assumes nothing.
use Rattle.std.specs.Prelude.{◌≡◌, ℕ, ◌^◌, ◌<◌, ◌≤◌}

-- a way out and a way back, of a key, a size and a number in that order
pub record Ways : Type 0 where
  pub out : ℕ → ℕ → ℕ → ℕ
  pub back : ℕ → ℕ → ℕ → ℕ

-- what a shuffler owes for every key of 32 bits, every size and every number
pub record ShuffleLaws (w : Ways) : Type 0 where
  -- a number not below the size comes back as itself
  pub out_self : (key n i : ℕ) → key < 2 ^ 32 → n ≤ i → w.out key n i ≡ i
  pub back_self : (key n i : ℕ) → key < 2 ^ 32 → n ≤ i → w.back key n i ≡ i
  -- as does any number for a size above 65,536
  pub out_large : (key n i : ℕ) → key < 2 ^ 32 → 65536 < n → w.out key n i ≡ i
  pub back_large : (key n i : ℕ) → key < 2 ^ 32 → 65536 < n → w.back key n i ≡ i
  -- a number below the size goes to a number below the size
  pub out_below : (key n i : ℕ) → key < 2 ^ 32 → i < n → w.out key n i < n
  pub back_below : (key n i : ℕ) → key < 2 ^ 32 → i < n → w.back key n i < n
  -- each way undoes the other
  pub back_out : (key n i : ℕ) → key < 2 ^ 32 → w.back key n (w.out key n i) ≡ i
  pub out_back : (key n i : ℕ) → key < 2 ^ 32 → w.out key n (w.back key n i) ≡ i
