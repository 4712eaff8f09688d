-- Level arithmetic as values: what an arithmetic is, the laws that it keeps, and what an inverse promises.
--   code        a number below the count
--   Arithmetic  a count, a code called one, and a fixed function to codes for each operation
--   RingLaws    the arithmetic is a commutative ring on the codes, at any numbers reduced by the count
--   inverse     the code whose product with a number is one, or 0 where there is none
--   Inverts     what an inverse promises at one number
-- Assumes nothing.
use Rattle.std.specs.Prelude.{◌≡◌, ℕ, zero, suc, ◌%◌, ◌<◌, ◌≤◌, cond, ◌==◌}

-- the operations are functions of any two numbers
pub record Arithmetic : Type 0 where
  pub count : ℕ
  pub one : ℕ
  pub sum : ℕ → ℕ → ℕ
  pub difference : ℕ → ℕ → ℕ
  pub product : ℕ → ℕ → ℕ

-- a commutative ring with one, on the codes
pub record RingLaws (R : Arithmetic) : Type 0 where
  -- the count is 2 to 16, and one is a code other than 0
  pub low : 2 ≤ R.count
  pub high : R.count ≤ 16
  pub one_low : 0 < R.one
  pub one_code : R.one < R.count
  -- results are codes
  pub add_code : (a b : ℕ) → R.sum a b < R.count
  pub sub_code : (a b : ℕ) → R.difference a b < R.count
  pub mul_code : (a b : ℕ) → R.product a b < R.count
  -- a number not below the count is first replaced by its remainder
  pub add-mod : (a b : ℕ) → R.sum a b ≡ R.sum (a % R.count) (b % R.count)
  pub sub_mod : (a b : ℕ) → R.difference a b ≡ R.difference (a % R.count) (b % R.count)
  pub mul_mod : (a b : ℕ) → R.product a b ≡ R.product (a % R.count) (b % R.count)
  -- sum and product are associative and commutative, and product distributes over sum
  pub add_assoc : (a b c : ℕ) → R.sum (R.sum a b) c ≡ R.sum a (R.sum b c)
  pub add_comm : (a b : ℕ) → R.sum a b ≡ R.sum b a
  pub mul_assoc : (a b c : ℕ) → R.product (R.product a b) c ≡ R.product a (R.product b c)
  pub mul_comm : (a b : ℕ) → R.product a b ≡ R.product b a
  pub mul_add : (a b c : ℕ) → R.product a (R.sum b c) ≡ R.sum (R.product a b) (R.product a c)
  -- adding 0 and multiplying by one change no code, and the difference of a and b, plus b, is a
  pub add-zero : (a : ℕ) → a < R.count → R.sum a 0 ≡ a
  pub mul_one : (a : ℕ) → a < R.count → R.product a R.one ≡ a
  pub sub_add : (a b : ℕ) → a < R.count → R.sum (R.difference a b) b ≡ a

-- the last u below n with a · u = one, or 0 where there is none
abbrev pub inverse_below : Arithmetic → ℕ → ℕ → ℕ
inverse_below R zero a = 0
inverse_below R (suc n) a = cond (R.product a n == R.one) n (inverse_below R n a)

-- by trial of all codes
abbrev pub inverse : Arithmetic → ℕ → ℕ
inverse R a = inverse_below R R.count a

-- the inverse of a is a code, is that of its remainder, is 0 at 0, and else has the product one with a
pub record Inverts (R : Arithmetic) (inverse : ℕ → ℕ) (a : ℕ) : Type 0 where
  pub code : inverse a < R.count
  pub reduced : inverse a ≡ inverse (a % R.count)
  pub none : a % R.count ≡ 0 → inverse a ≡ 0
  pub unit : 0 < a % R.count → R.product a (inverse a) ≡ R.one
