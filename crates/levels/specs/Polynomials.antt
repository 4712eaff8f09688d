-- Polynomials with coefficients modulo 2, held as numbers: bit k is the coefficient of z^k.
--   coefficient  the coefficient of z^k
--   convolution  the coefficient of z^k in the product of two polynomials
--   Remainder    r is the remainder by m of the product of a and b
--   multiplied   the product of two polynomials below z^4, as a number
--   divided      what long division by m leaves of a polynomial
--   degree       the degree of a modulus
--   remainder    the remainder by m of a product, for m of degree 2 to 4
--   modulus_of   z² + z + 1 at 4, z³ + z + 1 at 8 and z⁴ + z + 1 at 16
--   polynomials  the arithmetic of the polynomials below the modulus
-- Assumes nothing.
use Rattle.std.specs.Prelude.{◌≡◌, ℕ, zero, suc, ◌+◌, ◌-◌, ◌*◌, ◌/◌, ◌%◌, ◌^◌, ◌<◌, ◌≤◌, cond, ◌==◌, bit_xor, nat_le}
use Rattle.levels.specs.Rings.{Arithmetic}

-- bit k of a
abbrev pub coefficient : ℕ → ℕ → ℕ
coefficient a k = a / 2 ^ k % 2

-- f 0 + f 1 + .. + f (n − 1)
abbrev pub total : ℕ → (ℕ → ℕ) → ℕ
total zero f = 0
total (suc n) f = total n f + f n

-- the sum over i from 0 to k of the i-th coefficient of a times the (k − i)-th of b
abbrev pub convolution : ℕ → ℕ → ℕ → ℕ
convolution a b k = total (suc k) (λ i. coefficient a i * coefficient b (k - i)) % 2

-- a · b = quotient · m + r, coefficient by coefficient, and the degree of r is below that of m
pub record Remainder (m a b r : ℕ) : Type 0 where
  pub degree : ℕ
  pub leading : 2 ^ degree ≤ m
  pub above : m < 2 ^ (degree + 1)
  pub below : r < 2 ^ degree
  pub quotient : ℕ
  pub equation : (k : ℕ) → convolution a b k ≡ (convolution quotient m k + coefficient r k) % 2

-- the number whose lowest seven bits are the coefficients: a and b have degree 3 at most
unfoldable pub multiplied : ℕ → ℕ → ℕ
multiplied a b = total 7 (λ k. convolution a b k * 2 ^ k)

-- long division by m of degree d: from z^(d + n − 1) down to z^d, a term is taken off by a multiple of m
unfoldable pub divided : ℕ → ℕ → ℕ → ℕ → ℕ
divided m d zero p = p
divided m d (suc n) p = divided m d n (cond (coefficient p (d + n) == 1) (bit_xor p (m * 2 ^ n)) p)

-- the degree of a polynomial of degree 4 at most: how many of 2, 4, 8 and 16 are not above m
unfoldable pub degree : ℕ → ℕ
degree m = total 4 (λ k. cond (nat_le (2 ^ (k + 1)) m) 1 0)

-- the remainder by m of the product of two polynomials of smaller degree
unfoldable pub remainder : ℕ → ℕ → ℕ → ℕ
remainder m a b = divided m (degree m) (degree m - 1) (multiplied a b)

-- bits 111, 1011 and 10011
abbrev pub modulus_of : ℕ → ℕ
modulus_of s = cond (s == 4) 7 (cond (s == 8) 11 19)

-- sum and difference add coefficients modulo 2, and the product is the remainder by the modulus
abbrev pub polynomials : ℕ → Arithmetic
polynomials s = record {
  count = s;
  one = 1;
  sum = λ a b. bit_xor (a % s) (b % s);
  difference = λ a b. bit_xor (a % s) (b % s);
  product = λ a b. remainder (modulus_of s) (a % s) (b % s);
}
