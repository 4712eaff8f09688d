-- Polynomials with coefficients modulo 2: for every modulus of degree 2 to 4, shift-and-add gives the remainder of a product.
-- Each rule over all moduli and polynomials is one test that antt computes.
-- Assumes nothing.
use Rattle.std.specs.Prelude.{◌≡◌, ℕ, zero, suc, ◌+◌, ◌-◌, ◌*◌, ◌%◌, ◌^◌, ◌<◌, ◌≤◌, min, Bool, cond, T, ◌==◌, ◌≢◌, bit_xor, nat_eq, nat_le, nat_lt, refl}
use Rattle.std.proofs.Common.{sym, ap, ap₂, ◌∙◌, ⊎_elim, arith, add-one, lt_of_lt_of_le, pow_mono}
use Rattle.std.proofs.Math.Path.{subst}
use Rattle.std.proofs.Math.Nat.{div-eq_of_lt}
use Rattle.std.proofs.Math.Dec.{eqb→eq, ltb→lt, leb→le}
use Rattle.std.proofs.lemmas.Bool.{cases_lt, cond-true, cond-false, eq-eqb, ne_eqb}
use Rattle.levels.specs.Polynomials.{coefficient, total, convolution, Remainder, multiplied, divided, degree, remainder}
use Rattle.levels.specs.Below.{all_below, at}

-- ---- coefficients past the degree

coefficient_high : (a i k : ℕ) → a < 2 ^ i → i ≤ k → coefficient a k ≡ 0
coefficient_high a i k h l = ap (λ z. z % 2) (div-eq_of_lt (lt_of_lt_of_le h (pow_mono l)))

total_zero : (n : ℕ) (f : ℕ → ℕ) → ((i : ℕ) → i < n → f i ≡ 0) → total n f ≡ 0
total_zero zero f h = refl
total_zero (suc n) f h = omega (arith, total_zero n f (λ i l. h i (omega arith)), h n (omega arith))

convolution_high : (a b i j k : ℕ) → a < 2 ^ i → b < 2 ^ j → i + j ≤ k + 1 → convolution a b k ≡ 0
convolution_high a b i j k ha hb h = ap (λ z. z % 2) (total_zero (suc k) (λ x. coefficient a x * coefficient b (k - x)) (λ x l. ⊎_elim
    (λ low. omega (arith, ap (λ z. coefficient a x * z) (coefficient_high b j (k - x) hb (omega arith))))
    (λ high. omega (arith, ap (λ z. z * coefficient b (k - x)) (coefficient_high a i x ha high)))
    (cases_lt x i)))

-- ---- shift-and-add, and long division's quotient

-- t times z: of 2 t and 2 t less m the one without a term of m's degree
abbrev pub shift : ℕ → ℕ → ℕ
shift m t = min (t * 2) (bit_xor (t * 2) m)

-- a times z^k
unfoldable pub term : ℕ → ℕ → ℕ → ℕ
term m a zero = a
term m a (suc k) = shift m (term m a k)

-- a times the lowest k terms of b
unfoldable pub partial : ℕ → ℕ → ℕ → ℕ → ℕ
partial m a b zero = 0
partial m a b (suc k) = cond (coefficient b k == 1) (bit_xor (partial m a b k) (term m a k)) (partial m a b k)

-- a step of the two: where the k-th coefficient of b is 1 and where it is not
pub term_more : (m a k : ℕ) → term m a (k + 1) ≡ shift m (term m a k)
unfolding term
term_more m a k = ap (term m a) (add-one k)

pub partial_add : (m a b k : ℕ) → coefficient b k ≡ 1 → partial m a b (k + 1) ≡ bit_xor (partial m a b k) (term m a k)
unfolding partial
partial_add m a b k e = ap (partial m a b) (add-one k) ∙ cond-true (coefficient b k == 1) (bit_xor (partial m a b k) (term m a k)) (partial m a b k) (eq-eqb (coefficient b k) 1 e)

pub partial_skip : (m a b k : ℕ) → (coefficient b k ≢ 1) → partial m a b (k + 1) ≡ partial m a b k
unfolding partial
partial_skip m a b k ne = ap (partial m a b) (add-one k) ∙ cond-false (coefficient b k == 1) (bit_xor (partial m a b k) (term m a k)) (partial m a b k) (ne_eqb (coefficient b k) 1 ne)

-- what long division by m of degree d takes off p, by its multiples
quotient : ℕ → ℕ → ℕ → ℕ → ℕ
quotient m d zero p = 0
quotient m d (suc n) p = coefficient p (d + n) * 2 ^ n + quotient m d n (cond (coefficient p (d + n) == 1) (bit_xor p (m * 2 ^ n)) p)

-- a · b and q · m + r have the same lowest eight coefficients
agree : ℕ → ℕ → ℕ → ℕ → ℕ → Bool
agree a b m q r = all_below 8 (λ k. nat_eq (convolution a b k) ((convolution q m k + coefficient r k) % 2))

agree_at : (a b m q r : ℕ) → T (agree a b m q r) → (k : ℕ) → k < 8 → convolution a b k ≡ (convolution q m k + coefficient r k) % 2
unfolding agree
agree_at a b m q r t k h = eqb→eq (convolution a b k) ((convolution q m k + coefficient r k) % 2) (at 8 (λ k. nat_eq (convolution a b k) ((convolution q m k + coefficient r k) % 2)) t k h)

-- ---- every modulus of degree 2 to 4

-- a test at every such modulus
abbrev all_moduli : (ℕ → Bool) → Bool
all_moduli f = all_below 28 (λ l. f (l + 4))

at_modulus : (f : ℕ → Bool) → T (all_moduli f) → (m : ℕ) → 4 ≤ m → m < 32 → T (f m)
at_modulus f t m l h = let e : m - 4 + 4 ≡ m = omega arith in subst (λ z. T (f z)) e (at 28 (λ l. f (l + 4)) t (m - 4) (omega arith))

-- a test at every two polynomials below every such modulus
abbrev all_pairs : (ℕ → ℕ → ℕ → Bool) → Bool
all_pairs f = all_moduli (λ m. all_below (2 ^ degree m) (λ a. all_below (2 ^ degree m) (f m a)))

module _ (m : ℕ) (l : 4 ≤ m) (h : m < 32) where
  at_pair : (f : ℕ → ℕ → ℕ → Bool) → T (all_pairs f) → (a b : ℕ) → a < 2 ^ degree m → b < 2 ^ degree m → T (f m a b)
  at_pair f t a b ha hb =
      let row = at (2 ^ degree m) (λ a. all_below (2 ^ degree m) (f m a)) (at_modulus (λ m. all_below (2 ^ degree m) (λ a. all_below (2 ^ degree m) (f m a))) t m l h) a ha in
      at (2 ^ degree m) (f m a) row b hb

  degree_leads : 2 ^ degree m ≤ m
  unfolding degree
  degree_leads = leb→le (2 ^ degree m) m (at_modulus (λ m. nat_le (2 ^ degree m) m) tt m l h)

  degree_above : m < 2 ^ (degree m + 1)
  unfolding degree
  degree_above = ltb→lt m (2 ^ (degree m + 1)) (at_modulus (λ m. nat_lt m (2 ^ (degree m + 1))) tt m l h)

  degree_high : degree m ≤ 4
  unfolding degree
  degree_high = leb→le (degree m) 4 (at_modulus (λ m. nat_le (degree m) 4) tt m l h)

  -- a polynomial below the modulus has degree 3 at most
  pub small : (a : ℕ) → a < 2 ^ degree m → a < 16
  small a k = lt_of_lt_of_le k (pow_mono {j = 4} degree_high)

  -- z is below every modulus
  pub z_below : 2 < 2 ^ degree m
  unfolding degree
  z_below = ltb→lt 2 (2 ^ degree m) (at_modulus (λ m. nat_lt 2 (2 ^ degree m)) tt m l h)

  pub shift_remainder : (a : ℕ) → a < 2 ^ degree m → shift m a ≡ remainder m a 2
  unfolding degree remainder divided multiplied
  shift_remainder a k = eqb→eq (shift m a) (remainder m a 2) (at (2 ^ degree m) (λ a. nat_eq (shift m a) (remainder m a 2)) (at_modulus (λ m. all_below (2 ^ degree m) (λ a. nat_eq (shift m a) (remainder m a 2))) tt m l h) a k)

  module _ (a b : ℕ) (ha : a < 2 ^ degree m) (hb : b < 2 ^ degree m) where
    -- the steps give the remainder
    pub partial_remainder : partial m a b 4 ≡ remainder m a b
    unfolding degree remainder divided multiplied partial term
    partial_remainder = eqb→eq (partial m a b 4) (remainder m a b) (at_pair (λ m a b. nat_eq (partial m a b 4) (remainder m a b)) tt a b ha hb)

    pub remainder_below : remainder m a b < 2 ^ degree m
    unfolding degree partial term
    remainder_below = subst (λ z. z < 2 ^ degree m) partial_remainder (ltb→lt (partial m a b 4) (2 ^ degree m) (at_pair (λ m a b. nat_lt (partial m a b 4) (2 ^ degree m)) tt a b ha hb))

    abbrev the_quotient : ℕ
    the_quotient = quotient m (degree m) (degree m - 1) (multiplied a b)

    quotient_below : the_quotient < 2 ^ 4
    unfolding degree quotient multiplied
    quotient_below = ltb→lt the_quotient (2 ^ 4) (at_pair (λ m a b. nat_lt (quotient m (degree m) (degree m - 1) (multiplied a b)) (2 ^ 4)) tt a b ha hb)

    equation_low : (k : ℕ) → k < 8 → convolution a b k ≡ (convolution the_quotient m k + coefficient (remainder m a b) k) % 2
    unfolding agree degree quotient multiplied partial term
    equation_low k low =
        let test = at_pair (λ m a b. agree a b m (quotient m (degree m) (degree m - 1) (multiplied a b)) (partial m a b 4)) tt a b ha hb in
        subst (λ z. convolution a b k ≡ (convolution the_quotient m k + coefficient z k) % 2) partial_remainder (agree_at a b m the_quotient (partial m a b 4) test k low)

    equation_high : (k : ℕ) → 8 ≤ k → convolution a b k ≡ (convolution the_quotient m k + coefficient (remainder m a b) k) % 2
    equation_high k high =
        convolution_high a b 4 4 k (small a ha) (small b hb) (omega arith)
        ∙ sym (ap₂ (λ x y. (x + y) % 2) (convolution_high the_quotient m 4 5 k quotient_below h (omega arith)) (coefficient_high (remainder m a b) 4 k (small (remainder m a b) remainder_below) (omega arith)))

    pub remainder_stands : Remainder m a b (remainder m a b)
    remainder_stands = record {
      degree = degree m;
      leading = degree_leads;
      above = degree_above;
      below = remainder_below;
      quotient = the_quotient;
      equation = λ k. ⊎_elim (equation_low k) (equation_high k) (cases_lt k 8);
    }
