-- The polynomials below the modulus of a count form a ring in which each but 0 has an inverse.
-- Each law is one test over the codes of the three counts, which antt computes with the steps of shift-and-add.
-- Assumes nothing.
use Rattle.std.specs.Prelude.{◌≡◌, ℕ, ◌+◌, ◌-◌, ◌%◌, ◌^◌, ◌<◌, ◌≤◌, Bool, true, T, List, bit_xor, nat_eq, nat_le, nat_lt, slice_index}
use Rattle.std.proofs.Math.Path.{sym}
use Rattle.std.proofs.Common.{ap₂, subst, ◌∙◌, arith, mod-lt, leb→le}
use Rattle.std.proofs.Math.Nat.{mod-mod, mod-eq_of_lt}
use Rattle.std.proofs.Math.Dec.{eqb→eq, ltb→lt}
use Rattle.levels.specs.Counts.{binary_counts, binary_serves}
use Rattle.levels.specs.Rings.{Arithmetic, RingLaws, inverse}
use Rattle.levels.specs.Polynomials.{Remainder, multiplied, divided, degree, remainder, modulus_of, polynomials}
use Rattle.levels.specs.Below.{all_below, at, all_of, at_of}
use Rattle.levels.specs.Inverse.{inverse_mod, all_units}
use Rattle.levels.specs.PolynomialsLemmas.{shift, term, partial, z_below, shift_remainder, partial_remainder, remainder_below, remainder_stands}

-- the product by the steps
abbrev times : ℕ → ℕ → ℕ → ℕ
times s a b = partial (modulus_of s) a b 4

abbrev stepped : ℕ → (ℕ → ℕ → ℕ) → Arithmetic
stepped s product = record {
  count = s;
  one = 1;
  sum = λ a b. bit_xor (a % s) (b % s);
  difference = λ a b. bit_xor (a % s) (b % s);
  product = product;
}

-- the table has the inverse of every code, count by count
abbrev pub inverses_right : List ℕ → Bool
inverses_right xs = all_of binary_counts (λ s. all_below s (λ a. nat_eq (slice_index xs (s - 4 + a)) (inverse (polynomials s) a)))

module _ (s : ℕ) (h : binary_serves s ≡ true) where
  at_count : (f : ℕ → Bool) → T (all_of binary_counts f) → T (f s)
  at_count f t = at_of binary_counts f t s h

  low : 2 ≤ s
  low = leb→le 2 s (at_count (λ s. nat_le 2 s) tt)

  high : s ≤ 16
  high = leb→le s 16 (at_count (λ s. nat_le s 16) tt)

  pub below : (a : ℕ) → a % s < s
  below a = mod-lt a (omega (arith, low))

  pub modulus_low : 4 ≤ modulus_of s
  modulus_low = leb→le 4 (modulus_of s) (at_count (λ s. nat_le 4 (modulus_of s)) tt)

  pub modulus_high : modulus_of s < 32
  modulus_high = ltb→lt (modulus_of s) 32 (at_count (λ s. nat_lt (modulus_of s) 32) tt)

  pub modulus_degree : 2 ^ degree (modulus_of s) ≡ s
  unfolding degree
  modulus_degree = eqb→eq (2 ^ degree (modulus_of s)) s (at_count (λ s. nat_eq (2 ^ degree (modulus_of s)) s) tt)

  -- a code is below the modulus
  pub code_below : (a : ℕ) → a % s < 2 ^ degree (modulus_of s)
  code_below a = subst (λ z. a % s < z) (sym modulus_degree) (below a)

  -- one step of shift-and-add multiplies a code by z, and gives a code
  pub shifted : (a : ℕ) → a < s → shift (modulus_of s) a ≡ remainder (modulus_of s) a 2
  shifted a k = shift_remainder (modulus_of s) modulus_low modulus_high a (subst (λ z. a < z) (sym modulus_degree) k)

  pub shifted_below : (a : ℕ) → a < s → remainder (modulus_of s) a 2 < s
  shifted_below a k = subst (λ z. remainder (modulus_of s) a 2 < z) modulus_degree (remainder_below (modulus_of s) modulus_low modulus_high a 2 (subst (λ z. a < z) (sym modulus_degree) k) (z_below (modulus_of s) modulus_low modulus_high))

  -- tests over one, two and three codes
  at_one : (f : ℕ → ℕ → Bool) → T (all_of binary_counts (λ s. all_below s (f s))) → (a : ℕ) → T (f s (a % s))
  at_one f t a = at s (f s) (at_count (λ s. all_below s (f s)) t) (a % s) (below a)

  at_two : (f : ℕ → ℕ → ℕ → Bool) → T (all_of binary_counts (λ s. all_below s (λ a. all_below s (f s a)))) → (a b : ℕ) → T (f s (a % s) (b % s))
  at_two f t a b = at s (f s (a % s)) (at_one (λ s a. all_below s (f s a)) t a) (b % s) (below b)

  at_three : (f : ℕ → ℕ → ℕ → ℕ → Bool) → T (all_of binary_counts (λ s. all_below s (λ a. all_below s (λ b. all_below s (f s a b))))) → (a b c : ℕ) → T (f s (a % s) (b % s) (c % s))
  at_three f t a b c = at s (f s (a % s) (b % s)) (at_two (λ s a b. all_below s (f s a b)) t a b) (c % s) (below c)

  stepped_laws : RingLaws (stepped s (λ a b. times s (a % s) (b % s)))
  unfolding partial term
  stepped_laws = record {
    low = low;
    high = high;
    one_low = omega arith;
    one_code = low;
    add_code = λ a b. ltb→lt (bit_xor (a % s) (b % s)) s (at_two (λ s a b. nat_lt (bit_xor a b) s) tt a b);
    sub_code = λ a b. ltb→lt (bit_xor (a % s) (b % s)) s (at_two (λ s a b. nat_lt (bit_xor a b) s) tt a b);
    mul_code = λ a b. ltb→lt (times s (a % s) (b % s)) s (at_two (λ s a b. nat_lt (times s a b) s) tt a b);
    add-mod = λ a b. sym (ap₂ bit_xor (mod-mod a s) (mod-mod b s));
    sub_mod = λ a b. sym (ap₂ bit_xor (mod-mod a s) (mod-mod b s));
    mul_mod = λ a b. sym (ap₂ (times s) (mod-mod a s) (mod-mod b s));
    add_assoc = λ a b c. eqb→eq (bit_xor (bit_xor (a % s) (b % s) % s) (c % s)) (bit_xor (a % s) (bit_xor (b % s) (c % s) % s)) (at_three (λ s a b c. nat_eq (bit_xor (bit_xor a b % s) c) (bit_xor a (bit_xor b c % s))) tt a b c);
    add_comm = λ a b. eqb→eq (bit_xor (a % s) (b % s)) (bit_xor (b % s) (a % s)) (at_two (λ s a b. nat_eq (bit_xor a b) (bit_xor b a)) tt a b);
    mul_assoc = λ a b c. eqb→eq (times s (times s (a % s) (b % s) % s) (c % s)) (times s (a % s) (times s (b % s) (c % s) % s)) (at_three (λ s a b c. nat_eq (times s (times s a b % s) c) (times s a (times s b c % s))) tt a b c);
    mul_comm = λ a b. eqb→eq (times s (a % s) (b % s)) (times s (b % s) (a % s)) (at_two (λ s a b. nat_eq (times s a b) (times s b a)) tt a b);
    mul_add = λ a b c. eqb→eq (times s (a % s) (bit_xor (b % s) (c % s) % s)) (bit_xor (times s (a % s) (b % s) % s) (times s (a % s) (c % s) % s)) (at_three (λ s a b c. nat_eq (times s a (bit_xor b c % s)) (bit_xor (times s a b % s) (times s a c % s))) tt a b c);
    add-zero = λ a k. eqb→eq (bit_xor (a % s) (0 % s)) (a % s) (at_one (λ s a. nat_eq (bit_xor a (0 % s)) a) tt a) ∙ mod-eq_of_lt k;
    mul_one = λ a k. eqb→eq (times s (a % s) (1 % s)) (a % s) (at_one (λ s a. nat_eq (times s a (1 % s)) a) tt a) ∙ mod-eq_of_lt k;
    sub_add = λ a b k. eqb→eq (bit_xor (bit_xor (a % s) (b % s) % s) (b % s)) (a % s) (at_two (λ s a b. nat_eq (bit_xor (bit_xor a b % s) b) a) tt a b) ∙ mod-eq_of_lt k;
  }

  -- at every two numbers the steps give the product
  pub times_product : (a b : ℕ) → times s (a % s) (b % s) ≡ remainder (modulus_of s) (a % s) (b % s)
  times_product a b = partial_remainder (modulus_of s) modulus_low modulus_high (a % s) (b % s) (code_below a) (code_below b)

  pub product_stands : (a b : ℕ) → Remainder (modulus_of s) (a % s) (b % s) (remainder (modulus_of s) (a % s) (b % s))
  product_stands a b = remainder_stands (modulus_of s) modulus_low modulus_high (a % s) (b % s) (code_below a) (code_below b)

  pub polynomial_laws : RingLaws (polynomials s)
  polynomial_laws = subst (λ product. RingLaws (stepped s product)) (λ i a b. times_product a b i) stepped_laws

  pub polynomial_units : T (all_units (polynomials s))
  unfolding degree remainder divided multiplied
  polynomial_units = at_count (λ s. all_units (polynomials s)) tt

  -- a table of the inverses of every code, read at the place for a number
  pub polynomial_inverse : (xs : List ℕ) (r a : ℕ) → r ≡ slice_index xs (s - 4 + a % s) → T (inverses_right xs) → r ≡ inverse (polynomials s) a
  polynomial_inverse xs r a e t = e ∙ eqb→eq (slice_index xs (s - 4 + a % s)) (inverse (polynomials s) (a % s)) (at_one (λ s a. nat_eq (slice_index xs (s - 4 + a)) (inverse (polynomials s) a)) t a) ∙ sym (inverse_mod polynomial_laws a)
