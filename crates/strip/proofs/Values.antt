-- The value of a label's polynomial: one digit off, it is the value of the rest times the point; so it is Horner's rule. Assumes nothing.
use Rattle.std.proofs.Common.{◌≡◌, ℕ, zero, suc, ◌/◌, ◌%◌, ◌^◌, ◌<◌, sym, refl, ap, ◌∙◌, subst, ap₂, mod-lt, div-one}
use native.Mathlib.Nat.{pow-zero, pow-succ', div-div-eq-div-mul}
use Rattle.levels.specs.Rings.{Arithmetic, RingLaws}
use Rattle.levels.specs.Ring.{zero_code, mul-zero, mul_left_comm}
use Rattle.algebra.specs.Polynomials.{eval}
use Rattle.algebra.specs.Digits.{digits}
use Rattle.strip.specs.Labels.{digit, power, total, value_at}

module _ {R : Arithmetic} (L : RingLaws R) where
  total_same : (f g : ℕ → ℕ) → ((l : ℕ) → f l ≡ g l) → (t : ℕ) → total R f t ≡ total R g t
  total_same f g e zero = refl
  total_same f g e (suc t) = ap₂ R.sum (total_same f g e t) (e t)

  total_first : (f : ℕ → ℕ) → f 0 < R.count → (t : ℕ) → total R f (suc t) ≡ R.sum (f 0) (total R (λ l. f (suc l)) t)
  total_first f h zero = L.add_comm 0 (f 0)
  total_first f h (suc t) =
      ap (λ z. R.sum z (f (suc t))) (total_first f h t) ∙ L.add_assoc (f 0) (total R (λ l. f (suc l)) t) (f (suc t))

  total_scale : (x : ℕ) (g : ℕ → ℕ) (t : ℕ) → total R (λ l. R.product x (g l)) t ≡ R.product x (total R g t)
  total_scale x g zero = sym (mul-zero L x)
  total_scale x g (suc t) = ap (λ z. R.sum z (R.product x (g t))) (total_scale x g t) ∙ sym (L.mul_add x (total R g t) (g t))

  term : ℕ → ℕ → ℕ → ℕ
  term n x l = R.product (digit R.count n l) (power R x l)

  term_first : (n x : ℕ) → term n x 0 ≡ n % R.count
  unfolding term
  term_first n x =
      ap (λ z. R.product (n / z % R.count) R.one) (pow-zero R.count)
      ∙ ap (λ z. R.product (z % R.count) R.one) (div-one n)
      ∙ L.mul_one (n % R.count) (mod-lt n (zero_code L))

  term_later : (n x l : ℕ) → term n x (suc l) ≡ R.product x (term (n / R.count) x l)
  unfolding term
  term_later n x l =
      ap (λ z. R.product (z % R.count) (power R x (suc l))) (ap (λ z. n / z) (pow-succ' R.count l) ∙ sym (div-div-eq-div-mul n R.count (R.count ^ l)))
      ∙ ap (R.product (digit R.count (n / R.count) l)) (L.mul_comm (power R x l) x)
      ∙ mul_left_comm L (digit R.count (n / R.count) l) x (power R x l)

  pub value_step : (t n x : ℕ) → value_at R (suc t) n x ≡ R.sum (n % R.count) (R.product x (value_at R t (n / R.count) x))
  unfolding value_at term
  value_step t n x =
      total_first (term n x) (subst (λ z. z < R.count) (sym (term_first n x)) (mod-lt n (zero_code L))) t
      ∙ ap₂ R.sum (term_first n x) (total_same (λ l. term n x (suc l)) (λ l. R.product x (term (n / R.count) x l)) (term_later n x) t ∙ total_scale x (term (n / R.count) x) t)

  -- the value is that of the digits as a polynomial
  pub value_eval : (t n x : ℕ) → value_at R t n x ≡ eval R (digits R.count t n) x
  unfolding value_at
  value_eval zero n x = refl
  value_eval (suc t) n x = value_step t n x ∙ ap (λ z. R.sum (n % R.count) (R.product x z)) (value_eval t (n / R.count) x)
