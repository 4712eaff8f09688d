-- The inverse found by search keeps what an inverse promises, where each code but 0 has one.
-- Assumes nothing.
use Rattle.std.specs.Prelude.{◌≡◌, ℕ, zero, suc, ◌%◌, ◌<◌, ◌≤◌, Bool, cond, ◌||◌, T, ◌≢◌, ◌==◌, refl}
use Rattle.std.proofs.Common.{sym, ap, ◌∙◌, ⊎_elim, arith, mod-lt}
use Rattle.std.proofs.Math.Nat.{mod-mod}
use Rattle.std.proofs.lemmas.Bool.{eqb-true, ne_eqb, or_cases, cond_both, cond-false}
use Rattle.levels.specs.Rings.{Arithmetic, RingLaws, inverse_below, inverse, Inverts}
use Rattle.levels.specs.Below.{T_true, all_below, at}
use Rattle.levels.specs.Ring.{zero_code, zero-mul}

-- each code but 0 has an inverse
abbrev pub all_units : Arithmetic → Bool
all_units R = all_below R.count (λ a. (a == 0) || R.product a (inverse R a) == R.one)

module _ {R : Arithmetic} (L : RingLaws R) where
  -- a product depends on the remainder of its first factor
  pub mul_mod_left : (a b : ℕ) → R.product a b ≡ R.product (a % R.count) b
  mul_mod_left a b = L.mul_mod a b ∙ ap (λ z. R.product z (b % R.count)) (sym (mod-mod a R.count)) ∙ sym (L.mul_mod (a % R.count) b)

  below_mod : (n a : ℕ) → inverse_below R n a ≡ inverse_below R n (a % R.count)
  below_mod zero a = refl
  below_mod (suc n) a = rw (← mul_mod_left a n) (ap (cond (R.product a n == R.one) n) (below_mod n a))

  pub inverse_mod : (a : ℕ) → inverse R a ≡ inverse R (a % R.count)
  inverse_mod a = below_mod R.count a

  below_code : (n a : ℕ) → n ≤ R.count → inverse_below R n a < R.count
  below_code zero a h = zero_code L
  below_code (suc n) a h = cond_both (R.product a n == R.one) n (inverse_below R n a) (λ z. z < R.count) (λ _. h) (λ _. below_code n a (omega arith))

  pub inverse_code : (a : ℕ) → inverse R a < R.count
  inverse_code a = below_code R.count a (omega arith)

  below_none : (n : ℕ) → inverse_below R n 0 ≡ 0
  below_none zero = refl
  below_none (suc n) =
      let apart : R.product 0 n ≢ R.one = λ e. omega (arith, e, zero-mul L n, L.one_low) in
      cond-false (R.product 0 n == R.one) n (inverse_below R n 0) (ne_eqb (R.product 0 n) R.one apart) ∙ below_none n

  unit : T (all_units R) → (a : ℕ) → 0 < a → a < R.count → R.product a (inverse R a) ≡ R.one
  unit t a l h = ⊎_elim
      (λ e. absurd (omega (arith, eqb-true a 0 e)))
      (λ e. eqb-true (R.product a (inverse R a)) R.one e)
      (or_cases (a == 0) (R.product a (inverse R a) == R.one) (T_true (a == 0 || R.product a (inverse R a) == R.one) (at R.count (λ a. (a == 0) || R.product a (inverse R a) == R.one) t a h)))

  pub inverts : T (all_units R) → (a : ℕ) → Inverts R (inverse R) a
  inverts t a = record {
    code = inverse_code a;
    reduced = inverse_mod a;
    none = λ e. inverse_mod a ∙ ap (inverse R) e ∙ below_none R.count;
    unit = λ l. mul_mod_left a (inverse R a) ∙ ap (R.product (a % R.count)) (inverse_mod a) ∙ unit t (a % R.count) l (mod-lt a (zero_code L));
  }
