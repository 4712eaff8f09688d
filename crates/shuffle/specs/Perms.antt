-- Permutations of the numbers below n, and their inverses found by looking. Assumes nothing.
use Rattle.std.specs.Prelude.{◌≡◌, ℕ, zero, suc, ◌<◌, ◌==◌}
use Rattle.std.proofs.Common.{sym, ap, ◌∙◌, inl, inr, not-suc-le-zero, arith}
use Rattle.std.proofs.lemmas.Bool.{cases_eq, cond-true, cond-false, eq-eqb, ne_eqb}
use Rattle.shuffle.specs.Keyed.{preimage}

-- f and g undo each other on the numbers below n
pub record Perm (n : ℕ) (f g : ℕ → ℕ) : Type 0 where
  pub f_lt : (x : ℕ) → x < n → f x < n
  pub g_lt : (x : ℕ) → x < n → g x < n
  pub gf : (x : ℕ) → x < n → g (f x) ≡ x
  pub fg : (x : ℕ) → x < n → f (g x) ≡ x

pub flip : {n : ℕ} {f g : ℕ → ℕ} → Perm n f g → Perm n g f
flip u = record { f_lt = u.g_lt; g_lt = u.f_lt; gf = u.fg; fg = u.gf }

-- one permutation after another
pub after : {n : ℕ} {f g f' g' : ℕ → ℕ} → Perm n f g → Perm n f' g' → Perm n (λ x. f' (f x)) (λ x. g (g' x))
after {n} {f} {g} {f'} {g'} u v =
    record {
      f_lt = λ x h. v.f_lt (f x) (u.f_lt x h);
      g_lt = λ x h. u.g_lt (g' x) (v.g_lt x h);
      gf = λ x h. ap g (v.gf (f x) (u.f_lt x h)) ∙ u.gf x h;
      fg = λ x h. ap f' (u.fg (g' x) (v.g_lt x h)) ∙ v.fg x h;
    }

-- the only number below n that f sends to i is found
pub found : (f : ℕ → ℕ) (n i j : ℕ) → j < n → f j ≡ i → ((k : ℕ) → k < n → f k ≡ i → k ≡ j) → preimage f n i ≡ j
unfolding preimage
found f zero i j h e only = absurd (not-suc-le-zero h)
found f (suc n) i j h e only =
    elim (cases_eq (f n) i) [
      | inl at ↦ cond-true (f n == i) n (preimage f n i) (eq-eqb (f n) i at) ∙ only n (omega arith) at
      | inr not ↦
          let less : j < n = elim (cases_eq j n) [ inl z ↦ absurd (not (ap f (sym z) ∙ e)) | inr other ↦ omega arith ] in
          cond-false (f n == i) n (preimage f n i) (ne_eqb (f n) i not) ∙ found f n i j less e (λ k l. only k (omega arith))
    ]

module _ {n : ℕ} {f g : ℕ → ℕ} (u : Perm n f g) where
  -- an inverse is the inverse that looking finds
  pub preimage_is : (x : ℕ) → x < n → preimage f n x ≡ g x
  preimage_is x h = found f n x (g x) (u.g_lt x h) (u.fg x h) (λ k l e. sym (u.gf k l) ∙ ap g e)

  pub by_preimage : Perm n f (preimage f n)
  by_preimage =
      record {
        f_lt = u.f_lt;
        g_lt = λ x h. rw (preimage_is x h) (u.g_lt x h);
        gf = λ x h. preimage_is (f x) (u.f_lt x h) ∙ u.gf x h;
        fg = λ x h. ap f (preimage_is x h) ∙ u.fg x h;
      }
