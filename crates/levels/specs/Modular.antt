-- Remainders by s keep the laws of a ring.
-- Assumes nothing.
use Rattle.std.specs.Prelude.{◌≡◌, ℕ, ◌+◌, ◌-◌, ◌*◌, ◌/◌, ◌%◌, ◌<◌, ◌≤◌, true}
use Rattle.std.proofs.Common.{sym, ap, ◌∙◌, arith, mod-lt, mod-eq_of_lt}
use Rattle.std.proofs.Math.Nat.{mod-mod, add-mod, mod-add-mod, add-mod-mod, mod-add-div, add-mul-mod_self_left}
use Rattle.levels.specs.Counts.{clock_serves, listed_serves}
use Rattle.levels.specs.Rings.{RingLaws}
use Rattle.levels.specs.Residues.{residues}
use Rattle.levels.specs.Served.{clock_low, clock_high, listed_clock}

mod_mul_left : (a b s : ℕ) → a % s * b % s ≡ a * b % s
mod_mul_left a b s = sym (add-mul-mod_self_left (a % s * b) s (a / s * b)) ∙ ap (λ z. z % s) (omega (arith, ap (λ z. z * b) (mod-add-div a s)))

mod_mul_right : (a b s : ℕ) → a * (b % s) % s ≡ a * b % s
mod_mul_right a b s = ap (λ z. z % s) (omega arith) ∙ mod_mul_left b a s ∙ ap (λ z. z % s) (omega arith)

-- the product of the remainders has the same remainder
pub mod_mul : (a b s : ℕ) → a % s * (b % s) % s ≡ a * b % s
mod_mul a b s = mod_mul_left a (b % s) s ∙ mod_mul_right a b s

modular : (s : ℕ) → 2 ≤ s → s ≤ 16 → RingLaws (residues s)
modular s l h = record {
  low = l;
  high = h;
  one_low = omega arith;
  one_code = l;
  add_code = λ a b. mod-lt (a + b) (omega arith);
  sub_code = λ a b. mod-lt (a + (s - b % s)) (omega arith);
  mul_code = λ a b. mod-lt (a * b) (omega arith);
  add-mod = λ a b. add-mod a b s;
  sub_mod = λ a b. simp (mod-mod, mod-add-mod);
  mul_mod = λ a b. sym (mod_mul a b s);
  add_assoc = λ a b c. mod-add-mod (a + b) s c ∙ ap (λ z. z % s) (omega arith) ∙ sym (add-mod-mod a (b + c) s);
  add_comm = λ a b. ap (λ z. z % s) (omega arith);
  mul_assoc = λ a b c. mod_mul_left (a * b) c s ∙ ap (λ z. z % s) (omega arith) ∙ sym (mod_mul_right a (b * c) s);
  mul_comm = λ a b. ap (λ z. z % s) (omega arith);
  mul_add = λ a b c. mod_mul_right a (b + c) s ∙ ap (λ z. z % s) (omega arith) ∙ add-mod (a * b) (a * c) s;
  add-zero = λ a k. ap (λ z. z % s) (omega arith) ∙ mod-eq_of_lt k;
  mul_one = λ a k. ap (λ z. z % s) (omega arith) ∙ mod-eq_of_lt k;
  sub_add = λ a b k. mod-add-mod (a + (s - b % s)) s b ∙ ap (λ z. z % s) (whole a b) ∙ add-mul-mod_self_left a s (1 + b / s) ∙ mod-eq_of_lt k;
}
  where
    whole : (a b : ℕ) → a + (s - b % s) + b ≡ a + s * (1 + b / s)
    whole a b = let r : b % s < s = mod-lt b (omega arith) in omega (arith, mod-add-div b s)

pub clock_laws : (s : ℕ) → clock_serves s ≡ true → RingLaws (residues s)
clock_laws s h = modular s (clock_low s h) (clock_high s h)

pub listed_laws : (s : ℕ) → listed_serves s ≡ true → RingLaws (residues s)
listed_laws s h = clock_laws s (listed_clock s h)
