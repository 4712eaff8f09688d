-- What the laws of a ring give, and what an inverse found by search promises.
-- Assumes nothing.
use Rattle.std.specs.Prelude.{◌≡◌, ℕ, ◌<◌}
use Rattle.std.proofs.Common.{sym, ap, subst, ◌∙◌, arith}
use Rattle.levels.specs.Rings.{Arithmetic, RingLaws}

module _ {R : Arithmetic} (L : RingLaws R) where
  pub zero_code : 0 < R.count
  zero_code = omega (arith, L.low)

  pub zero-add : (a : ℕ) → a < R.count → R.sum 0 a ≡ a
  zero-add a h = L.add_comm 0 a ∙ L.add-zero a h

  pub add_left_comm : (a b c : ℕ) → R.sum a (R.sum b c) ≡ R.sum b (R.sum a c)
  add_left_comm a b c = sym (L.add_assoc a b c) ∙ ap (λ z. R.sum z c) (L.add_comm a b) ∙ L.add_assoc b a c

  pub mul_left_comm : (a b c : ℕ) → R.product a (R.product b c) ≡ R.product b (R.product a c)
  mul_left_comm a b c = sym (L.mul_assoc a b c) ∙ ap (λ z. R.product z c) (L.mul_comm a b) ∙ L.mul_assoc b a c

  pub add-mul : (a b c : ℕ) → R.product (R.sum a b) c ≡ R.sum (R.product a c) (R.product b c)
  add-mul a b c = simp (L.mul_comm, L.mul_add)

  back : (a c : ℕ) → a < R.count → R.sum (R.sum a c) (R.difference 0 c) ≡ a
  back a c h = L.add_assoc a c (R.difference 0 c) ∙ ap (R.sum a) (L.add_comm c (R.difference 0 c) ∙ L.sub_add 0 c zero_code) ∙ L.add-zero a h

  pub cancel : (a b c : ℕ) → a < R.count → b < R.count → R.sum a c ≡ R.sum b c → a ≡ b
  cancel a b c ha hb e = sym (back a c ha) ∙ ap (λ z. R.sum z (R.difference 0 c)) e ∙ back b c hb

  pub sub_intro : (x a b : ℕ) → x < R.count → R.sum x b ≡ a → R.difference a b ≡ x
  sub_intro x a b hx e = cancel (R.difference a b) x b (L.sub_code a b) hx (L.sub_add a b (subst (λ z. z < R.count) e (L.add_code x b)) ∙ sym e)

  pub sub_self : (a : ℕ) → a < R.count → R.difference a a ≡ 0
  sub_self a h = sub_intro 0 a a zero_code (zero-add a h)

  pub mul-zero : (a : ℕ) → R.product a 0 ≡ 0
  mul-zero a = cancel (R.product a 0) 0 (R.product a 0) (L.mul_code a 0) zero_code (sym (L.mul_add a 0 0) ∙ ap (R.product a) (L.add-zero 0 zero_code) ∙ sym (zero-add (R.product a 0) (L.mul_code a 0)))

  pub zero-mul : (a : ℕ) → R.product 0 a ≡ 0
  zero-mul a = L.mul_comm 0 a ∙ mul-zero a

  -- x · e = x0 · e + (x - x0) · e
  pub parts : (x0 x e : ℕ) → x < R.count → R.product x e ≡ R.sum (R.product x0 e) (R.product (R.difference x x0) e)
  parts x0 x e h = ap (λ z. R.product z e) (sym (L.sub_add x x0 h)) ∙ add-mul (R.difference x x0) x0 e ∙ L.add_comm (R.product (R.difference x x0) e) (R.product x0 e)

  -- u undoes d
  pub undo : (d u a : ℕ) → a < R.count → R.product d u ≡ R.one → R.product u (R.product d a) ≡ a
  undo d u a h e = sym (L.mul_assoc u d a) ∙ ap (λ z. R.product z a) (L.mul_comm u d ∙ e) ∙ L.mul_comm R.one a ∙ L.mul_one a h

  pub mul_cancel : (d u a b : ℕ) → a < R.count → b < R.count → R.product d u ≡ R.one → R.product d a ≡ R.product d b → a ≡ b
  mul_cancel d u a b ha hb e k = sym (undo d u a ha e) ∙ ap (R.product u) k ∙ undo d u b hb e
