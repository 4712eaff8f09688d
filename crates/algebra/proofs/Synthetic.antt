-- Synthetic division by x - x0, and how a polynomial is rebuilt from it. Assumes nothing.
use Rattle.std.proofs.Common.{◌≡◌, ℕ, suc, ◌<◌, List, [], ◌∷◌, length, sym, refl, ap, ◌∙◌, ap₂}
use Rattle.levels.specs.Rings.{Arithmetic, RingLaws}
use Rattle.levels.specs.Ring.{zero_code, mul_left_comm, sub_intro, sub_self, mul-zero, zero-mul, parts}
use Rattle.algebra.specs.Polynomials.{Codes, eval}
use Rattle.algebra.specs.Interpolation.{rebuild}

-- the quotient of p by x - x0
abbrev pub quot : Arithmetic → ℕ → List ℕ → List ℕ
quot R x0 [] = []
quot R x0 (c ∷ []) = []
quot R x0 (c ∷ (d ∷ ds)) = eval R (d ∷ ds) x0 ∷ quot R x0 (d ∷ ds)

module _ {R : Arithmetic} (L : RingLaws R) where
  pub eval_code : (p : List ℕ) (x : ℕ) → eval R p x < R.count
  eval_code [] x = zero_code L
  eval_code (c ∷ cs) x = L.add_code c (R.product x (eval R cs x))

  eval_constant : (c x : ℕ) → eval R (c ∷ []) x ≡ R.sum c 0
  eval_constant c x = ap (R.sum c) (mul-zero L x)

  -- c + x (e + d q) = (c + x0 e) + d (e + x q) where d = x - x0
  step : (c x0 x e q : ℕ) → x < R.count
      → R.sum c (R.product x (R.sum e (R.product (R.difference x x0) q)))
      ≡ R.sum (R.sum c (R.product x0 e)) (R.product (R.difference x x0) (R.sum e (R.product x q)))
  step c x0 x e q h = simp (L.mul_add, L.add_assoc, mul_left_comm L, parts L x0 x e h)

  -- p(x) = p(x0) + (x - x0) q(x)
  pub divide : (x0 x : ℕ) → x < R.count → (p : List ℕ) → eval R p x ≡ R.sum (eval R p x0) (R.product (R.difference x x0) (eval R (quot R x0 p) x))
  divide x0 x h [] = simp (mul-zero L, L.add-zero, zero_code L)
  divide x0 x h (c ∷ []) =
      eval_constant c x ∙ sym (eval_constant c x0)
      ∙ sym (ap (R.sum (eval R (c ∷ []) x0)) (mul-zero L (R.difference x x0)) ∙ L.add-zero (eval R (c ∷ []) x0) (eval_code (c ∷ []) x0))
  divide x0 x h (c ∷ (d ∷ ds)) =
      ap (λ z. R.sum c (R.product x z)) (divide x0 x h (d ∷ ds)) ∙ step c x0 x (eval R (d ∷ ds) x0) (eval R (quot R x0 (d ∷ ds)) x) h

  pub length_quot : (x0 c : ℕ) (cs : List ℕ) → length (quot R x0 (c ∷ cs)) ≡ length cs
  length_quot x0 c [] = refl
  length_quot x0 c (d ∷ ds) = ap suc (length_quot x0 d ds)

  pub codes_quot : (x0 : ℕ) (p : List ℕ) → Codes R (quot R x0 p)
  codes_quot x0 [] = tt
  codes_quot x0 (c ∷ []) = tt
  codes_quot x0 (c ∷ (d ∷ ds)) = (eval_code (d ∷ ds) x0, codes_quot x0 (d ∷ ds))

  pub length_rebuild : (x0 v : ℕ) (q : List ℕ) → length (rebuild R x0 v q) ≡ suc (length q)
  length_rebuild x0 v [] = refl
  length_rebuild x0 v (q ∷ qs) = ap suc (length_rebuild x0 q qs)

  pub codes_rebuild : (x0 v : ℕ) (q : List ℕ) → v < R.count → Codes R q → Codes R (rebuild R x0 v q)
  codes_rebuild x0 v [] h k = (h, tt)
  codes_rebuild x0 v (q ∷ qs) h k = (L.sub_code v (R.product x0 q), codes_rebuild x0 q qs k.0 k.1)

  pub eval_rebuild : (x0 x v : ℕ) (q : List ℕ) → x < R.count → v < R.count → Codes R q
      → eval R (rebuild R x0 v q) x ≡ R.sum v (R.product (R.difference x x0) (eval R q x))
  eval_rebuild x0 x v [] hx hv k = simp (mul-zero L)
  eval_rebuild x0 x v (q ∷ qs) hx hv k =
      let w = R.difference v (R.product x0 q) in
      ap (λ z. R.sum w (R.product x z)) (eval_rebuild x0 x q qs hx k.0 k.1)
      ∙ step w x0 x q (eval R qs x) hx
      ∙ ap (λ z. R.sum z (R.product (R.difference x x0) (R.sum q (R.product x (eval R qs x))))) (L.sub_add v (R.product x0 q) hv)

  pub eval_rebuild_self : (x0 v : ℕ) (q : List ℕ) → x0 < R.count → v < R.count → Codes R q → eval R (rebuild R x0 v q) x0 ≡ v
  eval_rebuild_self x0 v q hx hv k = eval_rebuild x0 x0 v q hx hv k ∙ simp (sub_self L, zero-mul L, L.add-zero)

  pub rebuild_quot : (x0 c : ℕ) (cs : List ℕ) → Codes R (c ∷ cs) → rebuild R x0 (eval R (c ∷ cs) x0) (quot R x0 (c ∷ cs)) ≡ c ∷ cs
  rebuild_quot x0 c [] k = ap (λ z. z ∷ []) (eval_constant c x0 ∙ L.add-zero c k.0)
  rebuild_quot x0 c (d ∷ ds) k =
      ap₂ ◌∷◌ (sub_intro L c (eval R (c ∷ (d ∷ ds)) x0) (R.product x0 (eval R (d ∷ ds) x0)) k.0 refl) (rebuild_quot x0 d ds k.1)
