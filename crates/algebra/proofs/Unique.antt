-- Interpolation at points whose differences have inverses: there is one list of coefficients, and no other. Assumes nothing.
use Rattle.std.proofs.Common.{◌≡◌, ℕ, suc, ◌<◌, List, [], ◌∷◌, map, length, sym, refl, ap, ◌∙◌, ap₂, arith}
use mathlib.Core.List.{head-eq_of_cons-eq, tail-eq_of_cons-eq}
use Rattle.std.specs.List.{AllByRecursion}
use Rattle.levels.specs.Rings.{Arithmetic, RingLaws}
use Rattle.levels.specs.Ring.{mul_left_comm, cancel, mul_cancel}
use Rattle.algebra.specs.Polynomials.{Codes, eval}
use Rattle.algebra.specs.Interpolation.{rebuild, slopes, interp}
use Rattle.algebra.specs.Units.{Apart}
use Rattle.algebra.specs.Theorems.{Interpolates}
use Rattle.algebra.proofs.Synthetic.{quot, eval_code, divide, length_quot, codes_quot, length_rebuild, codes_rebuild, eval_rebuild, eval_rebuild_self, rebuild_quot}

pub length_slopes : (R : Arithmetic) (inv : ℕ → ℕ) (x v : ℕ) (ys ws : List ℕ) → length ys ≡ length ws → length ys ≡ length (slopes R inv x v ys ws)
length_slopes R inv x v [] ws h = refl
length_slopes R inv x v (y ∷ ys) [] h = absurd (omega arith)
length_slopes R inv x v (y ∷ ys) (w ∷ ws) h = ap suc (length_slopes R inv x v ys ws (omega arith))

module _ {R : Arithmetic} (L : RingLaws R) (inv : ℕ → ℕ) where
  -- inv undoes the difference of y and x
  abbrev Undone : ℕ → ℕ → Type 0
  Undone x y = R.product (R.difference y x) (inv (R.difference y x)) ≡ R.one

  pub codes_slopes : (x v : ℕ) (ys ws : List ℕ) → Codes R (slopes R inv x v ys ws)
  codes_slopes x v [] ws = tt
  codes_slopes x v (y ∷ ys) [] = tt
  codes_slopes x v (y ∷ ys) (w ∷ ws) = (L.mul_code (R.difference w v) (inv (R.difference y x)), codes_slopes x v ys ws)

  pub codes_interp : (xs vs : List ℕ) → Codes R vs → Codes R (interp R inv xs vs)
  codes_interp [] vs hv = tt
  codes_interp (x ∷ xs) [] hv = tt
  codes_interp (x ∷ xs) (v ∷ vs) hv =
      codes_rebuild L x v (interp R inv xs (slopes R inv x v xs vs)) hv.0 (codes_interp xs (slopes R inv x v xs vs) (codes_slopes x v xs vs))

  pub length_interp : (xs vs : List ℕ) → length xs ≡ length vs → length (interp R inv xs vs) ≡ length xs
  length_interp [] vs h = refl
  length_interp (x ∷ xs) [] h = absurd (omega arith)
  length_interp (x ∷ xs) (v ∷ vs) h =
      let ws = slopes R inv x v xs vs in
      length_rebuild L x v (interp R inv xs ws) ∙ ap suc (length_interp xs ws (length_slopes R inv x v xs vs (omega arith)))

  -- v + d ((w - v) inv d) = w
  slope : (v w d : ℕ) → w < R.count → R.product d (inv d) ≡ R.one → R.sum v (R.product d (R.product (R.difference w v) (inv d))) ≡ w
  slope v w d h e =
      ap (R.sum v) (mul_left_comm L d (R.difference w v) (inv d) ∙ ap (R.product (R.difference w v)) e ∙ L.mul_one (R.difference w v) (L.sub_code w v))
      ∙ L.add_comm v (R.difference w v) ∙ L.sub_add w v h

  lift : (x v : ℕ) (q ys ws : List ℕ) → v < R.count → Codes R q → Codes R ys → Codes R ws → AllByRecursion (Undone x) ys → length ys ≡ length ws
      → map (eval R q) ys ≡ slopes R inv x v ys ws → map (eval R (rebuild R x v q)) ys ≡ ws
  lift x v q [] [] hv hq hy hw a h e = refl
  lift x v q [] (w ∷ ws) hv hq hy hw a h e = absurd (omega arith)
  lift x v q (y ∷ ys) [] hv hq hy hw a h e = absurd (omega arith)
  lift x v q (y ∷ ys) (w ∷ ws) hv hq hy hw a h e =
      ap₂ ◌∷◌
      (eval_rebuild L x y v q hy.0 hv hq ∙ ap (λ z. R.sum v (R.product (R.difference y x) z)) (head-eq_of_cons-eq e) ∙ slope v w (R.difference y x) hw.0 a.0)
      (lift x v q ys ws hv hq hy.1 hw.1 a.1 (omega arith) (tail-eq_of_cons-eq e))

  pub values_interp : (xs vs : List ℕ) → Codes R xs → Codes R vs → Apart R inv xs → length xs ≡ length vs → map (eval R (interp R inv xs vs)) xs ≡ vs
  values_interp [] [] hx hv a h = refl
  values_interp [] (v ∷ vs) hx hv a h = absurd (omega arith)
  values_interp (x ∷ xs) [] hx hv a h = absurd (omega arith)
  values_interp (x ∷ xs) (v ∷ vs) hx hv a h =
      let ws = slopes R inv x v xs vs in
      let q = interp R inv xs ws in
      let hq = codes_interp xs ws (codes_slopes x v xs vs) in
      let e = values_interp xs ws hx.1 (codes_slopes x v xs vs) a.1 (length_slopes R inv x v xs vs (omega arith)) in
      ap₂ ◌∷◌ (eval_rebuild_self L x v q hx.0 hv.0 hq) (lift x v q xs vs hv.0 hq hx.1 hv.1 a.0 (omega arith) e)

  quot_same : (x y : ℕ) (p p' : List ℕ) → y < R.count → Undone x y → eval R p x ≡ eval R p' x → eval R p y ≡ eval R p' y
      → eval R (quot R x p) y ≡ eval R (quot R x p') y
  quot_same x y p p' hy u e e' =
      let d = R.difference y x in
      let q = eval R (quot R x p) y in
      let q' = eval R (quot R x p') y in
      let sums : R.sum (R.product d q) (eval R p x) ≡ R.sum (R.product d q') (eval R p x) =
      cc (divide L x y hy p, divide L x y hy p', L.add_comm (R.product d q) (eval R p x), L.add_comm (R.product d q') (eval R p x)) in
      mul_cancel L d (inv d) q q' (eval_code L (quot R x p) y) (eval_code L (quot R x p') y) u
      (cancel L (R.product d q) (R.product d q') (eval R p x) (L.mul_code d q) (L.mul_code d q') sums)

  agree : (x : ℕ) (p p' ys : List ℕ) → Codes R ys → AllByRecursion (Undone x) ys → eval R p x ≡ eval R p' x → map (eval R p) ys ≡ map (eval R p') ys
      → map (eval R (quot R x p)) ys ≡ map (eval R (quot R x p')) ys
  agree x p p' [] hy a e es = refl
  agree x p p' (y ∷ ys) hy a e es =
      ap₂ ◌∷◌ (quot_same x y p p' hy.0 a.0 e (head-eq_of_cons-eq es)) (agree x p p' ys hy.1 a.1 e (tail-eq_of_cons-eq es))

  pub same : (xs p p' : List ℕ) → length p ≡ length xs → length p' ≡ length xs → Codes R xs → Apart R inv xs → Codes R p → Codes R p'
      → map (eval R p) xs ≡ map (eval R p') xs → p ≡ p'
  same [] [] [] hp hp' hx a k k' e = refl
  same [] (c ∷ cs) p' hp hp' hx a k k' e = absurd (omega arith)
  same [] [] (c' ∷ cs') hp hp' hx a k k' e = absurd (omega arith)
  same (x ∷ xs) [] p' hp hp' hx a k k' e = absurd (omega arith)
  same (x ∷ xs) (c ∷ cs) [] hp hp' hx a k k' e = absurd (omega arith)
  same (x ∷ xs) (c ∷ cs) (c' ∷ cs') hp hp' hx a k k' e =
      let p = c ∷ cs in
      let p' = c' ∷ cs' in
      let rest = same xs (quot R x p) (quot R x p') (omega (arith, length_quot L x c cs)) (omega (arith, length_quot L x c' cs')) hx.1 a.1
      (codes_quot L x p) (codes_quot L x p') (agree x p p' xs hx.1 a.0 (head-eq_of_cons-eq e) (tail-eq_of_cons-eq e)) in
      sym (rebuild_quot L x c cs k) ∙ ap₂ (rebuild R x) (head-eq_of_cons-eq e) rest ∙ rebuild_quot L x c' cs' k'

pub interpolates : Interpolates
interpolates =
    record {
      takes = λ R L inv xs vs hx hv a e. record { sized = length_interp L inv xs vs e; codes = codes_interp L inv xs vs hv; values = values_interp L inv xs vs hx hv a e };
      alone = λ R L inv xs vs hx a p q tp tq. same L inv xs p q tp.sized tq.sized hx a tp.codes tq.codes (tp.values ∙ sym tq.values);
    }
