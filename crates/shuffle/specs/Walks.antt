-- Cycle walking: a permutation of the numbers below W, repeated until below n, is a permutation of those below n. Assumes nothing.
use Rattle.std.specs.Prelude.{◌≡◌, ℕ, zero, suc, ◌+◌, ◌-◌, ◌<◌, ◌≤◌, cond, ◌⊎◌, nat_lt, refl}
use Rattle.std.proofs.Common.{sym, ap, subst, ◌∙◌, zero-le, suc-le-suc, le_of_suc-le-suc, not-suc-le-zero}
use Rattle.std.proofs.Math.Logic.{inl, inr}
use Rattle.std.proofs.Math.Nat.{zero-add, suc-add}
use native.Mathlib.Omega.{arith}
use Rattle.std.proofs.lemmas.Bool.{cases_lt, cond-true, cond-false, lt-ltb, le-ltb}
use Rattle.shuffle.specs.Walk.{Walk, here, more, until}
use Rattle.shuffle.specs.Pigeon.{Twice, pigeon}
use Rattle.shuffle.specs.Perms.{Perm, flip}

-- how many steps the first iterate below n takes, if at most F
unfoldable pub steps : (ℕ → ℕ) → ℕ → ℕ → ℕ → ℕ
steps f n zero x = zero
steps f n (suc F) x = cond (nat_lt x n) zero (suc (steps f n F (f x)))

-- ---- f applied t times

iter : (ℕ → ℕ) → ℕ → ℕ → ℕ
iter f zero x = x
iter f (suc t) x = iter f t (f x)

iter_suc : (f : ℕ → ℕ) (t x : ℕ) → iter f t (f x) ≡ f (iter f t x)
unfolding iter
iter_suc f zero x = refl
iter_suc f (suc t) x = iter_suc f t (f x)

module _ {W : ℕ} {f g : ℕ → ℕ} (u : Perm W f g) where
  iter_lt : (t x : ℕ) → x < W → iter f t x < W
  unfolding iter
  iter_lt zero x h = h
  iter_lt (suc t) x h = iter_lt t (f x) (u.f_lt x h)

  inj : (x y : ℕ) → x < W → y < W → f x ≡ f y → x ≡ y
  inj x y hx hy e = sym (u.gf x hx) ∙ ap g e ∙ u.gf y hy

  -- where a number comes back, it comes back to the start
  cancel : (i d x : ℕ) → x < W → iter f i x ≡ iter f (i + d) x → x ≡ iter f d x
  unfolding iter
  cancel zero d x h e = rw zero-add at e
  cancel (suc i) d x h e =
      inj x (iter f d x) h (iter_lt d x h)
      (cancel i d (f x) (u.f_lt x h) (rw suc-add at e) ∙ iter_suc f d x)

-- the walk from x, or t steps that stay at n or above
find : (f : ℕ → ℕ) (n t x : ℕ) → ((s : ℕ) × (y : ℕ) × (s ≤ t) × Walk f n s x y) ⊎ ((s : ℕ) → s ≤ t → n ≤ iter f s x)
unfolding iter
find f n zero x =
    elim (cases_lt x n) [
      | inl h ↦ inl (zero, x, zero-le, here h)
      | inr h ↦ inr (λ s l. let z : s ≡ 0 = omega arith in rw z h)
    ]
find f n (suc t) x =
    elim (cases_lt x n) [
      | inl h ↦ inl (zero, x, zero-le, here h)
      | inr h ↦ elim (find f n t (f x)) [
        | inl w ↦ inl (suc w.0, w.1, suc-le-suc w.2, more h w.3)
        | inr all ↦ inr (elim [ zero ↦ λ l. h | suc s ↦ λ l. all s (le_of_suc-le-suc l) ])
      ]
    ]

pub lands : {f : ℕ → ℕ} {n t a y : ℕ} → Walk f n t a y → y < n
lands (here h) = h
lands (more l w) = lands w

-- a walk has one end
pub walk_same : {f : ℕ → ℕ} {n t s x y z : ℕ} → Walk f n t x y → Walk f n s x z → y ≡ z
walk_same (here h) (here l) = refl
walk_same (more h v) (more l w) = walk_same v w
walk_same (here h) (more l w) = absurd (omega arith)
walk_same (more h v) (here l) = absurd (omega arith)

-- the function and the relation agree
pub until_is : (F : ℕ) {f : ℕ → ℕ} {n t x y : ℕ} → Walk f n t x y → t ≤ F → until f n F x ≡ y
unfolding until
until_is zero (here h) l = refl
until_is (suc F) {f} {n} (here {x} h) l = cond-true (nat_lt x n) x (until f n F (f x)) (lt-ltb x n h)
until_is zero (more h w) l = absurd (not-suc-le-zero l)
until_is (suc F) {f} {n} (more {x = x} h w) l =
    cond-false (nat_lt x n) x (until f n F (f x)) (le-ltb x n h) ∙ until_is F w (le_of_suc-le-suc l)

pub steps_is : (F : ℕ) {f : ℕ → ℕ} {n t x y : ℕ} → Walk f n t x y → t ≤ F → steps f n F x ≡ t
unfolding steps
steps_is zero (here h) l = refl
steps_is (suc F) {f} {n} (here {x} h) l = cond-true (nat_lt x n) zero (suc (steps f n F (f x))) (lt-ltb x n h)
steps_is zero (more h w) l = absurd (not-suc-le-zero l)
steps_is (suc F) {f} {n} (more {x = x} h w) l =
    cond-false (nat_lt x n) zero (suc (steps f n F (f x))) (le-ltb x n h) ∙ ap suc (steps_is F w (le_of_suc-le-suc l))

module _ {W : ℕ} {f g : ℕ → ℕ} (u : Perm W f g) where
  -- the way back from y goes through what the way out went through
  turn : {n t a y : ℕ} → Walk f n t a y → a < W → (s x : ℕ) → Walk g n s (g a) x → (r : ℕ) × (r ≡ t + s) × Walk g n r (g y) x
  turn (here l) h s x v = (s, sym (zero-add s), v)
  turn {n} (more {x = a} l w) h s x v =
      let v' : Walk g n (suc s) (g (f a)) x = subst (λ z. Walk g n (suc s) z x) (sym (u.gf a h)) (more l v) in
      let r = turn w (u.f_lt a h) (suc s) x v' in
      (r.0, omega (arith, r.1), r.2)

  -- a walk from below n comes below n again, after at most W steps
  pub ends : (n x : ℕ) → n ≤ W → x < n → (t : ℕ) × (y : ℕ) × (t ≤ W) × Walk f n t (f x) y
  unfolding iter
  ends n x fits h = elim (find f n W (f x)) [ inl w ↦ w | inr all ↦ absurd (never all) ]
    where
      hx : x < W
      hx = omega arith

      twice : Twice W (λ s. iter f s x)
      twice = pigeon W (λ s. iter f s x) (λ i l. iter_lt u i x hx)

      comes_back : (d : ℕ) → twice.1 ≡ twice.0 + suc d → x ≡ iter f d (f x)
      comes_back d e = cancel u twice.0 (suc d) x hx (twice.4 ∙ ap (λ z. iter f z x) e)

      never : ((s : ℕ) → s ≤ W → n ≤ iter f s (f x)) → ⊥
      never all =
          let d : ℕ = twice.1 - suc twice.0 in
          let small : d ≤ W = omega (arith, twice.3) in
          let e : twice.1 ≡ twice.0 + suc d = omega (arith, twice.2) in
          omega (arith, all d small, comes_back d e)

  -- ---- with W steps allowed
  module _ (F n : ℕ) (enough : W ≤ F) (fits : n ≤ W) where
    -- the function ends below n: it is the walk
    pub walks : (x : ℕ) → x < n → (t : ℕ) × (t ≤ F) × Walk f n t (f x) (until f n F (f x))
    walks x h =
        let w = ends n x fits h in
        let l : w.0 ≤ F = omega (arith, w.2) in
        (w.0, l, rw (until_is F w.3 l) w.3)

    pub stays : (x : ℕ) → x < n → until f n F (f x) < n
    stays x h = lands (walks x h).2

    -- out, then back
    pub there_and_back : (x : ℕ) → x < n → until g n F (g (until f n F (f x))) ≡ x
    there_and_back x h =
        let w = walks x h in
        let hx : x < W = omega arith in
        let home : Walk g n 0 (g (f x)) x = subst (λ z. Walk g n 0 z x) (sym (u.gf x hx)) (here h) in
        let r = turn w.2 (u.f_lt x hx) 0 x home in
        until_is F r.2 (omega (arith, r.1, w.1))

-- f, repeated until below n, is a permutation of the numbers below n, and g, repeated so, undoes it
pub walk_perm : {W : ℕ} {f g : ℕ → ℕ} → Perm W f g → (F n : ℕ) → W ≤ F → n ≤ W
    → Perm n (λ x. until f n F (f x)) (λ x. until g n F (g x))
walk_perm u F n enough fits =
    record {
      f_lt = stays u F n enough fits;
      g_lt = stays (flip u) F n enough fits;
      gf = there_and_back u F n enough fits;
      fg = there_and_back (flip u) F n enough fits;
    }

-- ---- what a loop needs: going on from x, y is where it ends
abbrev pub Going : (ℕ → ℕ) → ℕ → ℕ → ℕ → ℕ → Type 0
Going f n F x y = (t : ℕ) × (t ≤ F) × Walk f n t x y

pub arrived : {f : ℕ → ℕ} {n t x y : ℕ} → Walk f n t x y → x < n → x ≡ y
arrived (here h) l = refl
arrived (more h w) l = absurd (let z : 0 < 0 = omega arith in omega arith)

pub goes_on : {f : ℕ → ℕ} {n t x y : ℕ} → (F : ℕ) → t ≤ F → Walk f n t x y → n ≤ x → Going f n F (f x) y
goes_on F l (here h) m = absurd (let z : 0 < 0 = omega arith in omega arith)
goes_on F l (more {t} h w) m = (t, omega arith, w)

pub falls : {f : ℕ → ℕ} {n t x y : ℕ} → (F : ℕ) → t ≤ F → Walk f n t x y → n ≤ x → steps f n F (f x) < steps f n F x
falls F l (here h) m = absurd (let z : 0 < 0 = omega arith in omega arith)
falls F l (more {t} h w) m =
    let short : t ≤ F = omega arith in
    omega (arith, steps_is F (more h w) l, steps_is F w short)
