-- The laws of finite sums. Assumes nothing.
use Rattle.std.proofs.Common.{◌≡◌, ℕ, zero, suc, ◌*◌, ◌<◌, ◌≤◌, cond, eqb, ℤ, pos, ◌+ℤ◌, ◌-ℤ◌, ◌*ℤ◌, neg_ℤ, sym, refl, ap, ◌∙◌, ⊎_elim, arith}
use borrow.Author.Differences.{ints, up, down, sum_is_lem, neg_is}
use Rattle.std.proofs.lemmas.Bool.{eq-eqb, ne_eqb, cases_eq}
use Rattle.design.specs.Sums.{sum_to, only, Inverse}
use Rattle.design.specs.Claims.{SumLaws}

-- 0 where c is a, and x elsewhere
abbrev pub except : ℕ → ℕ → ℤ → ℤ
except c a x = cond (eqb c a) (pos 0) x

pub sum_same : (n : ℕ) (g h : ℕ → ℤ) → ((i : ℕ) → i < n → g i ≡ h i) → sum_to n g ≡ sum_to n h
sum_same zero g h e = refl
sum_same (suc n) g h e =
    let r : sum_to n g ≡ sum_to n h = sum_same n g h (λ i q. e i (omega arith)) in
    let l : g n ≡ h n = e n (omega arith) in cc

pub sum_add : (n : ℕ) (g h : ℕ → ℤ) → sum_to n (λ i. g i +ℤ h i) ≡ sum_to n g +ℤ sum_to n h
sum_add zero g h = refl
sum_add (suc n) g h = let r = sum_add n g h in omega (arith, ints)

times : (k : ℕ) {m n : ℕ} → m ≡ n → k * m ≡ k * n
times k e = ap (λ (n : ℕ). k * n) e

-- `omega` multiplies no fact by an unknown: hand over the sum's fact, times either part of c
pub mul_add : (c x y : ℤ) → c *ℤ (x +ℤ y) ≡ c *ℤ x +ℤ c *ℤ y
mul_add c x y = omega (arith, ints, times (up c) (sum_is_lem x y), times (down c) (sum_is_lem x y))

pub mul_neg : (c y : ℤ) → c *ℤ neg_ℤ y ≡ neg_ℤ (c *ℤ y)
mul_neg c y =
    let n = neg_is y in
    omega (arith, ints, times (up c) n.0, times (up c) n.1, times (down c) n.0, times (down c) n.1)

pub mul_sub : (c x y : ℤ) → c *ℤ (x -ℤ y) ≡ c *ℤ x -ℤ c *ℤ y
mul_sub c x y = let e = mul_add c x (neg_ℤ y) in let n = mul_neg c y in cc

pub sum_scale : (n : ℕ) (c : ℤ) (g : ℕ → ℤ) → sum_to n (λ i. c *ℤ g i) ≡ c *ℤ sum_to n g
sum_scale zero c g = omega (arith, ints)
sum_scale (suc n) c g = let r = sum_scale n c g in let l = mul_add c (sum_to n g) (g n) in cc

pub sum_zero : (n : ℕ) → sum_to n (λ i. pos 0) ≡ pos 0
sum_zero zero = refl
sum_zero (suc n) = let r = sum_zero n in omega (arith, ints)

pub sum_swap : (m n : ℕ) (h : ℕ → ℕ → ℤ) → sum_to m (λ i. sum_to n (λ j. h i j)) ≡ sum_to n (λ j. sum_to m (λ i. h i j))
sum_swap zero n h = sym (sum_zero n)
sum_swap (suc m) n h =
    let r = sum_swap m n h in
    let l = sum_add n (λ j. sum_to m (λ i. h i j)) (λ j. h m j) in cc

pub only_same : (c a : ℕ) (x : ℤ) → c ≡ a → only c a x ≡ x
only_same c a x e = rw (eq-eqb c a e)

pub only_other : (c a : ℕ) (x : ℤ) → (c ≡ a → ⊥) → only c a x ≡ pos 0
only_other c a x n = rw (ne_eqb c a n)

pub except_same : (c a : ℕ) (x : ℤ) → c ≡ a → except c a x ≡ pos 0
except_same c a x e = rw (eq-eqb c a e)

pub except_other : (c a : ℕ) (x : ℤ) → (c ≡ a → ⊥) → except c a x ≡ x
except_other c a x n = rw (ne_eqb c a n)

-- a number is k or is not
pub by_eq : {P : Type 0} (c a : ℕ) → (c ≡ a → P) → ((c ≡ a → ⊥) → P) → P
by_eq c a f g = ⊎_elim f g (cases_eq c a)

-- no place below n is k
sum_none : (n k : ℕ) (g : ℕ → ℤ) → n ≤ k → sum_to n (λ i. only i k (g i)) ≡ pos 0
sum_none n k g h =
    sum_same n (λ i. only i k (g i)) (λ i. pos 0) (λ i q. only_other i k (g i) (omega arith)) ∙ sum_zero n

pub sum_single : (n k : ℕ) (g : ℕ → ℤ) → k < n → sum_to n (λ i. only i k (g i)) ≡ g k
sum_single zero k g h = absurd (omega arith)
sum_single (suc n) k g h =
    by_eq n k
    (λ e. let z = sum_none n k g (omega arith) in let o = only_same n k (g n) e in let q = ap g e in omega (arith, ints))
    (λ o. let r = sum_single n k g (omega arith) in let z = only_other n k (g n) o in omega (arith, ints))

pub only_iff : (c a e k : ℕ) (x : ℤ) → (c ≡ a → e ≡ k) → (e ≡ k → c ≡ a) → only c a x ≡ only e k x
only_iff c a e k x to from =
    by_eq c a
    (λ p. only_same c a x p ∙ sym (only_same e k x (to p)))
    (λ n. only_other c a x n ∙ sym (only_other e k x (λ p. n (from p))))

pub sum_moved : (n : ℕ) (σ τ : ℕ → ℕ) → Inverse n σ τ → (g : ℕ → ℤ) → sum_to n (λ i. g (σ i)) ≡ sum_to n g
sum_moved n σ τ inv g =
    sum_same n (λ i. g (σ i)) (λ i. sum_to n (λ k. only k (σ i) (g k))) (λ i q. sym (sum_single n (σ i) g (inv.into i q)))
    ∙ sum_swap n n (λ i k. only k (σ i) (g k))
    ∙ sum_same n (λ k. sum_to n (λ i. only k (σ i) (g k))) g (λ k p. column k p)
  where
    column : (k : ℕ) → k < n → sum_to n (λ i. only k (σ i) (g k)) ≡ g k
    column k p =
        sum_same n (λ i. only k (σ i) (g k)) (λ i. only i (τ k) (g k))
        (λ i q. only_iff k (σ i) i (τ k) (g k) (λ e. let l = inv.left i q in cc) (λ e. let r = inv.right k p in cc))
        ∙ sum_single n (τ k) (λ _. g k) (inv.back k p)

pub sum_laws : SumLaws
sum_laws = record { add = sum_add; scale = sum_scale; same = sum_same; swap = sum_swap; single = sum_single; moved = sum_moved }

-- the term at k, and the others
pub sum_split : (n k : ℕ) (g : ℕ → ℤ) → k < n → sum_to n g ≡ g k +ℤ sum_to n (λ j. except j k (g j))
sum_split n k g h =
    sum_same n g (λ j. only j k (g j) +ℤ except j k (g j)) (λ j _. both j)
    ∙ sum_add n (λ j. only j k (g j)) (λ j. except j k (g j))
    ∙ ap (λ (z : ℤ). z +ℤ sum_to n (λ j. except j k (g j))) (sum_single n k g h)
  where
    both : (j : ℕ) → g j ≡ only j k (g j) +ℤ except j k (g j)
    both j =
        by_eq j k
        (λ e. let o = only_same j k (g j) e in let x = except_same j k (g j) e in omega (arith, ints))
        (λ n. let o = only_other j k (g j) n in let x = except_other j k (g j) n in omega (arith, ints))

pub only_add : (c a : ℕ) (x y : ℤ) → only c a (x +ℤ y) ≡ only c a x +ℤ only c a y
only_add c a x y =
    by_eq c a
    (λ e. let p = only_same c a x e in let q = only_same c a y e in let r = only_same c a (x +ℤ y) e in cc)
    (λ n. let p = only_other c a x n in let q = only_other c a y n in let r = only_other c a (x +ℤ y) n in omega (arith, ints))

pub only_sum : (c a n : ℕ) (h : ℕ → ℤ) → only c a (sum_to n h) ≡ sum_to n (λ j. only c a (h j))
only_sum c a zero h = by_eq c a (λ e. only_same c a (pos 0) e) (λ o. only_other c a (pos 0) o)
only_sum c a (suc n) h = only_add c a (sum_to n h) (h n) ∙ ap (λ (z : ℤ). z +ℤ only c a (h n)) (only_sum c a n h)

pub sum_const : (n : ℕ) (x : ℤ) → sum_to n (λ i. x) ≡ pos n *ℤ x
sum_const zero x = omega (arith, ints)
sum_const (suc n) x = let r = sum_const n x in omega (arith, ints)
