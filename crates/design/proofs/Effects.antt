-- Fibres, and the effect of a factor. Assumes nothing.
use Rattle.std.proofs.Common.{◌≡◌, ℕ, zero, suc, ◌*◌, ◌/◌, ◌<◌, ◌≤◌, List, [], ◌∷◌, length, ℤ, pos, negsuc, ◌+ℤ◌, ◌-ℤ◌, ◌*ℤ◌, sym, refl, ap, ◌∙◌, inl, ⊎_elim, arith}
use native.Mathlib.Nat.{div-eq_of_eq-mul_right}
use lib.IntN.{*ℤ_comm}
use borrow.Author.Differences.{ints, same_out}
use Rattle.design.specs.Sums.{sum_to, only}
use Rattle.design.specs.Designs.{Factors, Design, Depends, sum_at}
use Rattle.design.specs.Claims.{Fibre, Effect}
use Rattle.design.proofs.Sums.{except, by_eq, only_same, only_other, except_same, only_iff, only_add, only_sum, mul_sub, sum_same, sum_add, sum_scale, sum_swap, sum_single, sum_split, sum_const}
use Rattle.design.proofs.Choice.{none, more}
use Rattle.design.proofs.Exchanges.{exchange_any}

quotient : (n s : ℕ) (z : ℤ) → 0 < s → pos n ≡ pos s *ℤ z → z ≡ pos (n / s)
quotient n s (pos m) h e = ap pos (sym (div-eq_of_eq-mul_right h (same_out (pos n) (pos (s * m)) e).0))
quotient n zero (negsuc m) h e = absurd (omega arith)
quotient n (suc s) (negsuc m) h e = absurd (omega (arith, ints))

module _ (N : ℕ) (level : ℕ → ℕ → ℕ) (f a : ℕ) where
  at_same : (g h : ℕ → ℤ) → ((i : ℕ) → i < N → g i ≡ h i) → sum_at N level f a g ≡ sum_at N level f a h
  at_same g h e = sum_same N (λ i. only (level i f) a (g i)) (λ i. only (level i f) a (h i)) (λ i q. ap (only (level i f) a) (e i q))

  at_add : (g h : ℕ → ℤ) → sum_at N level f a (λ i. g i +ℤ h i) ≡ sum_at N level f a g +ℤ sum_at N level f a h
  at_add g h =
      sum_same N (λ i. only (level i f) a (g i +ℤ h i)) (λ i. only (level i f) a (g i) +ℤ only (level i f) a (h i)) (λ i _. only_add (level i f) a (g i) (h i))
      ∙ sum_add N (λ i. only (level i f) a (g i)) (λ i. only (level i f) a (h i))

  at_sum : (n : ℕ) (h : ℕ → ℕ → ℤ) → sum_at N level f a (λ i. sum_to n (λ j. h j i)) ≡ sum_to n (λ j. sum_at N level f a (h j))
  at_sum n h =
      sum_same N (λ i. only (level i f) a (sum_to n (λ j. h j i))) (λ i. sum_to n (λ j. only (level i f) a (h j i))) (λ i _. only_sum (level i f) a n (λ j. h j i))
      ∙ sum_swap N n (λ i j. only (level i f) a (h j i))

  -- what depends on the level at f alone is constant on the fibre
  at_own : (x : ℕ → ℤ) → sum_at N level f a (λ i. x (level i f)) ≡ x a *ℤ sum_at N level f a (λ _. pos 1)
  at_own x =
      sum_same N (λ i. only (level i f) a (x (level i f))) (λ i. x a *ℤ only (level i f) a (pos 1)) (λ i _. here (level i f))
      ∙ sum_scale N (x a) (λ i. only (level i f) a (pos 1))
    where
      here : (c : ℕ) → only c a (x c) ≡ x a *ℤ only c a (pos 1)
      here c =
          by_eq c a
          (λ e. let p = only_same c a (x c) e in let q = only_same c a (pos 1) e in let r = ap x e in let u : x a *ℤ pos 1 ≡ x a = omega (arith, ints) in cc)
          (λ n. let p = only_other c a (x c) n in let q = only_other c a (pos 1) n in let u : x a *ℤ pos 0 ≡ pos 0 = omega (arith, ints) in cc)

module _ (N s d t : ℕ) (level : ℕ → ℕ → ℕ) (D : Design N s d t level) (f : ℕ) (hf : f < d) where
  fibre_total : sum_to s (λ b. sum_at N level f b (λ _. pos 1)) ≡ pos N
  fibre_total =
      sum_swap s N (λ b i. only (level i f) b (pos 1))
      ∙ sum_same N (λ i. sum_to s (λ b. only (level i f) b (pos 1))) (λ _. pos 1) row
      ∙ sum_const N (pos 1) ∙ omega (arith, ints)
    where
      row : (i : ℕ) → i < N → sum_to s (λ b. only (level i f) b (pos 1)) ≡ pos 1
      row i q =
          sum_same s (λ b. only (level i f) b (pos 1)) (λ b. only b (level i f) (pos 1)) (λ b _. only_iff (level i f) b b (level i f) (pos 1) sym sym)
          ∙ sum_single s (level i f) (λ _. pos 1) (D.inside i f q hf)

  fibre_size : (a : ℕ) → a < s → sum_at N level f a (λ _. pos 1) ≡ pos (N / s)
  fibre_size a ha =
      quotient N s (sum_at N level f a (λ _. pos 1)) (omega arith)
      (sym fibre_total
      ∙ sum_same s (λ b. sum_at N level f b (λ _. pos 1)) (λ _. sum_at N level f a (λ _. pos 1))
      (λ b hb. exchange_any N s d t level D f b a hb ha [] (more d f [] hf (λ m. m) (none d)) D.least (λ _. pos 1) (λ i k p q m. refl))
      ∙ sum_const s (sum_at N level f a (λ _. pos 1)))

pub fibre : Fibre
fibre N s d t level D f a hf ha = fibre_size N s d t level D f hf a ha

-- h has one sum over the labels with level a at f and those with level b
abbrev Null : ℕ → (ℕ → ℕ → ℕ) → ℕ → ℕ → ℕ → (ℕ → ℤ) → Type 0
Null N level f a b h = sum_at N level f a h ≡ sum_at N level f b h

null_add : (N : ℕ) (level : ℕ → ℕ → ℕ) (f a b : ℕ) (g h : ℕ → ℤ) → Null N level f a b g → Null N level f a b h → Null N level f a b (λ i. g i +ℤ h i)
null_add N level f a b g h p q = let x = at_add N level f a g h in let y = at_add N level f b g h in cc

null_sum : (N : ℕ) (level : ℕ → ℕ → ℕ) (f a b n : ℕ) (h : ℕ → ℕ → ℤ) → ((j : ℕ) → j < n → Null N level f a b (h j)) → Null N level f a b (λ i. sum_to n (λ j. h j i))
null_sum N level f a b n h e =
    at_sum N level f a n h
    ∙ sum_same n (λ j. sum_at N level f a (h j)) (λ j. sum_at N level f b (h j)) e
    ∙ sym (at_sum N level f b n h)

apart : (u v r x y : ℤ) → x ≡ u +ℤ r → y ≡ v +ℤ r → x -ℤ y ≡ u -ℤ v
apart u v r x y p q = omega (arith, ints)

module _ (N s d t : ℕ) (level : ℕ → ℕ → ℕ) (D : Design N s d t level) (f a b : ℕ) (hf : f < d) (ha : a < s) (hb : b < s) where
  -- a share of the level at f, and what is null beside it
  effect_of : (x r grade : ℕ → ℤ) → ((i : ℕ) → i < N → grade i ≡ x (level i f) +ℤ r i) → Null N level f a b r
      → sum_at N level f a grade -ℤ sum_at N level f b grade ≡ pos (N / s) *ℤ (x a -ℤ x b)
  effect_of x r grade e null =
      apart (pos (N / s) *ℤ x a) (pos (N / s) *ℤ x b) (sum_at N level f b r) (sum_at N level f a grade) (sum_at N level f b grade)
      (let p = part a ha in cc) (part b hb)
      ∙ sym (mul_sub (pos (N / s)) (x a) (x b))
    where
      part : (c : ℕ) → c < s → sum_at N level f c grade ≡ pos (N / s) *ℤ x c +ℤ sum_at N level f c r
      part c hc =
          let p = at_same N level f c grade (λ i. x (level i f) +ℤ r i) e in
          let q = at_add N level f c (λ i. x (level i f)) r in
          let o = at_own N level f c x in
          let z = fibre_size N s d t level D f hf c hc in
          let m = *ℤ_comm (x c) (pos (N / s)) in cc

  null_of : (G : List ℕ) → Factors d (f ∷ G) → length G < t → (h : ℕ → ℤ) → Depends N level G h → Null N level f a b h
  null_of G fs short h dep = exchange_any N s d t level D f a b ha hb G fs short h dep

  null_constant : (h : ℕ → ℤ) → ((i k : ℕ) → h i ≡ h k) → Null N level f a b h
  null_constant h e = null_of [] (more d f [] hf (λ m. m) (none d)) D.least h (λ i k p q m. e i k)

  null_share : 2 ≤ t → (share : ℕ → ℕ → ℤ) (j : ℕ) → j < d → Null N level f a b (λ i. except j f (share j (level i j)))
  null_share two share j hj =
      by_eq j f
      (λ e. null_constant (λ i. except j f (share j (level i j))) (λ i k. except_same j f (share j (level i j)) e ∙ sym (except_same j f (share j (level k j)) e)))
      (λ n.
      null_of (j ∷ []) (more d f (j ∷ []) hf (λ m. ⊎_elim (λ e. n (sym e)) (λ z. z) m) (more d j [] hj (λ m. m) (none d))) two
      (λ i. except j f (share j (level i j))) (λ i k p q m. ap (λ (c : ℕ). except j f (share j c)) (m j (inl refl))))

  null_rest : 2 ≤ t → (base : ℤ) (share : ℕ → ℕ → ℤ) → Null N level f a b (λ i. base +ℤ sum_to d (λ j. except j f (share j (level i j))))
  null_rest two base share =
      null_add N level f a b (λ _. base) (λ i. sum_to d (λ j. except j f (share j (level i j))))
      (null_constant (λ _. base) (λ i k. refl))
      (null_sum N level f a b d (λ j i. except j f (share j (level i j))) (null_share two share))

  grade_split : (base : ℤ) (share : ℕ → ℕ → ℤ) (i : ℕ) → base +ℤ sum_to d (λ j. share j (level i j)) ≡ share f (level i f) +ℤ (base +ℤ sum_to d (λ j. except j f (share j (level i j))))
  grade_split base share i = let e = sum_split d f (λ j. share j (level i j)) hf in omega (arith, ints)

pub effect : Effect
effect N s d t level D two f a b hf ha hb base share grade e =
    effect_of N s d t level D f a b hf ha hb (share f) (λ i. base +ℤ sum_to d (λ j. except j f (share j (level i j)))) grade
    (λ i q. e i q ∙ grade_split N s d t level D f a b hf ha hb base share i)
    (null_rest N s d t level D f a b hf ha hb two base share)
