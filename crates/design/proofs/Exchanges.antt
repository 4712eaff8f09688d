-- The exchange of two levels, and coverage. Assumes nothing.
use Rattle.std.proofs.Common.{◌≡◌, ℕ, suc, ◌-◌, ◌<◌, cond, T, eqb, List, ◌∷◌, length, ℤ, sym, refl, ap, ◌∙◌, subst, inl, inr, arith}
use native.Mathlib.Decide.{dec_lt}
use Rattle.std.proofs.lemmas.Bool.{eq-eqb, ne_eqb}
use Rattle.design.specs.Sums.{only}
use Rattle.design.specs.Designs.{In, Factors, Meets, Design, Depends, sum_at}
use Rattle.design.specs.Claims.{Exchange, Coverage}
use Rattle.design.proofs.Sums.{by_eq, only_iff, sum_same, sum_moved}
use Rattle.design.proofs.Choice.{fill}

pub coverage : Coverage
coverage N s d t level D F fs len graded = (
  λ cov i q.
      let r = cov (level i) (λ j m. D.inside i j q (fs.below j m)) in
      let e = D.alone F fs len (level i) r.0 i r.1 q r.3 (λ j m. refl) in
      subst (λ (k : ℕ). T (graded k)) e r.2,
  λ all w ok. let r = D.found F fs len w ok in (r.0, r.1, all r.0 r.1, r.2),
)

-- a and b change places
swapped : ℕ → ℕ → ℕ → ℕ
swapped a b c = cond (eqb c a) b (cond (eqb c b) a c)

swapped_below : (s a b c : ℕ) → a < s → b < s → c < s → swapped a b c < s
unfolding swapped
swapped_below s a b c p q r = grind arith

swapped_twice : (a b c : ℕ) → swapped a b (swapped a b c) ≡ c
unfolding swapped
swapped_twice a b c = grind arith

swapped_to : (a b c : ℕ) → swapped a b c ≡ a → c ≡ b
unfolding swapped
swapped_to a b c e = grind arith

swapped_from : (a b c : ℕ) → c ≡ b → swapped a b c ≡ a
unfolding swapped
swapped_from a b c e = grind arith

-- the levels of the label i, with a and b in each other's place at f
wish : (ℕ → ℕ → ℕ) → ℕ → ℕ → ℕ → ℕ → ℕ → ℕ
wish level f a b i j = cond (eqb j f) (swapped a b (level i f)) (level i j)

wish_at : (level : ℕ → ℕ → ℕ) (f a b i j : ℕ) → j ≡ f → wish level f a b i j ≡ swapped a b (level i f)
unfolding wish
wish_at level f a b i j e = rw (eq-eqb j f e)

wish_off : (level : ℕ → ℕ → ℕ) (f a b i j : ℕ) → (j ≡ f → ⊥) → wish level f a b i j ≡ level i j
unfolding wish
wish_off level f a b i j n = rw (ne_eqb j f n)

module _ (N s d t : ℕ) (level : ℕ → ℕ → ℕ) (D : Design N s d t level) (f a b : ℕ) (ha : a < s) (hb : b < s) (F : List ℕ) (fs : Factors d (f ∷ F)) (len : length (f ∷ F) ≡ t) where
  wish_below : (i : ℕ) → i < N → (j : ℕ) → In j (f ∷ F) → wish level f a b i j < s
  wish_below i q j m =
      by_eq j f
      (λ e. rw (wish_at level f a b i j e) (swapped_below s a b (level i f) ha hb (D.inside i f q (fs.below f (inl refl)))))
      (λ n. rw (wish_off level f a b i j n) (D.inside i j q (fs.below j m)))

  -- the label with that wish, where i is a label
  partner : (i : ℕ) → (k : ℕ) × (i < N → (k < N) × Meets level (wish level f a b i) (f ∷ F) k)
  partner i = go (dec_lt i N)
    where
      go : Dec (i < N) → (k : ℕ) × (i < N → (k < N) × Meets level (wish level f a b i) (f ∷ F) k)
      go (yes q) = let r = D.found (f ∷ F) fs len (wish level f a b i) (wish_below i q) in (r.0, λ _. (r.1, r.2))
      go (no n) = (i, λ q. absurd (n q))

  σ : ℕ → ℕ
  σ i = (partner i).0

  σ-below : (i : ℕ) → i < N → σ i < N
  unfolding σ
  σ-below i q = ((partner i).1 q).0

  σ-at : (i : ℕ) → i < N → level (σ i) f ≡ swapped a b (level i f)
  unfolding σ
  σ-at i q = ((partner i).1 q).1 f (inl refl) ∙ wish_at level f a b i f refl

  σ-off : (i : ℕ) → i < N → (j : ℕ) → In j (f ∷ F) → (j ≡ f → ⊥) → level (σ i) j ≡ level i j
  unfolding σ
  σ-off i q j m n = ((partner i).1 q).1 j m ∙ wish_off level f a b i j n

  σ-twice : (i : ℕ) → i < N → σ (σ i) ≡ i
  σ-twice i q =
      D.alone (f ∷ F) fs len (level i) (σ (σ i)) i (σ-below (σ i) (σ-below i q)) q
      (λ j m.
      by_eq j f
      (λ e.
      let x = σ-at (σ i) (σ-below i q) in
      let y = σ-at i q in
      let z = swapped_twice a b (level i f) in cc)
      (λ n. σ-off (σ i) (σ-below i q) j m n ∙ σ-off i q j m n))
      (λ j m. refl)

  exchanged : (h : ℕ → ℤ) → Depends N level F h → sum_at N level f a h ≡ sum_at N level f b h
  exchanged h dep =
      sym (sum_moved N σ σ (record { into = σ-below; back = σ-below; left = σ-twice; right = σ-twice }) (λ i. only (level i f) a (h i)))
      ∙ sum_same N (λ i. only (level (σ i) f) a (h (σ i))) (λ i. only (level i f) b (h i)) step
    where
      kept : (i : ℕ) → i < N → h (σ i) ≡ h i
      kept i q = dep (σ i) i (σ-below i q) q (λ j m. σ-off i q j (inr m) (λ e. fs.apart.0 (subst (λ (k : ℕ). In k F) e m)))

      step : (i : ℕ) → i < N → only (level (σ i) f) a (h (σ i)) ≡ only (level i f) b (h i)
      step i q =
          ap (only (level (σ i) f) a) (kept i q)
          ∙ only_iff (level (σ i) f) a (level i f) b (h i)
          (λ e. swapped_to a b (level i f) (sym (σ-at i q) ∙ e))
          (λ e. σ-at i q ∙ swapped_from a b (level i f) e)

pub exchange : Exchange
exchange N s d t level D f a b ha hb F fs len h dep = exchanged N s d t level D f a b ha hb F fs len h dep

-- the same for fewer factors than t - 1
pub exchange_any : (N s d t : ℕ) (level : ℕ → ℕ → ℕ) → Design N s d t level → (f a b : ℕ) → a < s → b < s
    → (G : List ℕ) → Factors d (f ∷ G) → length G < t → (h : ℕ → ℤ) → Depends N level G h
    → sum_at N level f a h ≡ sum_at N level f b h
exchange_any N s d t level D f a b ha hb G fs short h dep =
    let (R, gs, l, k) = fill d f (t - suc (length G)) G fs (omega (arith, D.most)) in
    exchange N s d t level D f a b ha hb R gs (omega arith) h (λ i o p q m. dep i o p q (λ j e. m j (k j e)))
