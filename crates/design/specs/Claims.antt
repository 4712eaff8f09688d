-- What holds of every orthogonal array, whatever it was made by.
--   SumLaws   finite sums of integers
--   Exchange  what does not depend on factor f has the same sum at any two levels of f
--   Fibre     each level of a factor is on N/s labels
--   Effect    grades that are a base plus a share per factor's level show the shares' difference, N/s times
--   Coverage  each combination of levels of t factors is on a graded label exactly where all labels are graded
-- Assumes nothing.
use Rattle.std.specs.Prelude.{◌≡◌, ℕ, ◌/◌, ◌<◌, ◌≤◌, Bool, T, ◌↔◌, List, ◌∷◌, length, ℤ, pos, ◌+ℤ◌, ◌-ℤ◌, ◌*ℤ◌}
use Rattle.design.specs.Sums.{sum_to, only, Inverse}
use Rattle.design.specs.Designs.{In, Factors, Meets, Design, Depends, sum_at}

pub record SumLaws : Type 0 where
  pub add : (n : ℕ) (g h : ℕ → ℤ) → sum_to n (λ i. g i +ℤ h i) ≡ sum_to n g +ℤ sum_to n h
  pub scale : (n : ℕ) (c : ℤ) (g : ℕ → ℤ) → sum_to n (λ i. c *ℤ g i) ≡ c *ℤ sum_to n g
  pub same : (n : ℕ) (g h : ℕ → ℤ) → ((i : ℕ) → i < n → g i ≡ h i) → sum_to n g ≡ sum_to n h
  pub swap : (m n : ℕ) (h : ℕ → ℕ → ℤ) → sum_to m (λ i. sum_to n (λ j. h i j)) ≡ sum_to n (λ j. sum_to m (λ i. h i j))
  pub single : (n k : ℕ) (g : ℕ → ℤ) → k < n → sum_to n (λ i. only i k (g i)) ≡ g k
  pub moved : (n : ℕ) (σ τ : ℕ → ℕ) → Inverse n σ τ → (g : ℕ → ℤ) → sum_to n (λ i. g (σ i)) ≡ sum_to n g

abbrev pub Exchange : Type 0
Exchange =
    (N s d t : ℕ) (level : ℕ → ℕ → ℕ) → Design N s d t level → (f a b : ℕ) → a < s → b < s
    → (F : List ℕ) → Factors d (f ∷ F) → length (f ∷ F) ≡ t → (h : ℕ → ℤ) → Depends N level F h
    → sum_at N level f a h ≡ sum_at N level f b h

abbrev pub Fibre : Type 0
Fibre =
    (N s d t : ℕ) (level : ℕ → ℕ → ℕ) → Design N s d t level → (f a : ℕ) → f < d → a < s
    → sum_at N level f a (λ _. pos 1) ≡ pos (N / s)

abbrev pub Effect : Type 0
Effect =
    (N s d t : ℕ) (level : ℕ → ℕ → ℕ) → Design N s d t level → 2 ≤ t → (f a b : ℕ) → f < d → a < s → b < s
    → (base : ℤ) (share : ℕ → ℕ → ℤ) (grade : ℕ → ℤ)
    → ((i : ℕ) → i < N → grade i ≡ base +ℤ sum_to d (λ j. share j (level i j)))
    → sum_at N level f a grade -ℤ sum_at N level f b grade ≡ pos (N / s) *ℤ (share f a -ℤ share f b)

abbrev pub Coverage : Type 0
Coverage =
    (N s d t : ℕ) (level : ℕ → ℕ → ℕ) → Design N s d t level → (F : List ℕ) → Factors d F → length F ≡ t → (graded : ℕ → Bool)
    → ((w : ℕ → ℕ) → ((j : ℕ) → In j F → w j < s) → (i : ℕ) × (i < N) × T (graded i) × Meets level w F i)
    ↔ ((i : ℕ) → i < N → T (graded i))
