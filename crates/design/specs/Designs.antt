-- Orthogonal arrays of index 1, as designs of experiments: N labels try d factors at s levels.
--   Factors  pairwise different factors
--   Meets    a label has the level w j at each factor j of F
--   Design   any t factors with a level each are met by exactly one label
--   Depends  a quantity that is decided by the levels at the factors of F
--   sum_at   the sum of h over the labels with level a at factor f
-- Assumes nothing.
use Rattle.std.specs.Prelude.{◌≡◌, ℕ, ◌^◌, ◌<◌, ◌≤◌, ◌⊎◌, List, [], ◌∷◌, length, ℤ}
use Rattle.design.specs.Sums.{sum_to, only}

abbrev pub In : ℕ → List ℕ → Type 0
In x [] = ⊥
In x (y ∷ l) = (x ≡ y) ⊎ In x l

abbrev pub Distinct : List ℕ → Type 0
Distinct [] = Unit
Distinct (x ∷ l) = (In x l → ⊥) × Distinct l

-- pairwise different factors, each below d
pub record Factors (d : ℕ) (F : List ℕ) : Type 0 where
  pub apart : Distinct F
  pub below : (j : ℕ) → In j F → j < d

-- the label i has, at each factor j of F, the level w j
abbrev pub Meets : (ℕ → ℕ → ℕ) → (ℕ → ℕ) → List ℕ → ℕ → Type 0
Meets level w F i = (j : ℕ) → In j F → level i j ≡ w j

-- an orthogonal array of N labels, s levels, d factors and strength t
pub record Design (N s d t : ℕ) (level : ℕ → ℕ → ℕ) : Type 0 where
  pub size : N ≡ s ^ t
  pub least : 1 ≤ t
  pub most : t ≤ d
  pub inside : (i j : ℕ) → i < N → j < d → level i j < s
  pub found : (F : List ℕ) → Factors d F → length F ≡ t → (w : ℕ → ℕ) → ((j : ℕ) → In j F → w j < s) → (i : ℕ) × (i < N) × Meets level w F i
  pub alone : (F : List ℕ) → Factors d F → length F ≡ t → (w : ℕ → ℕ) (i k : ℕ) → i < N → k < N → Meets level w F i → Meets level w F k → i ≡ k

-- h tells apart only labels that differ at a factor of F
abbrev pub Depends : ℕ → (ℕ → ℕ → ℕ) → List ℕ → (ℕ → ℤ) → Type 0
Depends N level F h = (i k : ℕ) → i < N → k < N → Meets level (level k) F i → h i ≡ h k

-- the sum of h over the labels with level a at f
abbrev pub sum_at : ℕ → (ℕ → ℕ → ℕ) → ℕ → ℕ → (ℕ → ℤ) → ℤ
sum_at N level f a h = sum_to N (λ i. only (level i f) a (h i))
