-- Factors that are not yet used. Assumes nothing.
use Rattle.std.proofs.Common.{◌≡◌, ℕ, zero, suc, ◌+◌, ◌<◌, ◌≤◌, ◌⊎◌, List, [], ◌∷◌, length, sym, refl, ap, ◌∙◌, subst, inl, inr, ⊎_elim, arith}
use Rattle.design.specs.Designs.{In, Factors}
use Rattle.design.proofs.Sums.{by_eq}

-- G without one n
removed : (n : ℕ) (G : List ℕ) → In n G → (R : List ℕ) × (length G ≡ suc (length R)) × ((x : ℕ) → (x ≡ n → ⊥) → In x G → In x R)
removed n [] m = absurd m
removed n (y ∷ G) (inl e) = (G, refl, λ x o m. ⊎_elim (λ p. absurd (o (p ∙ sym e))) (λ r. r) m)
removed n (y ∷ G) (inr m) =
    let (R, l, k) = removed n G m in
    (y ∷ R, ap suc l, λ x o p. ⊎_elim (λ e. inl e) (λ r. inr (k x o r)) p)

-- a list with every number below d has at least d entries
cover : (d : ℕ) (G : List ℕ) → ((x : ℕ) → x < d → In x G) → d ≤ length G
cover zero G c = omega arith
cover (suc n) G c =
    let (R, l, k) = removed n G (c n (omega arith)) in
    let r = cover n R (λ x q. k x (omega arith) (c x (omega arith))) in
    omega arith

is_in : (x : ℕ) (G : List ℕ) → Dec (In x G)
is_in x [] = no (λ m. m)
is_in x (y ∷ G) = go (is_in x G)
  where
    go : Dec (In x G) → Dec (In x (y ∷ G))
    go (yes m) = yes (inr m)
    go (no n) = by_eq x y (λ e. yes (inl e)) (λ o. no (λ m. ⊎_elim o n m))

fresh : (d : ℕ) (G : List ℕ) → ((x : ℕ) × (x < d) × (In x G → ⊥)) ⊎ ((x : ℕ) → x < d → In x G)
fresh zero G = inr (λ x q. absurd (omega arith))
fresh (suc n) G = go (is_in n G) (fresh n G)
  where
    go : Dec (In n G) → ((x : ℕ) × (x < n) × (In x G → ⊥)) ⊎ ((x : ℕ) → x < n → In x G) → ((x : ℕ) × (x < suc n) × (In x G → ⊥)) ⊎ ((x : ℕ) → x < suc n → In x G)
    go (no o) r = inl (n, omega arith, o)
    go (yes m) (inl r) = inl (r.0, omega arith, r.2)
    go (yes m) (inr c) = inr (λ x q. by_eq x n (λ e. subst (λ (k : ℕ). In k G) (sym e) m) (λ o. c x (omega arith)))

pub unused : (d : ℕ) (G : List ℕ) → length G < d → (x : ℕ) × (x < d) × (In x G → ⊥)
unused d G h = ⊎_elim (λ r. r) (λ c. absurd (omega (arith, cover d G c))) (fresh d G)

pub none : (d : ℕ) → Factors d []
none d = record { apart = tt; below = λ j m. absurd m }

pub more : (d j : ℕ) (F : List ℕ) → j < d → (In j F → ⊥) → Factors d F → Factors d (j ∷ F)
more d j F h o fs = record { apart = (o, fs.apart); below = λ k m. ⊎_elim (λ e. omega arith) (fs.below k) m }

rest : {d j : ℕ} {F : List ℕ} → Factors d (j ∷ F) → Factors d F
rest fs = record { apart = fs.apart.1; below = λ k m. fs.below k (inr m) }

-- m more factors beside f and F
pub fill : (d f m : ℕ) (F : List ℕ) → Factors d (f ∷ F) → length F + m < d → (R : List ℕ) × Factors d (f ∷ R) × (length R ≡ length F + m) × ((x : ℕ) → In x F → In x R)
fill d f zero F fs h = (F, fs, omega arith, λ x m. m)
fill d f (suc m) F fs h =
    let (x, q, o) = unused d (f ∷ F) (omega arith) in
    let away : In f (x ∷ F) → ⊥ = λ p. ⊎_elim (λ e. o (inl (sym e))) fs.apart.0 p in
    let gs = more d f (x ∷ F) (fs.below f (inl refl)) away (more d x F q (λ p. o (inr p)) (rest fs)) in
    let (R, hs, l, k) = fill d f m (x ∷ F) gs (omega arith) in
    (R, hs, omega arith, λ y p. k y (inr p))
