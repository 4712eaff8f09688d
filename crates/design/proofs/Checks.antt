-- A test that a table of levels is a design, and two tables that pass. Assumes nothing.
use Rattle.std.proofs.Common.{◌≡◌, ℕ, zero, suc, ◌^◌, ◌<◌, ◌≤◌, Bool, true, false, not, ◌&&◌, ◌||◌, T, eqb, ltb, List, [], ◌∷◌, map, length, sym, refl, ap, ◌∙◌, subst, inl, inr, arith, eqb→eq, ltb→lt}
use lib.Dec.{eqb_refl, not_T}
use Rattle.design.specs.Designs.{In, Distinct, Meets, Design}
use Rattle.design.specs.Models.{four, eight, DesignsExist}
use Rattle.design.proofs.Sums.{by_eq}

both : (a b : Bool) → T (a && b) → T a × T b
both true b h = (tt, h)
both false b h = absurd h

pair : (a b : Bool) → T a → T b → T (a && b)
pair true b h k = k
pair false b h k = absurd h

unfoldable pub implies : Bool → Bool → Bool
implies a b = not a || b

given : (a b : Bool) → T (implies a b) → T a → T b
unfolding implies
given true b h k = h
given false b h k = absurd k

unfoldable pub all_to : ℕ → (ℕ → Bool) → Bool
all_to zero p = true
all_to (suc n) p = p n && all_to n p

all_at : (n : ℕ) (p : ℕ → Bool) → T (all_to n p) → (i : ℕ) → i < n → T (p i)
unfolding all_to
all_at zero p h i q = absurd (omega arith)
all_at (suc n) p h i q =
    let r = both (p n) (all_to n p) h in
    by_eq i n (λ e. subst (λ (k : ℕ). T (p k)) (sym e) r.0) (λ o. all_at n p r.1 i (omega arith))

unfoldable pub any_to : ℕ → (ℕ → Bool) → Bool
any_to zero p = false
any_to (suc n) p = p n || any_to n p

any_at : (n : ℕ) (p : ℕ → Bool) → T (any_to n p) → (i : ℕ) × (i < n) × T (p i)
unfolding any_to
any_at zero p h = absurd h
any_at (suc n) p h = go (λ k. any_at n p k) (p n) refl h
  where
    go : (T (any_to n p) → (i : ℕ) × (i < n) × T (p i)) → (b : Bool) → p n ≡ b → T (b || any_to n p) → (i : ℕ) × (i < suc n) × T (p i)
    go ih true e k = (n, omega arith, subst T (sym e) tt)
    go ih false e k = let r = ih k in (r.0, omega arith, r.2)

-- p holds of each list of t numbers below n
unfoldable pub each_list : ℕ → ℕ → (List ℕ → Bool) → Bool
each_list zero n p = p []
each_list (suc t) n p = all_to n (λ x. each_list t n (λ l. p (x ∷ l)))

each_at : (t n : ℕ) (p : List ℕ → Bool) → T (each_list t n p) → (l : List ℕ) → length l ≡ t → ((x : ℕ) → In x l → x < n) → T (p l)
unfolding each_list
each_at zero n p h [] e b = h
each_at zero n p h (x ∷ l) e b = absurd (omega arith)
each_at (suc t) n p h [] e b = absurd (omega arith)
each_at (suc t) n p h (x ∷ l) e b =
    each_at t n (λ l. p (x ∷ l)) (all_at n (λ x. each_list t n (λ l. p (x ∷ l))) h x (b x (inl refl))) l (omega arith) (λ y m. b y (inr m))

-- the label i has the levels W at the factors F
unfoldable pub meets : (ℕ → ℕ → ℕ) → ℕ → List ℕ → List ℕ → Bool
meets level i [] W = true
meets level i (j ∷ F) [] = false
meets level i (j ∷ F) (x ∷ W) = eqb (level i j) x && meets level i F W

meets_out : (level : ℕ → ℕ → ℕ) (w : ℕ → ℕ) (i : ℕ) (F : List ℕ) → T (meets level i F (map w F)) → Meets level w F i
unfolding meets
meets_out level w i [] h j m = absurd m
meets_out level w i (k ∷ F) h j (inl e) = let r = eqb→eq (level i k) (w k) (both (eqb (level i k) (w k)) (meets level i F (map w F)) h).0 in cc
meets_out level w i (k ∷ F) h j (inr m) = meets_out level w i F (both (eqb (level i k) (w k)) (meets level i F (map w F)) h).1 j m

meets_in : (level : ℕ → ℕ → ℕ) (w : ℕ → ℕ) (i : ℕ) (F : List ℕ) → Meets level w F i → T (meets level i F (map w F))
unfolding meets
meets_in level w i [] h = tt
meets_in level w i (k ∷ F) h =
    pair (eqb (level i k) (w k)) (meets level i F (map w F))
    (subst (λ (x : ℕ). T (eqb (level i k) x)) (h k (inl refl)) (eqb_refl (level i k)))
    (meets_in level w i F (λ j m. h j (inr m)))

unfoldable pub lacks : ℕ → List ℕ → Bool
lacks x [] = true
lacks x (y ∷ l) = not (eqb x y) && lacks x l

lacks_in : (x : ℕ) (l : List ℕ) → (In x l → ⊥) → T (lacks x l)
unfolding lacks
lacks_in x [] o = tt
lacks_in x (y ∷ l) o = pair (not (eqb x y)) (lacks x l) (not_T (eqb x y) (λ t. o (inl (eqb→eq x y t)))) (lacks_in x l (λ m. o (inr m)))

unfoldable pub distinct : List ℕ → Bool
distinct [] = true
distinct (x ∷ l) = lacks x l && distinct l

distinct_in : (l : List ℕ) → Distinct l → T (distinct l)
unfolding distinct
distinct_in [] h = tt
distinct_in (x ∷ l) h = pair (lacks x l) (distinct l) (lacks_in x l h.0) (distinct_in l h.1)

in_map : (w : ℕ → ℕ) (s : ℕ) (F : List ℕ) → ((j : ℕ) → In j F → w j < s) → (x : ℕ) → In x (map w F) → x < s
in_map w s [] h x m = absurd m
in_map w s (k ∷ F) h x (inl e) = let r = h k (inl refl) in omega arith
in_map w s (k ∷ F) h x (inr m) = in_map w s F (λ j n. h j (inr n)) x m

length_of_map : (w : ℕ → ℕ) (F : List ℕ) → length (map w F) ≡ length F
length_of_map w [] = refl
length_of_map w (k ∷ F) = ap suc (length_of_map w F)

unfoldable pub found_test : (N s t : ℕ) → (ℕ → ℕ → ℕ) → List ℕ → Bool
found_test N s t level F = implies (distinct F) (each_list t s (λ W. any_to N (λ i. meets level i F W)))

unfoldable pub alone_test : (N : ℕ) → (ℕ → ℕ → ℕ) → List ℕ → Bool
alone_test N level F = implies (distinct F) (all_to N (λ i. all_to N (λ k. implies (meets level i F (map (level k) F)) (eqb i k))))

unfoldable pub inside_test : (N s d : ℕ) → (ℕ → ℕ → ℕ) → Bool
inside_test N s d level = all_to N (λ i. all_to d (λ j. ltb (level i j) s))

-- a table that passes the three tests is a design
pub checked : (N s d t : ℕ) (level : ℕ → ℕ → ℕ) → N ≡ s ^ t → 1 ≤ t → t ≤ d
    → T (inside_test N s d level) → T (each_list t d (found_test N s t level)) → T (each_list t d (alone_test N level)) → Design N s d t level
unfolding found_test alone_test inside_test
checked N s d t level size least most a b c = record {
  size = size;
  least = least;
  most = most;
  inside = λ i j p q. ltb→lt (level i j) s (all_at d (λ j. ltb (level i j) s) (all_at N (λ i. all_to d (λ j. ltb (level i j) s)) a i p) j q);
  found = λ F fs len w ok.
      let r = given (distinct F) (each_list t s (λ W. any_to N (λ i. meets level i F W))) (each_at t d (found_test N s t level) b F len fs.below) (distinct_in F fs.apart) in
      let u = any_at N (λ i. meets level i F (map w F)) (each_at t s (λ W. any_to N (λ i. meets level i F W)) r (map w F) (length_of_map w F ∙ len) (in_map w s F ok)) in
      (u.0, u.1, meets_out level w u.0 F u.2);
  alone = λ F fs len w i k p q m n.
      let r = given (distinct F) (all_to N (λ i. all_to N (λ k. implies (meets level i F (map (level k) F)) (eqb i k)))) (each_at t d (alone_test N level) c F len fs.below) (distinct_in F fs.apart) in
      let u = all_at N (λ k. implies (meets level i F (map (level k) F)) (eqb i k)) (all_at N (λ i. all_to N (λ k. implies (meets level i F (map (level k) F)) (eqb i k))) r i p) k q in
      eqb→eq i k (given (meets level i F (map (level k) F)) (eqb i k) u (meets_in level (level k) i F (λ j e. m j e ∙ sym (n j e))));
}

pub designs_exist : DesignsExist
unfolding found_test alone_test inside_test each_list all_to any_to meets distinct lacks implies
designs_exist = (
  checked 4 2 3 2 four refl (omega arith) (omega arith) tt tt tt,
  checked 8 2 4 3 eight refl (omega arith) (omega arith) tt tt tt,
)
