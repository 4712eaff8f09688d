-- Counts of the numbers below n that pass a test. Assumes nothing.
use Rattle.std.proofs.Common.{◌≡◌, ℕ, zero, suc, ◌+◌, ◌*◌, ◌<◌, ◌≤◌, Bool, true, cond, eqb, List, length, get_or, set, sym, refl, ap, ◌∙◌, subst, ⊎_elim, suc-mul, zero-mul, add-one, arith, get_or-set_other, get_or-set_same}
use Rattle.std.proofs.lemmas.Bool.{cases_lt, cases_eq, cases_Bool, eq-eqb, ne_eqb, cond_both, cond-true, cond-false}
use Rattle.strength.specs.Arrays.{tally}

pub tally_low : (test : ℕ → Bool) (n : ℕ) → tally test n ≤ n
tally_low test zero = omega arith
tally_low test (suc n) = cond_both (test n) 1 0 (λ z. tally test n + z ≤ suc n) (λ e. omega (arith, tally_low test n)) (λ e. omega (arith, tally_low test n))

pub tally_alike : (p q : ℕ → Bool) (n : ℕ) → ((i : ℕ) → i < n → p i ≡ q i) → tally p n ≡ tally q n
tally_alike p q zero h = refl
tally_alike p q (suc n) h =
    let rest : tally p n ≡ tally q n = tally_alike p q n (λ i l. h i (omega arith)) in
    let here : ◌≡◌ {A = ℕ} (cond (p n) 1 0) (cond (q n) 1 0) = ap (λ (b : Bool). cond b 1 0) (h n (omega arith)) in
    omega (arith, rest, here)

-- f 0 + .. + f (n - 1)
abbrev pub sum_to : (ℕ → ℕ) → ℕ → ℕ
sum_to f zero = 0
sum_to f (suc n) = sum_to f n + f n

pub sum_even : (f : ℕ → ℕ) (v n : ℕ) → ((m : ℕ) → m < n → f m ≡ v) → sum_to f n ≡ n * v
sum_even f v zero h = sym (zero-mul v)
sum_even f v (suc n) h = omega (arith, sum_even f v n (λ m l. h m (omega arith)), h n (omega arith), suc-mul n v)

sum_added : (f g : ℕ → ℕ) (n : ℕ) → sum_to (λ m. f m + g m) n ≡ sum_to f n + sum_to g n
sum_added f g zero = refl
sum_added f g (suc n) = omega (arith, sum_added f g n)

-- a number is one of those below n
sum_none : (k n : ℕ) → n ≤ k → sum_to (λ m. cond (eqb k m) 1 0) n ≡ 0
sum_none k zero h = refl
sum_none k (suc n) h =
    omega (arith, sum_none k n (omega arith), cond-false {A = ℕ} (eqb k n) 1 0 (ne_eqb k n (λ e. omega arith)))

sum_one : (k n : ℕ) → k < n → sum_to (λ m. cond (eqb k m) 1 0) n ≡ 1
sum_one k zero h = absurd (omega arith)
sum_one k (suc n) h = ⊎_elim (λ l. below l (sum_one k n l)) here (cases_lt k n)
  where
    below : k < n → sum_to (λ m. cond (eqb k m) 1 0) n ≡ 1 → sum_to (λ m. cond (eqb k m) 1 0) (suc n) ≡ 1
    below l e = omega (arith, e, cond-false {A = ℕ} (eqb k n) 1 0 (ne_eqb k n (λ is. omega arith)))

    here : n ≤ k → sum_to (λ m. cond (eqb k m) 1 0) (suc n) ≡ 1
    here l = omega (arith, sum_none k n l, cond-true {A = ℕ} (eqb k n) 1 0 (eq-eqb k n (omega arith)))

-- counted by a value below v, all n come to n
pub tallies_sum : (f : ℕ → ℕ) (v n : ℕ) → ((i : ℕ) → i < n → f i < v) → sum_to (λ m. tally (λ i. eqb (f i) m) n) v ≡ n
tallies_sum f v zero h = sum_even (λ m. 0) 0 v (λ m l. refl) ∙ omega arith
tallies_sum f v (suc n) h =
    sum_added (λ m. tally (λ i. eqb (f i) m) n) (λ m. cond (eqb (f n) m) 1 0) v
    ∙ omega (arith, tallies_sum f v n (λ i l. h i (omega arith)), sum_one (f n) v (h n (omega arith)))

-- counters that are right for n numbers are right for one more where its own is raised
pub recount : (f : ℕ → ℕ) (v : ℕ) (xs : List ℕ) (n : ℕ) → length xs ≡ v → f n < v → ((j : ℕ) → j < v → get_or xs j 0 ≡ tally (λ i. eqb (f i) j) n)
    → (j : ℕ) → j < v → get_or (set xs (f n) (get_or xs (f n) 0 + 1)) j 0 ≡ tally (λ i. eqb (f i) j) (n + 1)
recount f v xs n long l h j below =
    subst (λ z. get_or (set xs (f n) (get_or xs (f n) 0 + 1)) j 0 ≡ tally (λ i. eqb (f i) j) z) (sym (add-one n)) (⊎_elim here there (cases_eq (f n) j))
  where
    here : f n ≡ j → get_or (set xs (f n) (get_or xs (f n) 0 + 1)) j 0 ≡ tally (λ i. eqb (f i) j) (suc n)
    here e =
        subst (λ z. get_or (set xs z (get_or xs z 0 + 1)) j 0 ≡ tally (λ i. eqb (f i) j) (suc n)) (sym e)
        (get_or-set_same xs j (get_or xs j 0 + 1) 0 (omega arith) ∙ omega (arith, h j below, cond-true {A = ℕ} (eqb (f n) j) 1 0 (eq-eqb (f n) j e)))

    there : (f n ≡ j → ⊥) → get_or (set xs (f n) (get_or xs (f n) 0 + 1)) j 0 ≡ tally (λ i. eqb (f i) j) (suc n)
    there d =
        get_or-set_other xs (f n) j (get_or xs (f n) 0 + 1) 0 (λ e. d (sym e))
        ∙ omega (arith, h j below, cond-false {A = ℕ} (eqb (f n) j) 1 0 (ne_eqb (f n) j d))

tally_sum_to : (test : ℕ → Bool) (n : ℕ) → tally test n ≡ sum_to (λ i. cond (test i) 1 0) n
tally_sum_to test zero = refl
tally_sum_to test (suc n) = omega (arith, tally_sum_to test n)

-- a test that only one number passes
pub tally_one : (test : ℕ → Bool) (k n : ℕ) → k < n → test k ≡ true → ((i : ℕ) → i < n → test i ≡ true → i ≡ k) → tally test n ≡ 1
tally_one test k n l t alone = tally_alike test (λ i. eqb k i) n alike ∙ tally_sum_to (λ i. eqb k i) n ∙ sum_one k n l
  where
    alike : (i : ℕ) → i < n → test i ≡ eqb k i
    alike i h =
        ⊎_elim
        (λ e. subst (λ z. test z ≡ eqb k z) e (t ∙ sym (eq-eqb k k refl)))
        (λ d. ⊎_elim (λ y. absurd (d (sym (alone i h y)))) (λ f. f ∙ sym (ne_eqb k i d)) (cases_Bool (test i)))
        (cases_eq k i)
