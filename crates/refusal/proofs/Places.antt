-- The first place at which something holds, found by going up. Assumes nothing.
use Rattle.std.proofs.Common.{◌≡◌, ℕ, zero, suc, ◌<◌, ◌≤◌, Bool, true, false, cond, ltb, sym, refl, ◌∙◌, subst, ⊎_elim, arith}
use Rattle.std.proofs.lemmas.Bool.{cases_lt, lt-ltb, le-ltb, ltb-false, cond-true, cond-false, cond_both}
use Rattle.refusal.specs.Table.{first}

-- where f holds nowhere below n, there is no place
pub first_none : (f : ℕ → Bool) (n : ℕ) → ((j : ℕ) → j < n → f j ≡ false) → first f n ≡ n
first_none f zero h = refl
first_none f (suc n) h =
    let e : first f n ≡ n = first_none f n (λ j l. h j (omega arith)) in
    cond-false (ltb (first f n) n) (first f n) (cond (f n) n (suc n)) (le-ltb (first f n) n (omega arith))
    ∙ cond-false (f n) n (suc n) (h n (omega arith))

-- where f holds at k and nowhere before, k is the place
pub first_here : (f : ℕ → Bool) (n k : ℕ) → k < n → ((j : ℕ) → j < k → f j ≡ false) → f k ≡ true → first f n ≡ k
first_here f zero k l h t = absurd (omega arith)
first_here f (suc n) k l h t = ⊎_elim (λ m. inside m (first_here f n k m h t)) last (cases_lt k n)
  where
    inside : k < n → first f n ≡ k → first f (suc n) ≡ k
    inside m e = cond-true (ltb (first f n) n) (first f n) (cond (f n) n (suc n)) (lt-ltb (first f n) n (omega arith)) ∙ e

    last : n ≤ k → first f (suc n) ≡ k
    last m =
        let e : k ≡ n = omega arith in
        let none : first f n ≡ n = first_none f n (λ j q. h j (omega arith)) in
        cond-false (ltb (first f n) n) (first f n) (cond (f n) n (suc n)) (le-ltb (first f n) n (omega arith))
        ∙ cond-true (f n) n (suc n) (subst (λ z. f z ≡ true) e t) ∙ sym e

pub first_low : (f : ℕ → Bool) (n : ℕ) → first f n ≤ n
first_low f zero = omega arith
first_low f (suc n) =
    cond_both (ltb (first f n) n) (first f n) (cond (f n) n (suc n)) (λ z. z ≤ suc n)
    (λ e. omega (arith, first_low f n))
    (λ e. cond_both (f n) n (suc n) (λ z. z ≤ suc n) (λ t. omega arith) (λ t. omega arith))

-- f holds nowhere before the place
pub first_least : (f : ℕ → Bool) (n j : ℕ) → j < first f n → f j ≡ false
first_least f zero j h = absurd (omega arith)
first_least f (suc n) j h = step (λ l. first_least f n j l) h
  where
    step : (j < first f n → f j ≡ false) → j < first f (suc n) → f j ≡ false
    step before =
        cond_both (ltb (first f n) n) (first f n) (cond (f n) n (suc n)) (λ z. j < z → f j ≡ false)
        (λ e. before)
        (λ e.
        let all : n ≤ first f n = ltb-false (first f n) n e in
        cond_both (f n) n (suc n) (λ z. j < z → f j ≡ false)
        (λ t l. before (omega arith))
        (λ t l. ⊎_elim (λ q. before (omega arith)) (λ q. let is : n ≡ j = omega arith in subst (λ z. f z ≡ false) is t) (cases_lt j n)))

-- where there is no place below n, f holds nowhere below n
pub none_below : (f : ℕ → Bool) (n : ℕ) → first f n ≡ n → (j : ℕ) → j < n → f j ≡ false
none_below f n e j h = first_least f n j (omega arith)
