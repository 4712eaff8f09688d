-- A rule over all numbers below a bound, or over all of a list, proved by one test that antt computes.
-- Assumes nothing.
use Rattle.std.specs.Prelude.{◌≡◌, ℕ, zero, suc, ◌<◌, Bool, true, false, T, List, [], ◌∷◌, ◌==◌, refl}
use Rattle.std.proofs.Common.{subst, sym, ⊎_elim, arith}
use Rattle.std.proofs.lemmas.Bool.{eqb-true, or_cases, cases_eq, false≢true}
use Rattle.levels.specs.Counts.{among}

pub T_true : (b : Bool) → T b → b ≡ true
T_true true t = refl
T_true false t = absurd t

abbrev pub both : Bool → Bool → Bool
both true b = b
both false b = false

both_left : (a b : Bool) → T (both a b) → T a
both_left true b t = tt
both_left false b t = t

both_right : (a b : Bool) → T (both a b) → T b
both_right true b t = t
both_right false b t = absurd t

-- the test passes at every number below n
abbrev pub all_below : ℕ → (ℕ → Bool) → Bool
all_below zero f = true
all_below (suc n) f = both (f n) (all_below n f)

pub at : (n : ℕ) (f : ℕ → Bool) → T (all_below n f) → (k : ℕ) → k < n → T (f k)
at zero f t k h = absurd (omega arith)
at (suc n) f t k h = ⊎_elim
    (λ e. subst (λ z. T (f z)) (sym e) (both_left (f n) (all_below n f) t))
    (λ ne. let l : k < n = omega arith in at n f (both_right (f n) (all_below n f) t) k l)
    (cases_eq k n)

-- the test passes at every number of the list
abbrev pub all_of : List ℕ → (ℕ → Bool) → Bool
all_of [] f = true
all_of (n ∷ ns) f = both (f n) (all_of ns f)

pub at_of : (ns : List ℕ) (f : ℕ → Bool) → T (all_of ns f) → (s : ℕ) → among ns s ≡ true → T (f s)
at_of [] f t s h = absurd (false≢true h)
at_of (n ∷ ns) f t s h = ⊎_elim
    (λ e. subst (λ z. T (f z)) (sym (eqb-true s n e)) (both_left (f n) (all_of ns f) t))
    (λ m. at_of ns f (both_right (f n) (all_of ns f) t) s m)
    (or_cases (s == n) (among ns s) h)
