-- Any different columns with a level each are rising columns with a level each, in another order. Assumes nothing.
use Rattle.std.proofs.Common.{◌≡◌, ℕ, suc, ◌<◌, ◌≤◌, Bool, true, false, cond, ◌&&◌, eqb, ltb, ◌≢◌, List, [], ◌∷◌, map, length, refl, ap, ◌∙◌, arith}
use Rattle.std.specs.List.{AllByRecursion}
use Rattle.std.proofs.ByRecursion.{All-weaker}
use Rattle.std.proofs.lemmas.Bool.{cond_both, ltb-true, ltb-false}
use Rattle.strength.specs.Arrays.{same, Different}
use Rattle.strength.specs.Verdicts.{Rising}

-- columns with their levels
abbrev pub Pairs : Type 0
Pairs = List (ℕ × ℕ)

abbrev pub columns_of : Pairs → List ℕ
columns_of ps = map (λ p. p.0) ps

abbrev pub levels_of : Pairs → List ℕ
levels_of ps = map (λ p. p.1) ps

abbrev pub put : ℕ × ℕ → Pairs → Pairs
put p [] = p ∷ []
put p (q ∷ qs) = cond (ltb p.0 q.0) (p ∷ q ∷ qs) (q ∷ put p qs)

abbrev pub sorted : Pairs → Pairs
sorted [] = []
sorted (p ∷ ps) = put p (sorted ps)

-- what holds of each pair still does
put_all : (f : ℕ × ℕ → ℕ) (P : ℕ → Type 0) (p : ℕ × ℕ) (qs : Pairs) → P (f p) → AllByRecursion P (map f qs) → AllByRecursion P (map f (put p qs))
put_all f P p [] h a = (h, tt)
put_all f P p (q ∷ qs) h a =
    cond_both (ltb p.0 q.0) (p ∷ q ∷ qs) (q ∷ put p qs) (λ ps. AllByRecursion P (map f ps)) (λ e. (h, a)) (λ e. (a.0, put_all f P p qs h a.1))

pub sorted_all : (f : ℕ × ℕ → ℕ) (P : ℕ → Type 0) (ps : Pairs) → AllByRecursion P (map f ps) → AllByRecursion P (map f (sorted ps))
sorted_all f P [] a = tt
sorted_all f P (p ∷ ps) a = put_all f P p (sorted ps) a.0 (sorted_all f P ps a.1)

put_length : (f : ℕ × ℕ → ℕ) (p : ℕ × ℕ) (qs : Pairs) → length (map f (put p qs)) ≡ suc (length (map f qs))
put_length f p [] = refl
put_length f p (q ∷ qs) =
    cond_both (ltb p.0 q.0) (p ∷ q ∷ qs) (q ∷ put p qs) (λ ps. length (map f ps) ≡ suc (suc (length (map f qs)))) (λ e. refl) (λ e. ap suc (put_length f p qs))

pub sorted_length : (f : ℕ × ℕ → ℕ) (ps : Pairs) → length (map f (sorted ps)) ≡ length (map f ps)
sorted_length f [] = refl
sorted_length f (p ∷ ps) = put_length f p (sorted ps) ∙ ap suc (sorted_length f ps)

put_rising : (p : ℕ × ℕ) (qs : Pairs) → AllByRecursion (λ k. p.0 ≢ k) (columns_of qs) → Rising (columns_of qs) → Rising (columns_of (put p qs))
put_rising p [] d r = (tt, tt)
put_rising p (q ∷ qs) d r =
    cond_both (ltb p.0 q.0) (p ∷ q ∷ qs) (q ∷ put p qs) (λ ps. Rising (columns_of ps))
    (λ e.
    let l : p.0 < q.0 = ltb-true p.0 q.0 e in
    ((l, All-weaker (λ k. q.0 < k) (λ k. p.0 < k) (λ k h. omega arith) (columns_of qs) r.0), r))
    (λ e.
    let l : q.0 ≤ p.0 = ltb-false p.0 q.0 e in
    let n : p.0 ≢ q.0 = d.0 in
    (put_all (λ z. z.0) (λ k. q.0 < k) p qs (omega arith) r.0, put_rising p qs d.1 r.1))

pub sorted_rising : (ps : Pairs) → Different (columns_of ps) → Rising (columns_of (sorted ps))
sorted_rising [] d = tt
sorted_rising (p ∷ ps) d =
    put_rising p (sorted ps) (sorted_all (λ z. z.0) (λ k. p.0 ≢ k) ps d.0) (sorted_rising ps d.1)

-- a run shows the levels at the columns in either order, or in neither
and_swap : (a b c : Bool) → (a && (b && c)) ≡ (b && (a && c))
and_swap true true c = refl
and_swap true false c = refl
and_swap false true c = refl
and_swap false false c = refl

put_same : (row : ℕ → ℕ) (p : ℕ × ℕ) (qs : Pairs) → same (map row (columns_of (put p qs))) (levels_of (put p qs)) ≡ (eqb (row p.0) p.1 && same (map row (columns_of qs)) (levels_of qs))
put_same row p [] = refl
put_same row p (q ∷ qs) =
    cond_both (ltb p.0 q.0) (p ∷ q ∷ qs) (q ∷ put p qs)
    (λ ps. same (map row (columns_of ps)) (levels_of ps) ≡ (eqb (row p.0) p.1 && (eqb (row q.0) q.1 && same (map row (columns_of qs)) (levels_of qs))))
    (λ e. refl)
    (λ e. ap (λ z. eqb (row q.0) q.1 && z) (put_same row p qs) ∙ and_swap (eqb (row q.0) q.1) (eqb (row p.0) p.1) (same (map row (columns_of qs)) (levels_of qs)))

pub sorted_same : (row : ℕ → ℕ) (ps : Pairs) → same (map row (columns_of (sorted ps))) (levels_of (sorted ps)) ≡ same (map row (columns_of ps)) (levels_of ps)
sorted_same row [] = refl
sorted_same row (p ∷ ps) = put_same row p (sorted ps) ∙ ap (λ z. eqb (row p.0) p.1 && z) (sorted_same row ps)
