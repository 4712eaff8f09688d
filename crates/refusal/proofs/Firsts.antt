-- The first row that holds is the one of the smallest number, where the numbers rise. Assumes nothing.
use Rattle.std.proofs.Common.{◌≡◌, ℕ, ◌<◌, true, false, List, [], ◌∷◌, Some, None, refl, ap, subst, inl, inr, ⊎_elim, arith}
use Rattle.std.specs.List.{AllByRecursion}
use Rattle.std.proofs.lemmas.Bool.{cases_Bool}
use Rattle.refusal.specs.declared.Slip.{Slip}
use Rattle.refusal.specs.Table.{Row, refusal}
use Rattle.refusal.specs.Laws.{Rising, Holds, Given}

-- rows above a number are none of the smaller ones
pub none_smaller : (rs : List Row) (n : ℕ) → AllByRecursion (λ q. n < q.slip.number) rs → AllByRecursion (λ q. q.slip.number < n → q.holds ≡ false) rs
none_smaller [] n h = tt
none_smaller (r ∷ rs) n h = ((λ l. absurd (omega (arith, h.0))), none_smaller rs n h.1)

-- a slip that some row gives has a number above what all rows are above
pub held_above : (rs : List Row) (n : ℕ) (s : Slip) → AllByRecursion (λ q. n < q.slip.number) rs → Holds s rs → n < s.number
held_above [] n s h k = absurd k
held_above (r ∷ rs) n s h (inl k) = subst (λ (x : Slip). n < x.number) k.0 h.0
held_above (r ∷ rs) n s h (inr k) = held_above rs n s h.1 k

pub given_only : (rows : List Row) → Rising rows → (s : Slip) → refusal rows ≡ Some s → Given rows s
given_only [] ri s e = cc
given_only (r ∷ rs) ri s e = ⊎_elim here (λ f. later f (given_only rs ri.1 s (rw f at e))) (cases_Bool r.holds)
  where
    here : r.holds ≡ true → Given (r ∷ rs) s
    here t =
        let is : r.slip ≡ s = cc in
        record {
          holds = inl (is, t);
          smallest = ((λ l. absurd (omega (arith, ap (λ (x : Slip). x.number) is))), subst (λ (x : Slip). AllByRecursion (λ q. q.slip.number < x.number → q.holds ≡ false) rs) is (none_smaller rs r.slip.number ri.0));
        }

    later : r.holds ≡ false → Given rs s → Given (r ∷ rs) s
    later f rest = record { holds = inr rest.holds; smallest = ((λ l. f), rest.smallest) }

pub given_always : (rows : List Row) → Rising rows → (s : Slip) → Given rows s → refusal rows ≡ Some s
given_always [] ri s g = absurd g.holds
given_always (r ∷ rs) ri s g = ⊎_elim here (λ k. later k (given_always rs ri.1 s (record { holds = k; smallest = g.smallest.1 }))) g.holds
  where
    here : (r.slip ≡ s) × (r.holds ≡ true) → refusal (r ∷ rs) ≡ Some s
    here k = rw k.1 (ap Some k.0)

    later : Holds s rs → refusal rs ≡ Some s → refusal (r ∷ rs) ≡ Some s
    later k rest =
        let f : r.holds ≡ false = g.smallest.0 (held_above rs r.slip.number s ri.0 k) in
        rw f rest

pub none_only : (rows : List Row) → refusal rows ≡ None → AllByRecursion (λ q. q.holds ≡ false) rows
none_only [] e = tt
none_only (r ∷ rs) e =
    ⊎_elim (λ t. let z = rw t at e in cc) (λ f. (f, none_only rs (rw f at e))) (cases_Bool r.holds)

pub none_always : (rows : List Row) → AllByRecursion (λ q. q.holds ≡ false) rows → refusal rows ≡ None
none_always [] h = refl
none_always (r ∷ rs) h = rw h.0 (none_always rs h.1)
