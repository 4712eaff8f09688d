-- Going through the choices of columns in dictionary order: those that begin with the lowest column first. Assumes nothing.
use Rattle.std.proofs.Common.{◌≡◌, ℕ, ◌+◌, ◌-◌, ◌<◌, ◌≤◌, ◌⊎◌, List, [], ◌∷◌, ◌++◌, length, Some, None, Option, sym, refl, subst, inl, inr, ⊎_elim, append_assoc, append-nil, arith, true, false, IsSome, is_some, MatchOption}
use Rattle.std.specs.List.{AllByRecursion}
use Rattle.std.proofs.ByRecursion.{All-push, All-weaker}
use Rattle.std.proofs.lemmas.List.{length_push}
use Rattle.std.proofs.lemmas.Bool.{cases_lt, both_ways}
use Rattle.strength.specs.declared.claim.Claim.{Claim}
use Rattle.strength.specs.declared.claim.Failure.{Failure}
use Rattle.strength.specs.Verdicts.{Rising, Before, Even, Fails}
use Rattle.strength.specs.Steps.{Begun, Rest, Found, Search}

rising_push : (xs : List ℕ) (c : ℕ) → Rising xs → AllByRecursion (λ k. k < c) xs → Rising (xs ++ c ∷ [])
rising_push [] c r a = (tt, tt)
rising_push (x ∷ xs) c r a = (All-push (λ k. x < k) xs c r.0 a.0, rising_push xs c r.1 a.1)

-- on past `low`, and with `low` chosen too
pub begun_on : {Q : Claim} {cs : List ℕ} {low : ℕ} → Begun Q cs low → low < Q.factors → Begun Q cs (low + 1)
begun_on {Q} {cs} {low} B h = record { within = B.within; room = omega arith; rising = B.rising; below = All-weaker (λ c. c < low) (λ c. c < low + 1) (λ c l. omega arith) cs B.below }

pub begun_more : {Q : Claim} {cs : List ℕ} {low : ℕ} → Begun Q cs low → low < Q.factors → length cs < Q.strength → Begun Q (cs ++ low ∷ []) (low + 1)
begun_more {Q} {cs} {low} B h more =
    record {
      within = omega (arith, length_push cs low);
      room = omega arith;
      rising = rising_push cs low B.rising B.below;
      below = All-push (λ c. c < low + 1) cs low (begun_on B h).below (omega arith);
    }

-- rising columns from `low` on leave no more than so many
rising_room : (low d : ℕ) (xs : List ℕ) → AllByRecursion (λ c. low ≤ c) xs → AllByRecursion (λ c. c < d) xs → Rising xs → length xs ≤ d - low
rising_room low d [] a b r = omega arith
rising_room low d (x ∷ xs) a b r =
    let rest : length xs ≤ d - (x + 1) = rising_room (x + 1) d xs (All-weaker (λ k. x < k) (λ k. x + 1 ≤ k) (λ k h. omega arith) xs r.0) b.1 r.1 in
    omega (arith, a.0, b.0)

module _ (Q : Claim) (cells : List ℕ) where
  no_more : (k low : ℕ) (xs : List ℕ) → k ≡ Q.strength → Rest Q k low xs → xs ≡ []
  no_more k low [] e r = refl
  no_more k low (x ∷ xs) e r = absurd (omega (arith, r.many))

  -- all columns are chosen: only this choice is left
  pub whole : (cs : List ℕ) (low : ℕ) → length cs ≡ Q.strength → (r : Option Failure)
      → MatchOption r (Even Q cells cs) (λ f. Fails Q cells cs f) → Search Q cells cs low r
  whole cs low e None even = λ xs rest. subst (λ zs. Even Q cells (cs ++ zs)) (sym (no_more (length cs) low xs e rest)) (subst (Even Q cells) (sym (append-nil cs)) even)
  whole cs low e (Some f) fails =
      record {
        columns = [];
        rest = record { many = omega arith; from = tt; below = tt; rising = tt };
        fails = subst (λ zs. Fails Q cells zs f) (sym (append-nil cs)) fails;
        earlier = λ xs rest b. absurd (subst (λ zs. Before zs []) (no_more (length cs) low xs e rest) b);
      }

  -- too few columns are left
  pub too_few : (cs : List ℕ) (low : ℕ) → length cs ≤ Q.strength → Q.factors - low < Q.strength - length cs → Search Q cells cs low None
  too_few cs low h l = λ xs rest. absurd (omega (arith, rising_room low Q.factors xs rest.from rest.below rest.rising, rest.many))

  -- either the next column is `low`, or all are above it
  module _ (cs : List ℕ) (low : ℕ) where
    split : (x : ℕ) (xs : List ℕ) → Rest Q (length cs) low (x ∷ xs) → ((x ≡ low) × Rest Q (length (cs ++ low ∷ [])) (low + 1) xs) ⊎ Rest Q (length cs) (low + 1) (x ∷ xs)
    split x xs r = ⊎_elim (λ h. inr (above h)) (λ h. inl (here h)) (cases_lt low x)
      where
        later : (y : ℕ) → y ≤ x + 1 → AllByRecursion (λ c. y ≤ c) xs
        later y h = All-weaker (λ c. x < c) (λ c. y ≤ c) (λ c l. omega arith) xs r.rising.0

        above : low < x → Rest Q (length cs) (low + 1) (x ∷ xs)
        above h = record { many = r.many; from = (omega arith, later (low + 1) (omega arith)); below = r.below; rising = r.rising }

        here : x ≤ low → (x ≡ low) × Rest Q (length (cs ++ low ∷ [])) (low + 1) xs
        here h =
            let is : x ≡ low = omega (arith, r.from.0) in
            (is, record { many = omega (arith, r.many, length_push cs low); from = later (low + 1) (omega arith); below = r.below.1; rising = r.rising.1 })

    -- the choices whose next column is `low`, by what follows it
    joined : (xs : List ℕ) → (cs ++ low ∷ []) ++ xs ≡ cs ++ low ∷ xs
    joined xs = append_assoc cs (low ∷ []) xs

    found_here : (f : Failure) → low < Q.factors → Found Q cells (cs ++ low ∷ []) (low + 1) f → Found Q cells cs low f
    found_here f l found =
        record {
          columns = low ∷ found.columns;
          rest = record {
            many = omega (arith, found.rest.many, length_push cs low);
            from = (omega arith, All-weaker (λ c. low + 1 ≤ c) (λ c. low ≤ c) (λ c h. omega arith) found.columns found.rest.from);
            below = (l, found.rest.below);
            rising = (All-weaker (λ c. low + 1 ≤ c) (λ c. low < c) (λ c h. omega arith) found.columns found.rest.from, found.rest.rising);
          };
          fails = subst (λ zs. Fails Q cells zs f) (joined found.columns) found.fails;
          earlier = earlier;
        }
      where
        earlier : (xs : List ℕ) → Rest Q (length cs) low xs → Before xs (low ∷ found.columns) → Even Q cells (cs ++ xs)
        earlier [] r b = absurd b
        earlier (x ∷ xs) r (inl h) = absurd (omega (arith, r.from.0))
        earlier (x ∷ xs) r (inr b) =
            ⊎_elim
            (λ here. subst (λ z. Even Q cells (cs ++ z ∷ xs)) (sym here.0) (subst (Even Q cells) (joined xs) (found.earlier xs here.1 b.1)))
            (λ later. absurd (omega (arith, later.from.0, b.0)))
            (split x xs r)

    -- what fails there comes first
    pub first_here : (r : Option Failure) → IsSome r → low < Q.factors → Search Q cells (cs ++ low ∷ []) (low + 1) r → Search Q cells cs low r
    first_here None h l none = absurd (both_ways false refl h)
    first_here (Some f) h l found = found_here f l found

    none_here : (r : Option Failure) → false ≡ is_some r → Search Q cells (cs ++ low ∷ []) (low + 1) r → Search Q cells (cs ++ low ∷ []) (low + 1) None
    none_here None h none = none
    none_here (Some f) h found = absurd (both_ways true (sym h) refl)

    -- nothing fails there: on to those whose next column is above `low`
    module _ (h : length cs < Q.strength) (r₀ : Option Failure) (e : false ≡ is_some r₀) (before : Search Q cells (cs ++ low ∷ []) (low + 1) r₀) where
      none : Search Q cells (cs ++ low ∷ []) (low + 1) None
      none = none_here r₀ e before

      either : (xs : List ℕ) → Rest Q (length cs) low xs → (Rest Q (length cs) (low + 1) xs → Even Q cells (cs ++ xs)) → Even Q cells (cs ++ xs)
      either [] r later = absurd (omega (arith, r.many))
      either (x ∷ xs) r later =
          ⊎_elim
          (λ here. subst (λ z. Even Q cells (cs ++ z ∷ xs)) (sym here.0) (subst (Even Q cells) (joined xs) (none xs here.1)))
          later
          (split x xs r)

      pub on : (r : Option Failure) → Search Q cells cs (low + 1) r → Search Q cells cs low r
      on None rest = λ xs r. either xs r (rest xs)
      on (Some f) found =
          record {
            columns = found.columns;
            rest = record {
              many = found.rest.many;
              from = All-weaker (λ c. low + 1 ≤ c) (λ c. low ≤ c) (λ c l. omega arith) found.columns found.rest.from;
              below = found.rest.below;
              rising = found.rest.rising;
            };
            fails = found.fails;
            earlier = λ xs r b. either xs r (λ later. found.earlier xs later b);
          }
