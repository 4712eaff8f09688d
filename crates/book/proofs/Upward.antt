-- Steps and laws of the search upward through the labels. Assumes nothing.
use Rattle.std.proofs.Common.{◌≡◌, ℕ, zero, suc, ◌+◌, ◌-◌, ◌<◌, ◌≤◌, Bool, true, false, cond, ◌⊎◌, List, [], ◌∷◌, length, get_or, is_some, Some, None, Option, sym, refl, ap, ◌∙◌, subst, ⊎_elim, arith, take, drop, position, option_map, length-drop, ◌||◌}
use lib.ListN.{length-map, get_or-map}
use Rattle.std.specs.List.{list_any, position_from}
use Rattle.std.proofs.lemmas.List.{drop_more, take_all}
use Rattle.std.proofs.lemmas.Iterator.Adapters.{position_from-zero}
use Rattle.std.proofs.lemmas.Bool.{cases_Bool, cases_lt, cases_eq, both_ways}
use Rattle.book.specs.declared.standing.Standing.{Standing}
use Rattle.book.specs.declared.standing.Standing.TheVariants.{Waiting}
use Rattle.book.specs.Standings.{standing, standings, stops}
use Rattle.book.specs.Search.{first, lowest, some, or_else, stop, Sooner, FirstStop}
use Rattle.book.specs.Laws.{StopLaw}

-- how a label stands is what its word says
pub stands_word : (ws : List ℕ) (k : ℕ) → get_or (standings ws) k Waiting ≡ standing (get_or ws k 0)
stands_word ws k = get_or-map standing ws k 0

-- what the library's search finds in the words from c on
module _ (so : Standing → Bool) where
  found_from : (ws : List ℕ) (c i j : ℕ) → j ≡ c + i → position_from (λ w. so (standing w)) j ws ≡ option_map (λ k. c + k) (position_from (λ w. so (standing w)) i ws)
  found_from [] c i j e = refl
  found_from (w ∷ ws) c i j e =
      elim (so (standing w)) as (λ b. cond b (Some j) (position_from (λ v. so (standing v)) (j + 1) ws) ≡ option_map (λ k. c + k) (cond b (Some i) (position_from (λ v. so (standing v)) (i + 1) ws)))
      [ true ↦ ap Some e | false ↦ found_from ws c (i + 1) (j + 1) (omega arith) ]

  first_from : (ws : List ℕ) (i m : ℕ) → i + m ≤ length ws → position_from (λ w. so (standing w)) i (take m (drop i ws)) ≡ first so (standings ws) i m
  first_from ws i zero h = refl
  first_from ws i (suc m) h =
      rw (drop_more ws i 0 (omega arith), stands_word ws i) (ap (cond (so (standing (get_or ws i 0))) (Some i)) (first_from ws (i + 1) m (omega arith)))

  pub first_below : (ws : List ℕ) (c : ℕ) → c ≤ length ws → position (λ w. so (standing w)) (take c ws) ≡ first so (standings ws) 0 c
  first_below ws c h = position_from-zero (λ w. so (standing w)) (take c ws) ∙ first_from ws 0 c (omega arith)

  pub first_above : (ws : List ℕ) (c : ℕ) → c ≤ length ws → option_map (λ k. c + k) (position (λ w. so (standing w)) (drop c ws)) ≡ first so (standings ws) c (length (standings ws) - c)
  first_above ws c h =
      ap (option_map (λ k. c + k)) (position_from-zero (λ w. so (standing w)) (drop c ws))
      ∙ sym (found_from (drop c ws) c 0 c (omega arith))
      ∙ ap (λ r. position_from (λ w. so (standing w)) c r) (sym (take_all (length ws - c) (drop c ws) (omega (arith, length-drop c ws))))
      ∙ first_from ws c (length ws - c) (omega arith)
      ∙ ap (λ n. first so (standings ws) c (n - c)) (sym (length-map ws standing))

  pub lowest_word : (ws : List ℕ) → lowest so (standings ws) ≡ position (λ w. so (standing w)) ws
  lowest_word ws = rw (length-map ws standing, ← first_below ws (length ws) (omega arith), take_all (length ws) ws (omega arith))

  any_from : (ws : List ℕ) (i : ℕ) → list_any (λ w. so (standing w)) ws ≡ is_some (position_from (λ w. so (standing w)) i ws)
  any_from [] i = refl
  any_from (w ∷ ws) i = elim (so (standing w)) as (λ b. (b || list_any (λ v. so (standing v)) ws) ≡ is_some (cond b (Some i) (position_from (λ v. so (standing v)) (i + 1) ws))) [ true ↦ refl | false ↦ any_from ws (i + 1) ]

  pub some_word : (ws : List ℕ) → some so (standings ws) ≡ list_any (λ w. so (standing w)) ws
  some_word ws = ap is_some (lowest_word ws ∙ position_from-zero (λ w. so (standing w)) ws) ∙ sym (any_from ws 0)

-- where a take stops, by the words from the cursor on and those below it
pub stop_word : (ws : List ℕ) (c : ℕ) → c ≤ length ws → or_else (option_map (λ k. c + k) (position (λ w. stops (standing w)) (drop c ws))) (position (λ w. stops (standing w)) (take c ws)) ≡ stop c (standings ws)
stop_word ws c h = rw (first_above stops ws c h, first_below stops ws c h)

-- k is the first label from i on that stands so, and is below i + m
pub record Hit (so : Standing → Bool) (ss : List Standing) (i m k : ℕ) : Type 0 where
  pub low : i ≤ k
  pub high : k < i + m
  pub here : so (get_or ss k Waiting) ≡ true
  pub sooner : (j : ℕ) → i ≤ j → j < k → so (get_or ss j Waiting) ≡ false

-- what a search through the m labels from i on found
abbrev pub Found : (Standing → Bool) → List Standing → (i m : ℕ) → Option ℕ → Type 0
Found so ss i m None = (j : ℕ) → i ≤ j → j < i + m → so (get_or ss j Waiting) ≡ false
Found so ss i m (Some k) = Hit so ss i m k

module _ (so : Standing → Bool) (ss : List Standing) where
  -- what holds at i, and from the next on, holds from i on
  from_next : (i j : ℕ) → so (get_or ss i Waiting) ≡ false → i ≤ j → (i + 1 ≤ j → so (get_or ss j Waiting) ≡ false) → so (get_or ss j Waiting) ≡ false
  from_next i j e l more =
      ⊎_elim (λ h. more (omega arith)) (λ h. let same : i ≡ j = omega arith in subst (λ x. so (get_or ss x Waiting) ≡ false) same e) (cases_lt i j)

  later : (i m : ℕ) (o : Option ℕ) → so (get_or ss i Waiting) ≡ false → Found so ss (i + 1) m o → Found so ss i (suc m) o
  later i m None e f = λ j l u. from_next i j e l (λ l'. f j l' (omega arith))
  later i m (Some k) e h =
      record { low = omega (arith, h.low); high = omega (arith, h.high); here = h.here; sooner = λ j l u. from_next i j e l (λ l'. h.sooner j l' u) }

  pub found : (i m : ℕ) → Found so ss i m (first so ss i m)
  found i zero = λ j l u. absurd (omega arith)
  found i (suc m) =
      ⊎_elim
      (λ e. rw e (record { low = omega arith; high = omega arith; here = e; sooner = λ j l h. absurd (omega arith) }))
      (λ e. rw e (later i m (first so ss (i + 1) m) e (found (i + 1) m)))
      (cases_Bool (so (get_or ss i Waiting)))

  -- whether a label stands so, by what was found
  none_by : (o : Option ℕ) → Found so ss 0 (length ss) o → is_some o ≡ false → (j : ℕ) → j < length ss → so (get_or ss j Waiting) ≡ false
  none_by None f e j h = f j (omega arith) (omega arith)
  none_by (Some k) f e j h = cc

  pub none_at : some so ss ≡ false → (j : ℕ) → j < length ss → so (get_or ss j Waiting) ≡ false
  none_at e = none_by (lowest so ss) (found 0 (length ss)) e

  pub some_from : (k : ℕ) → k < length ss → so (get_or ss k Waiting) ≡ true → some so ss ≡ true
  some_from k h t = ⊎_elim (λ e. e) (λ f. absurd (both_ways _ (none_at f k h) t)) (cases_Bool (some so ss))

  not_found : (o : Option ℕ) → Found so ss 0 (length ss) o → ((j : ℕ) → j < length ss → so (get_or ss j Waiting) ≡ false) → is_some o ≡ false
  not_found None f all = refl
  not_found (Some k) h all = absurd (both_ways _ (all k (omega (arith, h.high))) h.here)

  pub none_from : ((j : ℕ) → j < length ss → so (get_or ss j Waiting) ≡ false) → some so ss ≡ false
  none_from all = not_found (lowest so ss) (found 0 (length ss)) all

-- where a take stops, or that it stops nowhere
abbrev pub Stopped : ℕ → List Standing → Option ℕ → Type 0
Stopped c ss None = (j : ℕ) → j < length ss → stops (get_or ss j Waiting) ≡ false
Stopped c ss (Some k) = FirstStop c ss k

module _ (ss : List Standing) (c : ℕ) (fits : c ≤ length ss) where
  stopped : (o p : Option ℕ) → Found stops ss c (length ss - c) o → Found stops ss 0 c p → Stopped c ss (or_else o p)
  stopped (Some k) p h below =
      record {
        within = omega (arith, h.low, h.high);
        here = h.here;
        sooner = λ j lt. ⊎_elim (λ s. h.sooner j s.0 s.1) (λ s. absurd (omega (arith, s.0, h.low)));
      }
  stopped None (Some k) above h =
      record {
        within = omega (arith, h.high);
        here = h.here;
        sooner = λ j lt. ⊎_elim
            (λ s. absurd (omega (arith, s.0, s.1, h.high)))
            (λ s. ⊎_elim (λ up. above j up (omega arith)) (λ low. h.sooner j (omega arith) low) s.1);
      }
  stopped None None above below = λ j h. ⊎_elim (λ low. below j (omega arith) (omega arith)) (λ up. above j up (omega arith)) (cases_lt j c)

  at_stop : Stopped c ss (stop c ss)
  at_stop = stopped (first stops ss c (length ss - c)) (first stops ss 0 c) (found stops ss c (length ss - c)) (found stops ss 0 c)

  pub stop_none : stop c ss ≡ None → (j : ℕ) → j < length ss → stops (get_or ss j Waiting) ≡ false
  stop_none e = subst (Stopped c ss) e at_stop

  pub stop_some : (k : ℕ) → stop c ss ≡ Some k → FirstStop c ss k
  stop_some k e = subst (Stopped c ss) e at_stop

-- of two labels that differ, one is met sooner
pub one_sooner : (c i k : ℕ) → (i ≡ k → ⊥) → Sooner c i k ⊎ Sooner c k i
one_sooner c i k ne = grind arith

module _ (ss : List Standing) (c : ℕ) (fits : c ≤ length ss) where
  same_stop : (i k : ℕ) → FirstStop c ss i → FirstStop c ss k → i ≡ k
  same_stop i k s t = ⊎_elim (λ e. e) (λ ne. absurd (⊎_elim (λ h. both_ways _ (t.sooner i s.within h) s.here) (λ h. both_ways _ (s.sooner k t.within h) t.here) (one_sooner c i k ne))) (cases_eq i k)

  first_by : (o : Option ℕ) (k : ℕ) → stop c ss ≡ o → FirstStop c ss k → o ≡ Some k
  first_by None k e s = absurd (both_ways _ (stop_none ss c fits e k s.within) s.here)
  first_by (Some i) k e s = ap Some (same_stop i k (stop_some ss c fits i e) s)

  pub stop_first : (k : ℕ) → FirstStop c ss k → stop c ss ≡ Some k
  stop_first k s = first_by (stop c ss) k refl s

pub stop_law : StopLaw
stop_law = record { only = λ ss c k h e. stop_some ss c h k e; always = λ ss c k h s. stop_first ss c h k s }
