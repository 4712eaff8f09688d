-- From the search through all choices to the verdict. Assumes nothing.
use Rattle.std.proofs.Common.{◌≡◌, ℕ, ◌*◌, ◌/◌, ◌^◌, ◌<◌, ◌≤◌, ◌≢◌, List, [], ◌∷◌, map, length, None, sym, ap, ◌∙◌, subst, arith}
use native.Mathlib.Nat.{div-eq_of_eq-mul_left, one-le-pow}
use Rattle.std.specs.List.{AllByRecursion, zip}
use Rattle.std.proofs.lemmas.Slice.Zip.{firsts-zip, seconds-zip}
use Rattle.std.proofs.ByRecursion.{All-weaker}
use Rattle.strength.specs.declared.claim.Claim.{Claim}
use Rattle.strength.specs.declared.claim.Failure.{Failure}
use Rattle.strength.specs.declared.claim.Verdict.TheVariants.{Yes, No}
use Rattle.strength.specs.Arrays.{at, shown, same, occurrences, Different, Columns, Tuple, OrthogonalArray}
use Rattle.strength.specs.Verdicts.{Rising, Choice, Passes, Even, Fails, Right}
use Rattle.strength.specs.Refusals.{Accepted}
use Rattle.strength.specs.Steps.{Rest, Found, Search}
use Rattle.strength.proofs.Tallies.{tally_alike}
use Rattle.strength.proofs.Balance.{alike_passes}
use Rattle.strength.proofs.Sorting.{Pairs, columns_of, levels_of, sorted, sorted_all, sorted_length, sorted_rising, sorted_same}

rising_different : (cs : List ℕ) → Rising cs → Different cs
rising_different [] r = tt
rising_different (c ∷ cs) r = (All-weaker (λ k. c < k) (λ k. c ≢ k) (λ k h e. omega arith) cs r.0, rising_different cs r.1)

choice_columns : {Q : Claim} {cs : List ℕ} → Choice Q cs → Columns Q cs
choice_columns {Q} {cs} C = record { many = C.many; below = C.below; different = rising_different cs C.rising }

module _ {Q : Claim} {cells : List ℕ} (A : Accepted Q cells) where
  -- where a tuple fails at a choice, tuples do not occur equally often
  no_array : (cs : List ℕ) (f : Failure) → Choice Q cs → Fails Q cells cs f → (index : ℕ) → OrthogonalArray Q cells index → ⊥
  no_array cs f C F index O =
      let all : (u : List ℕ) → Tuple Q u → occurrences Q cells cs u ≡ index = λ u l. O.balanced cs u (choice_columns C) l in
      F.fails (ap (λ z. z * Q.levels ^ Q.strength) (all F.tuple F.levels) ∙ alike_passes A C index all)

  -- where all tuples pass at all choices, they do at any different columns
  module _ (even : (cs : List ℕ) → Choice Q cs → Even Q cells cs) (cs u : List ℕ) (C : Columns Q cs) (T : Tuple Q u) where
    pairs : Pairs
    pairs = zip cs u

    columns_is : columns_of pairs ≡ cs
    unfolding pairs
    columns_is = firsts-zip cs u (T.many ∙ sym C.many)

    levels_is : levels_of pairs ≡ u
    unfolding pairs
    levels_is = seconds-zip cs u (T.many ∙ sym C.many)

    sorted_choice : Choice Q (columns_of (sorted pairs))
    sorted_choice =
        record {
          many = sorted_length (λ p. p.0) pairs ∙ ap length columns_is ∙ C.many;
          below = sorted_all (λ p. p.0) (λ c. c < Q.factors) pairs (subst (AllByRecursion (λ c. c < Q.factors)) (sym columns_is) C.below);
          rising = sorted_rising pairs (subst Different (sym columns_is) C.different);
        }

    sorted_tuple : Tuple Q (levels_of (sorted pairs))
    sorted_tuple =
        record {
          many = sorted_length (λ p. p.1) pairs ∙ ap length levels_is ∙ T.many;
          below = sorted_all (λ p. p.1) (λ l. l < Q.levels) pairs (subst (AllByRecursion (λ l. l < Q.levels)) (sym levels_is) T.below);
        }

    -- a run has the tuple in one order where it has it in the other
    occurs_sorted : occurrences Q cells cs u ≡ occurrences Q cells (columns_of (sorted pairs)) (levels_of (sorted pairs))
    unfolding occurrences
    occurs_sorted =
        tally_alike (λ run. same (shown Q cells cs run) u) (λ run. same (shown Q cells (columns_of (sorted pairs)) run) (levels_of (sorted pairs))) Q.runs
        (λ run h.
        sym (sorted_same (at Q cells run) pairs
        ∙ ap (λ zs. same (map (at Q cells run) zs) (levels_of pairs)) columns_is
        ∙ ap (λ zs. same (map (at Q cells run) cs) zs) levels_is))

    any_passes : Passes Q cells cs u
    any_passes =
        ap (λ z. z * Q.levels ^ Q.strength) occurs_sorted ∙ even (columns_of (sorted pairs)) sorted_choice (levels_of (sorted pairs)) sorted_tuple

  all_even : ((cs : List ℕ) → Choice Q cs → Even Q cells cs) → OrthogonalArray Q cells (Q.runs / Q.levels ^ Q.strength)
  all_even even =
      record {
        sized = A.sized;
        levels = A.levels;
        balanced = λ cs u C T. sym (div-eq_of_eq-mul_left (one-le-pow Q.strength Q.levels (omega (arith, A.several))) (sym (any_passes even cs u C T)));
      }

  -- choices with no column chosen yet are all choices
  rest_choice : {cs : List ℕ} → Rest Q 0 0 cs → Choice Q cs
  rest_choice R = record { many = omega (arith, R.many); below = R.below; rising = R.rising }

  choice_rest : {cs : List ℕ} → Choice Q cs → Rest Q 0 0 cs
  choice_rest {cs} C =
      record {
        many = omega (arith, C.many);
        from = All-weaker (λ c. c < Q.factors) (λ c. 0 ≤ c) (λ c h. omega arith) cs C.below;
        below = C.below;
        rising = C.rising;
      }

  pub right_yes : (index : ℕ) → index ≡ Q.runs / Q.levels ^ Q.strength → Search Q cells [] 0 None → Right Q cells (Yes index)
  right_yes index e none = (e, subst (OrthogonalArray Q cells) (sym e) (all_even (λ cs C. none cs (choice_rest C))))

  pub right_no : (f : Failure) → Found Q cells [] 0 f → Right Q cells (No f)
  right_no f F = (
    record {
      columns = F.columns;
      choice = rest_choice F.rest;
      fails = F.fails;
      earlier = λ others C b. F.earlier others (choice_rest C) b;
    },
    no_array F.columns f (rest_choice F.rest) F.fails,
  )
