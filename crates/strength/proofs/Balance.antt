-- What the counts by combination say of the occurrences of tuples. Assumes nothing.
use Rattle.std.proofs.Common.{◌≡◌, ℕ, ◌+◌, ◌*◌, ◌^◌, ◌<◌, ◌≤◌, Bool, true, false, not, eqb, List, length, get_or, sum_by, None, Some, sym, refl, ap, ◌∙◌, subst, mul_comm, arith, pow_mono}
use lib.ListN.{length-map}
use Rattle.std.specs.List.{AllByRecursion, position}
use Rattle.std.specs.Int.Digits.{number_from_digits, AllBelowBase}
use Rattle.std.proofs.lemmas.Int.Digits.{number_lt}
use Rattle.std.proofs.ByRecursion.{All-map, All-get_or, All-weaker, sum_by_le}
use Rattle.std.proofs.lemmas.Nat.{mul-add-lt}
use Rattle.std.proofs.lemmas.List.Quantifiers.{position-Some}
use Rattle.std.proofs.lemmas.Bool.{eq-eqb, eqb-true, not-false, not_from_true, both_ways}
use Rattle.refusal.proofs.Places.{none_below}
use Rattle.refusal.proofs.Sought.{sought_by_position}
use Rattle.strength.specs.declared.claim.Claim.{Claim}
use Rattle.strength.specs.declared.claim.Failure.{Failure}
use Rattle.strength.specs.Arrays.{at, shown, same, occurrences, Tuple}
use Rattle.strength.specs.Verdicts.{Choice, Even, Fails}
use Rattle.strength.specs.Refusals.{Accepted}
use Rattle.strength.specs.Steps.{combination, counted}
use Rattle.strength.proofs.Tuples.{same_self, same_is, same_number, written, length_written, under_written, number_written}
use Rattle.strength.proofs.Tallies.{tally_alike, tally_one, sum_even, tallies_sum}

-- a tuple that one run alone has occurs once
pub occurs_once : (Q : Claim) (cells cs u : List ℕ) (run : ℕ) → run < Q.runs → shown Q cells cs run ≡ u
    → ((k : ℕ) → k < Q.runs → shown Q cells cs k ≡ u → k ≡ run) → occurrences Q cells cs u ≡ 1
unfolding occurrences
occurs_once Q cells cs u run h has alone =
    tally_one (λ k. same (shown Q cells cs k) u) run Q.runs h (subst (λ zs. same zs u ≡ true) (sym has) (same_self u)) (λ k l e. alone k l (same_is (shown Q cells cs k) u e))

module _ {Q : Claim} {cells : List ℕ} (A : Accepted Q cells) where
  -- a run's cell at a column stands in the table, and is a level
  place_lt : (run c : ℕ) → run < Q.runs → c < Q.factors → run * Q.factors + c < length cells
  place_lt run c h l = omega (arith, mul-add-lt run Q.factors c Q.runs h l, mul_comm Q.factors Q.runs, A.sized)

  at_below : (run c : ℕ) → run < Q.runs → c < Q.factors → at Q cells run c < Q.levels
  at_below run c h l = All-get_or (λ z. z < Q.levels) cells (run * Q.factors + c) 0 (place_lt run c h l) A.levels

  shown_under : (cs : List ℕ) → AllByRecursion (λ c. c < Q.factors) cs → (run : ℕ) → run < Q.runs → AllBelowBase Q.levels (shown Q cells cs run)
  shown_under cs b run h =
      All-map (λ z. z < Q.levels) (at Q cells run) cs (All-weaker (λ c. c < Q.factors) (λ c. at Q cells run c < Q.levels) (λ c l. at_below run c h l) cs b)

  tuple_lt : (u : List ℕ) → Tuple Q u → number_from_digits Q.levels u < Q.levels ^ Q.strength
  tuple_lt u l = subst (λ z. number_from_digits Q.levels u < Q.levels ^ z) l.many (number_lt Q.levels u l.below)

  written_tuple : (m : ℕ) → Tuple Q (written Q.levels Q.strength m)
  written_tuple m =
      record {
        many = length_written Q.levels Q.strength m;
        below = under_written Q.levels Q.strength m (omega (arith, A.several));
      }

  module _ {cs : List ℕ} (C : Choice Q cs) where
    combination_lt : (run : ℕ) → run < Q.runs → combination Q cells cs run < Q.levels ^ Q.strength
    combination_lt run h =
        subst (λ z. combination Q cells cs run < Q.levels ^ z) (length-map cs (at Q cells run) ∙ C.many)
        (number_lt Q.levels (shown Q cells cs run) (shown_under cs C.below run h))

    -- a tuple occurs as often as its number is counted
    occurs_counted : (u : List ℕ) → Tuple Q u → occurrences Q cells cs u ≡ counted Q cells cs (number_from_digits Q.levels u) Q.runs
    unfolding occurrences
    occurs_counted u l =
        tally_alike (λ run. same (shown Q cells cs run) u) (λ run. eqb (combination Q cells cs run) (number_from_digits Q.levels u)) Q.runs
        (λ run h. same_number Q.levels (shown Q cells cs run) u (shown_under cs C.below run h) l.below (length-map cs (at Q cells run) ∙ C.many ∙ sym l.many))

    occurs_written : (m : ℕ) → m < Q.levels ^ Q.strength → occurrences Q cells cs (written Q.levels Q.strength m) ≡ counted Q cells cs m Q.runs
    occurs_written m h =
        occurs_counted (written Q.levels Q.strength m) (written_tuple m)
        ∙ ap (λ z. counted Q cells cs z Q.runs) (number_written Q.levels Q.strength m (omega (arith, A.several)) h)

    -- the sum of all counts is the number of runs, so where each is the same, each is the index
    pub alike_passes : (v : ℕ) → ((u : List ℕ) → Tuple Q u → occurrences Q cells cs u ≡ v) → v * Q.levels ^ Q.strength ≡ Q.runs
    alike_passes v h =
        mul_comm v (Q.levels ^ Q.strength)
        ∙ sym (sum_even (λ m. counted Q cells cs m Q.runs) v (Q.levels ^ Q.strength) (λ m l. sym (occurs_written m l) ∙ h (written Q.levels Q.strength m) (written_tuple m)))
        ∙ tallies_sum (combination Q cells cs) (Q.levels ^ Q.strength) Q.runs combination_lt

    -- where every combination passes, so does every tuple
    counts_even : ((m : ℕ) → m < Q.levels ^ Q.strength → counted Q cells cs m Q.runs * Q.levels ^ Q.strength ≡ Q.runs) → Even Q cells cs
    counts_even h u l = ap (λ z. z * Q.levels ^ Q.strength) (occurs_counted u l) ∙ h (number_from_digits Q.levels u) (tuple_lt u l)

    -- the first combination that does not pass
    counts_fail : (m : ℕ) (f : Failure) → m < Q.levels ^ Q.strength
        → (counted Q cells cs m Q.runs * Q.levels ^ Q.strength ≡ Q.runs → ⊥)
        → ((k : ℕ) → k < m → counted Q cells cs k Q.runs * Q.levels ^ Q.strength ≡ Q.runs)
        → f.columns ≡ sum_by (λ c. 2 ^ c) cs → f.combination ≡ m → f.count ≡ counted Q cells cs m Q.runs
        → Fails Q cells cs f
    counts_fail m f h bad good bits is many' =
        let number_is = number_written Q.levels Q.strength m (omega (arith, A.several)) h in
        record {
          tuple = written Q.levels Q.strength m;
          levels = written_tuple m;
          fails = λ e. bad (ap (λ z. z * Q.levels ^ Q.strength) (sym (occurs_written m h)) ∙ e);
          lowest = λ u l q. ap (λ z. z * Q.levels ^ Q.strength) (occurs_counted u l) ∙ good (number_from_digits Q.levels u) (omega arith);
          mask = bits;
          combination = is ∙ sym number_is;
          count = many' ∙ sym (occurs_written m h);
        }

    -- the columns as bits, and what the search among the counters says
    pub bits_fit : sum_by (λ c. 2 ^ c) cs < 2 ^ 32
    bits_fit =
        let each : AllByRecursion (λ c. 2 ^ c ≤ 65536) cs = All-weaker (λ c. c < Q.factors) (λ c. 2 ^ c ≤ 65536) (λ c h. let low : c ≤ 16 = omega (arith, A.narrow) in pow_mono low) cs C.below in
        omega (arith, sum_by_le (λ c. 2 ^ c) 65536 cs each, C.many, A.meets, A.narrow)

    module _ (xs : List ℕ) (long : length xs ≡ Q.levels ^ Q.strength) (counts : (m : ℕ) → m < Q.levels ^ Q.strength → get_or xs m 0 ≡ counted Q cells cs m Q.runs) where
      abbrev off : ℕ → Bool
      off n = not (eqb (n * length xs) Q.runs)

      share : (m : ℕ) → m < Q.levels ^ Q.strength → get_or xs m 0 * length xs ≡ counted Q cells cs m Q.runs * Q.levels ^ Q.strength
      share m h = ap (λ z. z * length xs) (counts m h) ∙ ap (λ z. counted Q cells cs m Q.runs * z) long

      -- a counter that is not off has its share
      fair : (m : ℕ) → m < Q.levels ^ Q.strength → off (get_or xs m 0) ≡ false → counted Q cells cs m Q.runs * Q.levels ^ Q.strength ≡ Q.runs
      fair m h e = sym (share m h) ∙ eqb-true (get_or xs m 0 * length xs) Q.runs (not-false (eqb (get_or xs m 0 * length xs) Q.runs) e)

      pub none_off : None ≡ position off xs → Even Q cells cs
      none_off e = counts_even (λ m h. fair m h (none_below (λ k. off (get_or xs k 0)) (length xs) (sought_by_position off (λ k. off (get_or xs k 0)) xs 0 (λ k l. refl) None e) m (omega arith)))

      pub first_off : (m : ℕ) (f : Failure) → Some m ≡ position off xs → f.columns ≡ sum_by (λ c. 2 ^ c) cs → f.combination ≡ m → f.count ≡ get_or xs m 0 → Fails Q cells cs f
      first_off m f e bits is count =
          let at = position-Some off xs m 0 (sym e) in
          let low : m < Q.levels ^ Q.strength = omega (arith, at.0) in
          counts_fail m f low (λ b. both_ways (off (get_or xs m 0)) (not_from_true _ (eq-eqb (get_or xs m 0 * length xs) Q.runs (share m low ∙ b))) at.1) (λ k h. fair k (omega arith) (at.2 k h)) bits is (count ∙ counts m low)
