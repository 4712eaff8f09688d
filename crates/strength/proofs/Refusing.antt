-- Which row of the refusal table a check is given, in the order of its tests. Assumes nothing.
use Rattle.std.proofs.Common.{◌≡◌, ℕ, zero, suc, ◌*◌, ◌^◌, ◌<◌, ◌≤◌, false, ltb, leb, List, [], ◌∷◌, length, get_or, take, drop, Some, None, Option, refl, ap, ◌∙◌, arith}
use Rattle.std.specs.List.{AllByRecursion}
use Rattle.std.proofs.ByRecursion.{All-from_get_or}
use Rattle.std.proofs.lemmas.Bool.{lt-ltb, le-ltb, leb-false, eq-eqb, ne_eqb, or_from, not_from_true, cond-true, cond-false}
use Rattle.refusal.specs.declared.Layer.TheVariants as layer
use Rattle.std.specs.List.{position}
use Rattle.refusal.specs.Table.{Row, refusal, first, Sought}
use Rattle.refusal.proofs.Sought.{sought_by_position}
use Rattle.refusal.proofs.Places.{none_below}
use Rattle.strength.specs.declared.claim.Claim.{Claim}
use Rattle.strength.specs.Refusals.{check_rows, Accepted}

-- the claimed numbers are none that a row refuses
pub record Numbers (Q : Claim) : Type 0 where
  pub several : 2 ≤ Q.levels
  pub few : Q.levels ≤ 16
  pub factors : 1 ≤ Q.factors
  pub narrow : Q.factors ≤ 17
  pub strong : 1 ≤ Q.strength
  pub meets : Q.strength ≤ Q.factors
  pub small : Q.levels ^ Q.strength ≤ 65536
  pub runs : 1 ≤ Q.runs
  pub short : Q.runs ≤ 65536

-- rows that do not hold are passed over
skip : (k : ℕ) (rows : List Row) → AllByRecursion (λ q. q.holds ≡ false) (take k rows) → refusal rows ≡ refusal (drop k rows)
skip zero rows h = refl
skip (suc k) [] h = refl
skip (suc k) (r ∷ rs) h = cond-false r.holds (Some r.slip) (refusal rs) h.0 ∙ skip k rs h.1

module _ (Q : Claim) (cells : List ℕ) (n : ℕ) (N : Numbers Q) where
  numbers_pass : refusal (check_rows Q cells n) ≡ refusal (drop 4 (check_rows Q cells n))
  numbers_pass =
      skip 4 (check_rows Q cells n) (
        or_from _ _ (le-ltb Q.levels 2 N.several) (le-ltb 16 Q.levels N.few),
        (
          or_from _ _ (ne_eqb Q.factors 0 (λ e. omega (arith, N.factors))) (le-ltb 17 Q.factors N.narrow),
          (
            or_from _ _ (ne_eqb Q.strength 0 (λ e. omega (arith, N.strong))) (le-ltb Q.factors Q.strength N.meets),
            (
              or_from _ _ (or_from _ _ (le-ltb 65536 (Q.levels ^ Q.strength) N.small) (ne_eqb Q.runs 0 (λ e. omega (arith, N.runs)))) (le-ltb 65536 Q.runs N.short),
              tt,
            ),
          ),
        ),
      )

  module _ (sized : length cells ≡ Q.runs * Q.factors) (counted : n ≡ Q.levels ^ Q.strength) where
    memory_pass : refusal (check_rows Q cells n) ≡ refusal (drop 5 (check_rows Q cells n))
    memory_pass =
        numbers_pass
        ∙ skip 1 (drop 4 (check_rows Q cells n))
        (or_from _ _ (not_from_true _ (eq-eqb (length cells) (Q.runs * Q.factors) sized)) (not_from_true _ (eq-eqb n (Q.levels ^ Q.strength) counted)), tt)

    sought : (r : Option ℕ) → r ≡ position (leb Q.levels) cells → Sought (λ k. leb Q.levels (get_or cells k 0)) (length cells) r
    sought r e = sought_by_position (leb Q.levels) (λ k. leb Q.levels (get_or cells k 0)) cells 0 (λ k h. refl) r e

    pub cell_refused : (k : ℕ) → Some k ≡ position (leb Q.levels) cells
        → refusal (check_rows Q cells n) ≡ Some (record { number = 9; layer = layer.Checker; place = k })
    cell_refused k e =
        let found = sought (Some k) e in
        memory_pass
        ∙ cond-true (ltb (first (λ i. leb Q.levels (get_or cells i 0)) (length cells)) (length cells))
        (Some (record { number = 9; layer = layer.Checker; place = first (λ i. leb Q.levels (get_or cells i 0)) (length cells) })) None
        (lt-ltb (first (λ i. leb Q.levels (get_or cells i 0)) (length cells)) (length cells) (omega (arith, found.0, found.1)))
        ∙ ap (λ p. Some (record { number = 9; layer = layer.Checker; place = p })) found.1

    module _ (e : None ≡ position (leb Q.levels) cells) where
      pub none_refused : refusal (check_rows Q cells n) ≡ None
      none_refused =
          memory_pass
          ∙ skip 1 (drop 5 (check_rows Q cells n)) (le-ltb (first (λ i. leb Q.levels (get_or cells i 0)) (length cells)) (length cells) (omega (arith, sought None e)), tt)

      pub accepted : Accepted Q cells
      accepted =
          record {
            several = N.several;
            few = N.few;
            narrow = N.narrow;
            strong = N.strong;
            meets = N.meets;
            short = N.short;
            sized = sized;
            small = N.small;
            levels = All-from_get_or (λ l. l < Q.levels) cells 0 (λ i h. leb-false Q.levels (get_or cells i 0) (none_below (λ j. leb Q.levels (get_or cells j 0)) (length cells) (sought None e) i h));
          }
