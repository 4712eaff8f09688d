-- Worked examples: what a definition computes, beside what it should be.
--   below      the numbers below n, in order
--   settings   the level and the fine setting of each factor of a label
--   passing    the numbers below n that pass a test
--   sample     the plan of three levels, strength 2, three factors and seed 1
--   marks      the grades of the sample's labels
--   signed     an integer as its sign, 0 for plus and 1 for minus, and its size
--   table      a row for each example
-- Assumes nothing.
use Rattle.std.specs.Prelude.{◌≡◌, ℕ, zero, suc, Bool, cond, ◌&&◌, List, [], ◌∷◌, ◌++◌, map, ℤ, pos, negsuc, ◌==◌, nat_eq, nat_lt, slice_index, refl}
use Rattle.std.proofs.Common.{lit<, lit≤}
use Rattle.std.specs.List.{AllByRecursion}
use Rattle.levels.specs.Rings.{inverse}
use Rattle.levels.specs.Residues.{residues}
use Rattle.levels.specs.Polynomials.{polynomials}
use Rattle.shuffle.specs.Round.{round}
use Rattle.shuffle.specs.Hash.{mask, hash_ways}
use Rattle.shuffle.specs.Keyed.{turn_ways}
use Rattle.plan.specs.declared.shape.Plan.{Plan}
use Rattle.strip.specs.Labels.{level, fine}
use Rattle.trial.specs.Finished.{effect_over}

abbrev pub below : ℕ → List ℕ
below zero = []
below (suc n) = below n ++ n ∷ []

abbrev pub passing : (ℕ → Bool) → ℕ → List ℕ
passing f zero = []
passing f (suc n) = passing f n ++ cond (f n) (n ∷ []) []

abbrev pub sample : Plan
sample = record {
  levels = 3;
  strength = 2;
  factors = 3;
  seed = 1;
  labels = 9;
  keyed = lit< tt;
  strong = lit≤ tt;
  meets = lit≤ tt;
  named = lit≤ tt;
  several = lit≤ tt;
  few = lit≤ tt;
  sized = refl;
  short = lit≤ tt;
}

-- on the sample strip, by the turn
abbrev pub level_of : ℕ → ℕ → ℕ
level_of = level sample (residues 3) turn_ways

abbrev pub fine_of : ℕ → ℕ → ℕ
fine_of = fine sample (residues 3) turn_ways

abbrev pub settings : ℕ → List ℕ
settings i = level_of i 0 ∷ fine_of i 0 ∷ level_of i 1 ∷ fine_of i 1 ∷ level_of i 2 ∷ fine_of i 2 ∷ []

abbrev pub marks : ℕ → ℤ
marks i = pos (slice_index (95 ∷ 110 ∷ 115 ∷ 100 ∷ 115 ∷ 120 ∷ 105 ∷ 105 ∷ 125 ∷ []) i)

abbrev pub signed : ℤ → List ℕ
signed (pos n) = 0 ∷ n ∷ []
signed (negsuc n) = 1 ∷ suc n ∷ []

pub record Row : Type 0 where
  pub computed : List ℕ
  pub expected : List ℕ

abbrev pub row : List ℕ → List ℕ → Row
row computed expected = record { computed = computed; expected = expected }

abbrev pub table : List Row
table =
    -- the hash of 0 to 3 at size 4, and of 0 to 2 at size 3, by key 1
    row (map (hash_ways.out 1 4) (below 4)) (3 ∷ 1 ∷ 0 ∷ 2 ∷ []) ∷
    row (map (hash_ways.out 1 3) (below 3)) (0 ∷ 1 ∷ 2 ∷ []) ∷
    -- at size 3 the number 2 needs two rounds: after one it is not yet below 3
    row (passing (λ r. nat_lt (round (mask 3) 1 2) 3) 1) [] ∷
    row (passing (λ r. nat_lt (round (mask 3) 1 (round (mask 3) 1 2)) 3) 1) (0 ∷ []) ∷
    -- binary polynomials: 2 times 2 and the inverse of 2 at 4, 4 times 4 at 8, 8 times 2 at 16
    row ((polynomials 4).product 2 2 ∷ inverse (polynomials 4) 2 ∷ []) (3 ∷ 3 ∷ []) ∷
    row ((polynomials 8).product 4 4 ∷ (polynomials 16).product 8 2 ∷ []) (6 ∷ 3 ∷ []) ∷
    -- the sample strip, label by label
    row (settings 0) (0 ∷ 2 ∷ 2 ∷ 7 ∷ 1 ∷ 5 ∷ []) ∷
    row (settings 1) (1 ∷ 5 ∷ 0 ∷ 1 ∷ 2 ∷ 8 ∷ []) ∷
    row (settings 2) (2 ∷ 6 ∷ 2 ∷ 8 ∷ 2 ∷ 6 ∷ []) ∷
    row (settings 3) (0 ∷ 0 ∷ 0 ∷ 2 ∷ 0 ∷ 0 ∷ []) ∷
    row (settings 4) (1 ∷ 3 ∷ 1 ∷ 5 ∷ 1 ∷ 3 ∷ []) ∷
    row (settings 5) (2 ∷ 7 ∷ 0 ∷ 0 ∷ 1 ∷ 4 ∷ []) ∷
    row (settings 6) (0 ∷ 1 ∷ 1 ∷ 3 ∷ 2 ∷ 7 ∷ []) ∷
    row (settings 7) (1 ∷ 4 ∷ 2 ∷ 6 ∷ 0 ∷ 1 ∷ []) ∷
    row (settings 8) (2 ∷ 8 ∷ 1 ∷ 4 ∷ 0 ∷ 2 ∷ []) ∷
    -- level 2 of factor 0 with level 0 of factor 2 is on label 8 alone, and fine setting 5 of factor 1 on label 4 alone
    row (passing (λ i. (level_of i 0 == 2) && level_of i 2 == 0) 9) (8 ∷ []) ∷
    row (passing (λ i. nat_eq (fine_of i 1) 5) 9) (4 ∷ []) ∷
    -- with these grades the effect of factor 0 from level 0 to level 2 is 60, and the other way round -60
    row (signed (effect_over sample (residues 3) turn_ways marks 0 2 0)) (0 ∷ 60 ∷ []) ∷
    row (signed (effect_over sample (residues 3) turn_ways marks 0 0 2)) (1 ∷ 60 ∷ []) ∷
    []

abbrev pub Tabulated : Type 0
Tabulated = AllByRecursion (λ r. r.computed ≡ r.expected) table
