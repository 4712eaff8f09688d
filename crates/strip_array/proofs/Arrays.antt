-- One label for any t different factors with a level each makes the strip's table an orthogonal array of index 1. Assumes nothing.
use Rattle.std.proofs.Common.{◌≡◌, ℕ, suc, ◌+◌, ◌*◌, ◌/◌, ◌%◌, ◌<◌, ◌≤◌, ◌≢◌, List, [], ◌∷◌, map, length, get_or, take, sym, refl, ap, ◌∙◌, subst, ap₂, mod-lt, mul_comm, div-lt_iff_lt-mul, div-add-mod', zero-add, arith, length-take-le, get_or-take}
use lib.ListN.{length-map}
use Rattle.std.specs.List.{AllByRecursion}
use Rattle.std.proofs.lemmas.Nat.{mul-add-lt}
use Rattle.std.proofs.ByRecursion.{All-from_get_or}
use Rattle.std.proofs.lemmas.List.{get_or-map}
use Rattle.levels.specs.Rings.{Arithmetic, RingLaws}
use Rattle.shuffle.specs.Ways.{Ways, ShuffleLaws}
use Rattle.plan.specs.declared.shape.Plan.{Plan}
use Rattle.strip.specs.declared.cell.Cell.{Cell}
use Rattle.strip.specs.declared.wish.Wish.{Wish}
use Rattle.strip.specs.Labels.{index, level, cell_at}
use Rattle.strip.specs.Names.{Apart, Chosen, Meets, Exact}
use Rattle.strip.specs.Rows.{blank, Written}
use Rattle.strip.proofs.Bounds.{level_below}
use Rattle.strength.specs.Arrays.{at, shown, occurrences, Different, Columns, Tuple, OrthogonalArray}
use Rattle.strength.proofs.Balance.{occurs_once}
use Rattle.strip_array.specs.Tables.{claimed, part}

-- the wish for each column to have the level beside it
abbrev pub wished : List ℕ → List ℕ → List Wish
wished [] ls = []
wished (c ∷ cs) [] = []
wished (c ∷ cs) (l ∷ ls) = record { factor = c; level = l } ∷ wished cs ls

length_wished : (cs ls : List ℕ) → length cs ≡ length ls → length (wished cs ls) ≡ length cs
length_wished [] ls e = refl
length_wished (c ∷ cs) [] e = absurd (omega arith)
length_wished (c ∷ cs) (l ∷ ls) e = ap suc (length_wished cs ls (omega arith))

all_factors : (Q : ℕ → Type 0) (cs ls : List ℕ) → AllByRecursion Q cs → AllByRecursion (λ w. Q w.factor) (wished cs ls)
all_factors Q [] ls a = tt
all_factors Q (c ∷ cs) [] a = tt
all_factors Q (c ∷ cs) (l ∷ ls) a = (a.0, all_factors Q cs ls a.1)

all_levels : (Q : ℕ → Type 0) (cs ls : List ℕ) → AllByRecursion Q ls → AllByRecursion (λ w. Q w.level) (wished cs ls)
all_levels Q [] ls a = tt
all_levels Q (c ∷ cs) [] a = tt
all_levels Q (c ∷ cs) (l ∷ ls) a = (a.0, all_levels Q cs ls a.1)

all_turned : (c : ℕ) (cs : List ℕ) → AllByRecursion (λ k. c ≢ k) cs → AllByRecursion (λ k. k ≢ c) cs
all_turned c [] a = tt
all_turned c (k ∷ cs) a = ((λ e. a.0 (sym e)), all_turned c cs a.1)

apart : (cs ls : List ℕ) → Different cs → Apart (wished cs ls)
apart [] ls d = tt
apart (c ∷ cs) [] d = tt
apart (c ∷ cs) (l ∷ ls) d = (all_factors (λ k. k ≢ c) cs ls (all_turned c cs d.0), apart cs ls d.1)

module _ (P : Plan) (R : Arithmetic) (W : Ways) where
  -- a run that has each wished level shows the tuple, and the other way round
  has_shown : (i : ℕ) (cs ls : List ℕ) → length cs ≡ length ls → Meets P R W (wished cs ls) i → map (level P R W i) cs ≡ ls
  has_shown i [] [] e m = refl
  has_shown i [] (l ∷ ls) e m = absurd (omega arith)
  has_shown i (c ∷ cs) [] e m = absurd (omega arith)
  has_shown i (c ∷ cs) (l ∷ ls) e m = ap₂ ◌∷◌ m.0 (has_shown i cs ls (omega arith) m.1)

  shown_has : (i : ℕ) (cs ls : List ℕ) → map (level P R W i) cs ≡ ls → Meets P R W (wished cs ls) i
  shown_has i [] ls e = tt
  shown_has i (c ∷ cs) [] e = tt
  shown_has i (c ∷ cs) (l ∷ ls) e = (cc, shown_has i cs ls (cc))

  chosen : (cs ls : List ℕ) → Columns (claimed P) cs → Tuple (claimed P) ls → Chosen P (wished cs ls)
  chosen cs ls c t =
      record {
        sized = length_wished cs ls (c.many ∙ sym t.many) ∙ c.many;
        factors = all_factors (λ k. k < P.factors) cs ls c.below;
        levels = all_levels (λ k. k < P.levels) cs ls t.below;
        apart = apart cs ls c.different;
      }

  module _ (before after : List Cell) (rows : Written P R W 0 P.labels 0 before after) (room : P.labels * P.factors ≤ length after) where
    long : length (part P after) ≡ P.labels * P.factors
    long = length-map (take (P.labels * P.factors) after) (λ c. c.level) ∙ length-take-le (P.labels * P.factors) after room

    -- a cell of the part is the level of its label for its factor
    cell : (i j : ℕ) → i < P.labels → j < P.factors → at (claimed P) (part P after) i j ≡ level P R W i j
    cell i j hi hj =
        let p = i * P.factors + j in
        let within : p < P.labels * P.factors = omega (arith, mul-add-lt i P.factors j P.labels hi hj, mul_comm P.factors P.labels) in
        let whole = take (P.labels * P.factors) after in
        let sized : length whole ≡ P.labels * P.factors = length-take-le (P.labels * P.factors) after room in
        let written : get_or after p blank ≡ cell_at P R W (index P W i) j =
        subst (λ z. get_or after z blank ≡ cell_at P R W (index P W i) j) (zero-add p) (subst (λ k. get_or after (0 + p) blank ≡ cell_at P R W (index P W k) j) (zero-add i) (rows.cells i j hi hj)) in
        get_or-map (λ c. c.level) whole p blank 0 (omega arith) ∙ ap (λ (c : Cell). c.level) (get_or-take (P.labels * P.factors) after p blank within ∙ written)

    same_shown : (i : ℕ) (cs : List ℕ) → i < P.labels → AllByRecursion (λ c. c < P.factors) cs → shown (claimed P) (part P after) cs i ≡ map (level P R W i) cs
    same_shown i [] h a = refl
    same_shown i (c ∷ cs) h a = ap₂ ◌∷◌ (cell i c h a.0) (same_shown i cs h a.1)

    balanced : Exact P R W → (cs ls : List ℕ) → Columns (claimed P) cs → Tuple (claimed P) ls → occurrences (claimed P) (part P after) cs ls ≡ 1
    balanced exact cs ls c t =
        let found = exact.names (wished cs ls) (chosen cs ls c t) in
        let long = c.many ∙ sym t.many in
        occurs_once (claimed P) (part P after) cs ls found.0 found.1.below
        (same_shown found.0 cs found.1.below c.below ∙ has_shown found.0 cs ls long found.1.meets)
        (λ k h e. found.1.alone k h (shown_has k cs ls (sym (same_shown k cs h c.below) ∙ e)))

    pub arrayed : RingLaws R → ShuffleLaws W → R.count ≡ P.levels → Exact P R W → OrthogonalArray (claimed P) (part P after) 1
    arrayed L M counts exact =
        record {
          sized = long;
          levels = All-from_get_or (λ l. l < P.levels) (part P after) 0 (λ p h. small p (omega (arith, long)));
          balanced = balanced exact;
        }
      where
        small : (p : ℕ) → p < P.labels * P.factors → get_or (part P after) p 0 < P.levels
        small p h =
            let d : ℕ = P.factors in
            let some : 0 < d = omega (arith, P.strong, P.meets) in
            let is = cell (p / d) (p % d) ((div-lt_iff_lt-mul some).1 h) (mod-lt p some) in
            subst (λ z. get_or (part P after) z 0 < P.levels) (div-add-mod' p d) (subst (λ z. z < P.levels) (sym is) (level_below P L M counts (index P W (p / d)) (p % d)))
