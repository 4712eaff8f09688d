-- Wishes that no row of the table refuses are t different factors with a level each, and the other way round. Assumes nothing.
use Rattle.std.proofs.Common.{◌≡◌, ℕ, zero, suc, ◌<◌, Bool, false, not, eqb, ltb, leb, ◌≢◌, List, [], ◌∷◌, length, get_or, None, sym, ap, arith}
use Rattle.std.specs.List.{AllByRecursion}
use Rattle.std.proofs.lemmas.Bool.{leb-false, ltb-false, eqb-false, lt-leb, le-ltb, eq-eqb, ne_eqb}
use Rattle.refusal.specs.Table.{first, refusal}
use Rattle.refusal.proofs.Firsts.{none_always}
use Rattle.refusal.proofs.Places.{first_none, first_low, none_below}
use Rattle.levels.specs.Rings.{Arithmetic}
use Rattle.plan.specs.declared.shape.Plan.{Plan}
use Rattle.strip.specs.declared.wish.Wish.{Wish}
use Rattle.strip.specs.Names.{Apart, Chosen}
use Rattle.strip.specs.Wishes.{idle, factor_of, level_of, repeats, find_rows, locate_rows}

pub all_placed : (Q : Wish → Type 0) (ws : List Wish) → ((k : ℕ) → k < length ws → Q (get_or ws k idle)) → AllByRecursion Q ws
all_placed Q [] h = tt
all_placed Q (w ∷ ws) h = (h 0 (omega arith), all_placed Q ws (λ k l. h (suc k) (omega arith)))

pub placed_all : (Q : Wish → Type 0) (ws : List Wish) → AllByRecursion Q ws → (k : ℕ) → k < length ws → Q (get_or ws k idle)
placed_all Q [] a k h = absurd (omega arith)
placed_all Q (w ∷ ws) a zero h = a.0
placed_all Q (w ∷ ws) a (suc k) h = placed_all Q ws a.1 k (omega arith)

apart_placed : (ws : List Wish) → ((m k : ℕ) → m < k → k < length ws → factor_of ws m ≢ factor_of ws k) → Apart ws
apart_placed [] h = tt
apart_placed (w ∷ ws) h = (
  all_placed (λ v. v.factor ≢ w.factor) ws (λ k l e. h 0 (suc k) (omega arith) (omega arith) (sym e)),
  apart_placed ws (λ m k l n. h (suc m) (suc k) (omega arith) (omega arith)),
)

pub chosen : (P : Plan) (ws : List Wish)
    → first (λ k. leb P.factors (factor_of ws k)) (length ws) ≡ length ws
    → first (λ k. leb P.levels (level_of ws k)) (length ws) ≡ length ws
    → length ws ≡ P.strength
    → first (repeats ws) (length ws) ≡ length ws
    → Chosen P ws
chosen P ws f l t r =
    record {
      sized = t;
      factors = all_placed (λ w. w.factor < P.factors) ws (λ k h. leb-false P.factors (factor_of ws k) (none_below (λ k. leb P.factors (factor_of ws k)) (length ws) f k h));
      levels = all_placed (λ w. w.level < P.levels) ws (λ k h. leb-false P.levels (level_of ws k) (none_below (λ k. leb P.levels (level_of ws k)) (length ws) l k h));
      apart = apart_placed ws (λ m k q h. apart m k q (none_below (repeats ws) (length ws) r k h));
    }
  where
    apart : (m k : ℕ) → m < k → repeats ws k ≡ false → factor_of ws m ≢ factor_of ws k
    apart m k q e =
        let same : ℕ → Bool = λ m. eqb (factor_of ws m) (factor_of ws k) in
        let none : first same k ≡ k = omega (arith, ltb-false (first same k) k e, first_low same k) in
        eqb-false (factor_of ws m) (factor_of ws k) (none_below same k none m q)

apart_at : (ws : List Wish) → Apart ws → (m k : ℕ) → m < k → k < length ws → factor_of ws m ≢ factor_of ws k
apart_at [] a m k l h = absurd (omega arith)
apart_at (w ∷ ws) a m zero l h = absurd (omega arith)
apart_at (w ∷ ws) a zero (suc k) l h = λ e. placed_all (λ v. v.factor ≢ w.factor) ws a.0 k (omega arith) (sym e)
apart_at (w ∷ ws) a (suc m) (suc k) l h = apart_at ws a.1 m k (omega arith) (omega arith)

-- a row whose condition holds nowhere does not hold
nowhere : (f : ℕ → Bool) (n : ℕ) → ((k : ℕ) → k < n → f k ≡ false) → ltb (first f n) n ≡ false
nowhere f n h = le-ltb (first f n) n (omega (arith, first_none f n h))

count_clear : (P : Plan) (R : Arithmetic) → R.count ≡ P.levels → not (eqb R.count P.levels) ≡ false
count_clear P R e = ap not (eq-eqb R.count P.levels e)

-- no row of the table refuses t different factors with a level each
pub chosen_clear : (P : Plan) (R : Arithmetic) (ws : List Wish) → R.count ≡ P.levels → Chosen P ws → refusal (find_rows P R ws) ≡ None
chosen_clear P R ws counts c =
    none_always (find_rows P R ws) (
      count_clear P R counts,
      (
        nowhere (λ k. leb P.factors (factor_of ws k)) (length ws) (λ k h. lt-leb P.factors (factor_of ws k) (placed_all (λ w. w.factor < P.factors) ws c.factors k h)),
        (
          nowhere (λ k. leb P.levels (level_of ws k)) (length ws) (λ k h. lt-leb P.levels (level_of ws k) (placed_all (λ w. w.level < P.levels) ws c.levels k h)),
          (
            ap not (eq-eqb (length ws) P.strength c.sized),
            (
              nowhere (repeats ws) (length ws) (λ k h. nowhere (λ m. eqb (factor_of ws m) (factor_of ws k)) k (λ m l. ne_eqb (factor_of ws m) (factor_of ws k) (apart_at ws c.apart m k l h))),
              tt,
            ),
          ),
        ),
      ),
    )

-- nor a factor and a fine setting that there are
pub located_clear : (P : Plan) (R : Arithmetic) (j f : ℕ) → R.count ≡ P.levels → j < P.factors → f < P.labels → refusal (locate_rows P R j f) ≡ None
located_clear P R j f counts hj hf = none_always (locate_rows P R j f) (count_clear P R counts, (lt-leb P.factors j hj, (lt-leb P.labels f hf, tt)))
