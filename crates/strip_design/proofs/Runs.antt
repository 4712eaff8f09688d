-- Exactly one label for any t different factors with a level each makes the strip a design. Assumes nothing.
use Rattle.std.proofs.Common.{◌≡◌, ℕ, ◌<◌, ◌≢◌, List, [], ◌∷◌, map, length, None, sym, refl, ◌∙◌, subst, inl, inr, ⊎_elim, arith}
use lib.ListN.{length-map}
use Rattle.std.specs.List.{AllByRecursion}
use Rattle.std.proofs.lemmas.Bool.Decides.{nat_tests}
use Rattle.refusal.specs.Table.{refusal}
use Rattle.strip.specs.Rows.{count_row}
use Rattle.levels.specs.Rings.{Arithmetic, RingLaws}
use Rattle.shuffle.specs.Ways.{Ways, ShuffleLaws}
use Rattle.plan.specs.declared.shape.Plan.{Plan}
use Rattle.strip.specs.declared.wish.Wish.{Wish}
use Rattle.strip.specs.Labels.{index, level}
use Rattle.strip.specs.Names.{Apart, Chosen, Meets as HasAll, Exact}
use Rattle.strip.proofs.Bounds.{level_below}
use Rattle.design.specs.Designs.{In, Distinct, Factors, Meets}
use Rattle.strip_design.specs.Strips.{StripDesign}

-- a strip that is not refused has an arithmetic of the plan's count
pub count_same : (P : Plan) (R : Arithmetic) → refusal (count_row P R ∷ []) ≡ None → R.count ≡ P.levels
count_same P R e = grind (arith, nat_tests)

-- the wishes for level w j at each factor j of F
abbrev pub wishes_for : (ℕ → ℕ) → List ℕ → List Wish
wishes_for w F = map (λ j. record { factor = j; level = w j }) F

every : (Q : ℕ → Type 0) (w : ℕ → ℕ) (F : List ℕ) → ((j : ℕ) → In j F → Q j) → (T : Wish → Type 0) → ((j : ℕ) → Q j → T (record { factor = j; level = w j })) → AllByRecursion T (wishes_for w F)
every Q w [] h T k = tt
every Q w (j ∷ F) h T k = (k j (h j (inl refl)), every Q w F (λ i m. h i (inr m)) T k)

apart : (w : ℕ → ℕ) (F : List ℕ) → Distinct F → Apart (wishes_for w F)
apart w [] d = tt
apart w (j ∷ F) d = (every (λ i. i ≢ j) w F (λ i m e. d.0 (subst (λ (k : ℕ). In k F) e m)) (λ v. v.factor ≢ j) (λ i q. q), apart w F d.1)

module _ (P : Plan) (R : Arithmetic) (W : Ways) where
  chosen : (w : ℕ → ℕ) (F : List ℕ) → Factors P.factors F → length F ≡ P.strength → ((j : ℕ) → In j F → w j < P.levels) → Chosen P (wishes_for w F)
  chosen w F fs len ok =
      record {
        sized = length-map F (λ j. record { factor = j; level = w j }) ∙ len;
        factors = every (λ j. j < P.factors) w F fs.below (λ v. v.factor < P.factors) (λ j h. h);
        levels = every (λ j. w j < P.levels) w F ok (λ v. v.level < P.levels) (λ j h. h);
        apart = apart w F fs.apart;
      }

  to_meets : (w : ℕ → ℕ) (F : List ℕ) (i : ℕ) → HasAll P R W (wishes_for w F) i → Meets (level P R W) w F i
  to_meets w [] i h j m = absurd m
  to_meets w (k ∷ F) i h j m = ⊎_elim (λ e. subst (λ (x : ℕ). level P R W i x ≡ w x) (sym e) h.0) (to_meets w F i h.1 j) m

  from_meets : (w : ℕ → ℕ) (F : List ℕ) (i : ℕ) → Meets (level P R W) w F i → HasAll P R W (wishes_for w F) i
  from_meets w F i h = every (λ j. level P R W i j ≡ w j) w F h (λ v. level P R W i v.factor ≡ v.level) (λ j e. e)

  pub strip_design : RingLaws R → ShuffleLaws W → R.count ≡ P.levels → Exact P R W → StripDesign P R W
  strip_design L M counts x =
      record {
        size = P.sized;
        least = P.strong;
        most = P.meets;
        inside = λ i j hi hj. level_below P L M counts (index P W i) j;
        found = λ F fs len w ok.
            let r = x.names (wishes_for w F) (chosen w F fs len ok) in
            (r.0, r.1.below, to_meets w F r.0 r.1.meets);
        alone = λ F fs len w i k hi hk mi mk.
            let ok : (j : ℕ) → In j F → w j < P.levels = λ j m. subst (λ z. z < P.levels) (mi j m) (level_below P L M counts (index P W i) j) in
            let r = x.names (wishes_for w F) (chosen w F fs len ok) in
            r.1.alone i hi (from_meets w F i mi) ∙ sym (r.1.alone k hk (from_meets w F k mk));
      }
