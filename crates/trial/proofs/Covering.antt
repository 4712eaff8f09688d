-- Strip done, and the combinations that are on graded labels. Assumes nothing.
use Rattle.std.proofs.Common.{◌≡◌, ℕ, ◌<◌, Bool, true, false, T, ◌↔◌, List, length, get_or, take, Result, sym, refl, subst}
use Rattle.refusal.specs.declared.Slip.{Slip}
use Rattle.levels.specs.Rings.{Arithmetic}
use Rattle.shuffle.specs.Ways.{Ways}
use Rattle.plan.specs.declared.shape.Plan.{Plan}
use Rattle.strip.specs.Labels.{level}
use Rattle.strip.proofs.Bounds.{some_labels}
use Rattle.book.specs.declared.calls.Call.{Call}
use Rattle.book.specs.declared.calls.Call.TheVariants.{Take}
use Rattle.book.specs.declared.calls.Answer.{Answer}
use Rattle.book.specs.Plain.{Label, waiting, out, graded, Plain, opened, Step}
use Rattle.book.specs.Rows.{Row}
use Rattle.book.specs.Laws.{Sized}
use Rattle.book.proofs.Steps.{sized_opened}
use Rattle.book.proofs.Chains.{row_kept, turn_at}
use Rattle.book.proofs.Grades.{AllGraded, done_only, done_always}
use Rattle.design.specs.Designs.{Factors}
use Rattle.design.proofs.Exchanges.{coverage}
use Rattle.strip_design.specs.Strips.{StripDesign}
use Rattle.trial.specs.Trials.{Covered, DoneAt}

-- a label has a grade, as a test
abbrev has_grade : Label → Bool
has_grade waiting = false
has_grade out = false
has_grade (graded g) = true

tested : (l : Label) → (g : ℕ) × (l ≡ graded g) → T (has_grade l)
tested l (g, e) = subst (λ x. T (has_grade x)) (sym e) tt

grade_of_lem : (l : Label) → T (has_grade l) → (g : ℕ) × (l ≡ graded g)
grade_of_lem waiting t = absurd t
grade_of_lem out t = absurd t
grade_of_lem (graded g) t = (g, refl)

module _ (P : Plan) (R : Arithmetic) (W : Ways) (D : StripDesign P R W) (F : List ℕ) (fs : Factors P.factors F) (len : length F ≡ P.strength) where
  -- any t different factors are covered exactly where every label is graded
  pub covered_all : (p : Plain) → Covered P R W F p ↔ AllGraded P.labels p
  covered_all p =
      let both = coverage P.labels P.levels P.factors P.strength (level P R W) D F fs len (λ i. has_grade (get_or p.labels i waiting)) in (
        λ cov i h. grade_of_lem (get_or p.labels i waiting) (both.0 (λ w ok. let r = cov w ok in (r.0, r.1, tested (get_or p.labels r.0 waiting) r.2, r.3)) i h),
        λ all w ok. let r = both.1 (λ i h. tested (get_or p.labels i waiting) (all i h)) w ok in (r.0, r.1, grade_of_lem (get_or p.labels r.0 waiting) r.2, r.3),
      )

  pub done_at : (calls : List Call) (told : List (Result Answer Slip)) (q : Plain) → Row P.labels (opened P.labels) calls told q
      → (k : ℕ) (x : Call) (y : Result Answer Slip) → k < length told → get_or calls k x ≡ Take P.labels → DoneAt P R W calls told k F y
  done_at calls told q row k x y h is =
      let n = P.labels in
      let t = turn_at n (opened n) q calls told row k h x y in
      let s : Sized n t.before = row_kept n (opened n) t.before (take k calls) (take k told) (sized_opened n (some_labels P)) t.row in
      let step : Step n t.before (Take n) (get_or told k y) t.after = subst (λ c. Step n t.before c (get_or told k y) t.after) is t.step in
      record {
        before = t.before;
        row = t.row;
        exactly = (
          λ e. (covered_all t.before).1 (done_only n t.before s (get_or told k y) t.after step e),
          λ cov. done_always n t.before s (get_or told k y) t.after step ((covered_all t.before).0 cov),
        );
      }
