-- The words of a book hold the grades of the plain book that they show. Assumes nothing.
use Rattle.std.proofs.Common.{◌≡◌, ℕ, ◌-◌, false, cond, eqb, leb, List, get_or, ℤ, pos, ◌-ℤ◌, sym, refl, ap, ◌∙◌, ap₂, arith}
use Rattle.std.proofs.lemmas.Bool.{cond_both, eqb-true}
use Rattle.levels.specs.Rings.{Arithmetic}
use Rattle.shuffle.specs.Ways.{Ways}
use Rattle.plan.specs.declared.shape.Plan.{Plan}
use Rattle.strip.specs.Labels.{level}
use Rattle.book.specs.declared.standing.Standing.{Standing}
use Rattle.book.specs.declared.standing.Standing.TheVariants.{Waiting, Out, Graded, Torn}
use Rattle.book.specs.Standings.{standing, is_torn}
use Rattle.book.specs.Plain.{Label, waiting, out, graded, Plain, stand}
use Rattle.book.specs.Shown.{Shows}
use Rattle.book.proofs.Upward.{stands_word}
use Rattle.book.proofs.Steps.{stands_label}
use Rattle.design.specs.Sums.{only}
use Rattle.design.specs.Designs.{sum_at}
use Rattle.design.proofs.Sums.{sum_same}
use Rattle.trial.specs.Finished.{grade_of}
use Rattle.trial.specs.Finished.{EffectOver}
use Rattle.trial.specs.Replies.{grade_as, grade_in}

-- the grade that a standing tells
abbrev said : Standing → ℤ
said Waiting = pos 0
said Out = pos 0
said (Graded g) = pos g
said Torn = pos 0

said_word : (w : ℕ) → is_torn (standing w) ≡ false → said (standing w) ≡ pos (w - 2)
said_word w =
    cond_both (eqb w 0) Waiting (cond (eqb w 1) Out (cond (leb w 1002) (Graded (w - 2)) Torn)) (λ s. is_torn s ≡ false → said s ≡ pos (w - 2))
    (λ e t. ap (λ (n : ℕ). pos (n - 2)) (sym (eqb-true w 0 e)))
    (λ z. cond_both (eqb w 1) Out (cond (leb w 1002) (Graded (w - 2)) Torn) (λ s. is_torn s ≡ false → said s ≡ pos (w - 2))
    (λ e t. ap (λ (n : ℕ). pos (n - 2)) (sym (eqb-true w 1 e)))
    (λ o. cond_both (leb w 1002) (Graded (w - 2)) Torn (λ s. is_torn s ≡ false → said s ≡ pos (w - 2))
    (λ e t. refl)
    (λ e t. let z : ◌≡◌ {A = ℕ} 0 1 = cc in absurd (omega arith))))

said_label : (l : Label) → said (stand l) ≡ grade_as l
said_label waiting = refl
said_label out = refl
said_label (graded g) = refl

whole_label : (l : Label) → is_torn (stand l) ≡ false
whole_label waiting = refl
whole_label out = refl
whole_label (graded g) = refl

pub same_grade : (ws : List ℕ) (p : Plain) → Shows ws p → (i : ℕ) → grade_of ws i ≡ grade_in p i
same_grade ws p shows i =
    let is : standing (get_or ws i 0) ≡ stand (get_or p.labels i waiting) = sym (stands_word ws i) ∙ ap (λ ss. get_or ss i Waiting) shows ∙ stands_label p.labels i in
    sym (said_word (get_or ws i 0) (ap is_torn is ∙ whole_label (get_or p.labels i waiting))) ∙ ap said is ∙ said_label (get_or p.labels i waiting)

-- an effect depends on nothing but the grades
pub same_effect : (P : Plan) (R : Arithmetic) (W : Ways) (g h : ℕ → ℤ) → ((i : ℕ) → g i ≡ h i) → (f a b : ℕ) (v : ℤ) → EffectOver P R W g f a b v → EffectOver P R W h f a b v
same_effect P R W g h same f a b v e =
    let at : (c : ℕ) → sum_at P.labels (level P R W) f c g ≡ sum_at P.labels (level P R W) f c h =
    λ c. sum_same P.labels (λ i. only (level P R W i f) c (g i)) (λ i. only (level P R W i f) c (h i)) (λ i l. ap (only (level P R W i f) c) (same i)) in
    record {
      value = e.value ∙ ap₂ ◌-ℤ◌ (at a) (at b);
      shares = λ two base share add. e.shares two base share (λ i l. same i ∙ add i l);
    }
