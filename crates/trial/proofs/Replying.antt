-- An effect that is handed the N words, or memory of another length, is replied as on the plain book. Assumes nothing.
use Rattle.std.proofs.Common.{◌≡◌, ℕ, ◌<◌, ◌≤◌, Bool, true, false, cond, not, ◌||◌, leb, List, ◌∷◌, map, length, take, ℤ, Some, None, Ok, Err, Result, sym, ap, ◌∙◌, subst, ⊎_elim, arith}
use Rattle.std.proofs.lemmas.List.{take_all, length-take-le}
use Rattle.std.proofs.lemmas.Bool.{cases_eq, cond_both, ne_eqb, leb-true}
use Rattle.refusal.specs.declared.Slip.{Slip}
use Rattle.refusal.specs.Table.{Row, row, refusal, Answers}
use Rattle.levels.specs.Rings.{Arithmetic}
use Rattle.shuffle.specs.Ways.{Ways}
use Rattle.plan.specs.declared.shape.Plan.{Plan}
use Rattle.refusal.specs.declared.Layer.TheVariants as layer
use Rattle.strip.specs.Rows.{count_row}
use Rattle.book.specs.Conditions.{ungraded}
use Rattle.book.specs.declared.standing.Standing.{Standing}
use Rattle.book.specs.Faults.{slip_of}
use Rattle.book.specs.Standings.{standings}
use Rattle.book.specs.Plain.{Plain, stand}
use Rattle.book.specs.Laws.{Sized}
use Rattle.book.specs.Shown.{Shows}
use Rattle.book.proofs.Lines.{given_none}
use Rattle.book.proofs.Simulation.{shows_length}
use Rattle.book.proofs.Handing.{whole, other}
use Rattle.trial.specs.declared.fault.EffectFault.{EffectFault}
use Rattle.trial.specs.Faults.{effect_slip}
use Rattle.trial.specs.Finished.{grade_of}
use Rattle.trial.specs.Finished.{finished_rows, EffectOver}
use Rattle.trial.specs.Replies.{grade_in}
use Rattle.trial.proofs.Grading.{same_grade, same_effect}

-- at memory of another length the count of the arithmetic alone decides
unfit_rows : (P : Plan) (R : Arithmetic) (len : ℕ) (ss : List Standing) (f a b : ℕ) → (len ≡ P.labels → ⊥)
    → refusal (finished_rows P R len ss f a b) ≡ cond (count_row P R).holds (Some (count_row P R).slip) (Some (slip_of 6 0))
unfit_rows P R len ss f a b ne =
    ap (λ x. cond (count_row P R).holds (Some (count_row P R).slip) (cond (not x) (Some (slip_of 6 0)) (refusal (rest ss)))) (ne_eqb len P.labels ne)
  where
    rest : List Standing → List Row
    rest ss = row 8 layer.Book 0 (leb P.factors f) ∷ row 9 layer.Book (cond (leb P.levels a) 0 1) (leb P.levels a || leb P.levels b) ∷ ungraded ss

some_either : (b : Bool) (s t : Slip) → cond b (Some s) (Some t) ≡ None → ⊥
some_either true s t e = given_none e
some_either false s t e = given_none e

-- an answer is a refusal where some row holds, and rows that give the same refusal have the same answer
refused_same : {V E : Type 0} (tells : E → Slip) (rows others : List Row) (right wrong : V → Type 0) (v : Result V E) → (refusal rows ≡ None → ⊥) → refusal rows ≡ refusal others → Answers tells rows right v → Answers tells others wrong v
refused_same tells rows others right wrong (Ok v) some same h = absurd (some h.0)
refused_same tells rows others right wrong (Err e) some same h = sym same ∙ h

better : {V E : Type 0} (tells : E → Slip) (rows : List Row) (right sure : V → Type 0) (v : Result V E) → ((x : V) → right x → sure x) → Answers tells rows right v → Answers tells rows sure v
better tells rows right sure (Ok v) more h = (h.0, more v h.1)
better tells rows right sure (Err e) more h = h

-- what an effect answers that is handed memory of this length, where the labels stand so and have these grades
abbrev pub Owed : Plan → Arithmetic → Ways → (f a b : ℕ) → Result ℤ EffectFault → (len : ℕ) → List Standing → (grade : ℕ → ℤ) → Type 0
Owed P R W f a b v len ss grade = Answers effect_slip (finished_rows P R len ss f a b) (EffectOver P R W grade f a b) v

module _ (P : Plan) (R : Arithmetic) (W : Ways) (ws : List ℕ) (p : Plain) (sized : Sized P.labels p) (shows : Shows ws p) (len f a b : ℕ) (v : Result ℤ EffectFault) where
  long : length ws ≡ P.labels
  long = shows_length ws p shows ∙ sized.labels

  some : 0 < P.labels
  some = omega (arith, sized.cursor)

  module _ (l : ℕ) (is : l ≡ cond (leb len (length ws)) len 0) (given : Owed P R W f a b v (length (take l ws)) (standings (take l ws)) (grade_of (take l ws))) where
    all_handed : len ≡ P.labels → Owed P R W f a b v len (map stand p.labels) (grade_in p)
    all_handed e =
        let full : l ≡ length ws = is ∙ whole P.labels len ws long some e in
        let front : take l ws ≡ ws = take_all l ws (omega arith) in
        let words = subst (λ x. Owed P R W f a b v (length x) (standings x) (grade_of x)) front given in
        let stood = subst (λ ss. Owed P R W f a b v len ss (grade_of ws)) shows (subst (λ n. Owed P R W f a b v n (standings ws) (grade_of ws)) (long ∙ sym e) words) in
        better effect_slip (finished_rows P R len (map stand p.labels) f a b) (EffectOver P R W (grade_of ws) f a b) (EffectOver P R W (grade_in p) f a b) v
        (λ x. same_effect P R W (grade_of ws) (grade_in p) (same_grade ws p shows) f a b x) stood

    none_handed : (len ≡ P.labels → ⊥) → Owed P R W f a b v len (map stand p.labels) (grade_in p)
    none_handed ne =
        let within : l ≤ length ws = subst (λ x. x ≤ length ws) (sym is) (cond_both (leb len (length ws)) len 0 (λ x. x ≤ length ws) (λ e. leb-true len (length ws) e) (λ e. omega arith)) in
        let part : length (take l ws) ≡ P.labels → ⊥ = λ e. other P.labels len ws long some ne (sym is ∙ sym (length-take-le l ws within) ∙ e) in
        let here = unfit_rows P R (length (take l ws)) (standings (take l ws)) f a b part in
        let there = unfit_rows P R len (map stand p.labels) f a b ne in
        refused_same effect_slip (finished_rows P R (length (take l ws)) (standings (take l ws)) f a b) (finished_rows P R len (map stand p.labels) f a b) (EffectOver P R W (grade_of (take l ws)) f a b) (EffectOver P R W (grade_in p) f a b) v
        (λ z. some_either (count_row P R).holds (count_row P R).slip (slip_of 6 0) (sym here ∙ z)) (here ∙ sym there) given

    pub effect_replied : Owed P R W f a b v len (map stand p.labels) (grade_in p)
    effect_replied = ⊎_elim all_handed none_handed (cases_eq len P.labels)
