-- What strip done, and an accepted finish, say of the labels of the plain book. Assumes nothing.
use Rattle.std.proofs.Common.{◌≡◌, ℕ, ◌<◌, Bool, true, false, cond, not, ◌&&◌, map, length, get_or, Some, None, unwrap_or, sym, refl, ap, ◌∙◌, inl, inr, ⊎_elim, arith, Ok, Err, Result}
use lib.ListN.{length-map}
use Rattle.std.proofs.lemmas.Bool.{cases_Bool, not-true, not-false, and_right, eq-eqb}
use Rattle.refusal.specs.declared.Slip.{Slip}
use Rattle.refusal.specs.Table.{refusal}
use Rattle.refusal.proofs.Firsts.{none_only}
use Rattle.book.specs.declared.standing.Standing.TheVariants.{Waiting}
use Rattle.book.specs.declared.calls.Call.TheVariants.{Take, Finish}
use Rattle.book.specs.declared.calls.Answer.{Answer}
use Rattle.book.specs.declared.calls.Answer.TheVariants.{Finished}
use Rattle.book.specs.Standings.{is_out, is_graded, is_torn, stops, unready}
use Rattle.book.specs.Faults.{slip_of}
use Rattle.book.specs.Search.{some, each, stop}
use Rattle.book.specs.Plain.{Label, waiting, out, graded, Plain, stand, conditions, Step}
use Rattle.book.specs.Laws.{Sized}
use Rattle.book.proofs.Upward.{none_at, none_from}
use Rattle.book.proofs.Lines.{same_slip, at_take}
use Rattle.book.proofs.Steps.{stands_label, step_only}

-- every label of the book is graded
abbrev pub AllGraded : ℕ → Plain → Type 0
AllGraded n p = (i : ℕ) → i < n → (g : ℕ) × (get_or p.labels i waiting ≡ graded g)

is_graded_lem : (l : Label) → is_graded (stand l) ≡ true → (g : ℕ) × (l ≡ graded g)
is_graded_lem waiting e = cc
is_graded_lem out e = cc
is_graded_lem (graded g) e = (g, refl)

is_ready : (l : Label) → unready (stand l) ≡ false → is_graded (stand l) ≡ true
is_ready waiting e = sym e
is_ready out e = sym e
is_ready (graded g) e = refl

-- another row than the one of strip done
other_row : (a t : Bool) (k : ℕ) → cond a (Some (slip_of 14 0)) (cond t (Some (slip_of 17 k)) None) ≡ Some (slip_of 15 0) → ⊥
other_row true t k e = let z = ap (λ (s : Slip). s.number) (same_slip e) in omega (arith, z)
other_row false true k e = let z = ap (λ (s : Slip). s.number) (same_slip e) in omega (arith, z)
other_row false false k e = cc

module _ (n : ℕ) (p : Plain) (sized : Sized n p) where
  long : length (map stand p.labels) ≡ n
  long = length-map p.labels stand ∙ sized.labels

  each_all : each is_graded (map stand p.labels) ≡ true → AllGraded n p
  each_all e i h =
      let here = none_at (λ s. not (is_graded s)) (map stand p.labels) (not-true _ e) i (omega (arith, long)) in
      is_graded_lem (get_or p.labels i waiting) (sym (ap is_graded (stands_label p.labels i)) ∙ not-false _ here)

  -- what holds of each graded label holds of each label
  all_none : (so : Label → Bool) → ((g : ℕ) → so (graded g) ≡ false) → AllGraded n p → (i : ℕ) → i < length (map stand p.labels) → so (get_or p.labels i waiting) ≡ false
  all_none so h all i l = let g = all i (omega (arith, long)) in ap so g.1 ∙ h g.0

  all_each : AllGraded n p → each is_graded (map stand p.labels) ≡ true
  all_each all = ap not (none_from (λ s. not (is_graded s)) (map stand p.labels) (λ i h. ap (λ s. not (is_graded s)) (stands_label p.labels i) ∙ all_none (λ l. not (is_graded (stand l))) (λ g. refl) all i h))

  all_in : AllGraded n p → some is_out (map stand p.labels) ≡ false
  all_in all = none_from is_out (map stand p.labels) (λ i h. ap is_out (stands_label p.labels i) ∙ all_none (λ l. is_out (stand l)) (λ g. refl) all i h)

  given_fifteen : refusal (conditions n p (Take n)) ≡ Some (slip_of 15 0) → AllGraded n p
  given_fifteen e =
      let ss = map stand p.labels in
      let found = unwrap_or (stop p.cursor ss) 0 in
      let blocked = not (some stops ss) && some is_out ss in
      ⊎_elim each_all
      (λ f. absurd (other_row blocked (is_torn (get_or ss found Waiting)) found (sym (at_take n p.cursor ss n (eq-eqb n n refl) blocked false refl f) ∙ e)))
      (cases_Bool (each is_graded ss))

  -- a take that is handed the N words answers strip done exactly where every label is graded
  pub done_only : (a : Result Answer Slip) (q : Plain) → Step n p (Take n) a q → a ≡ Err (slip_of 15 0) → AllGraded n p
  done_only a q (inl s) e = given_fifteen (s.given ∙ ap Some (cc (s.answer, e)))
  done_only a q (inr s) e = cc s.does.2

  pub done_always : (a : Result Answer Slip) (q : Plain) → Step n p (Take n) a q → AllGraded n p → a ≡ Err (slip_of 15 0)
  done_always a q s all =
      let given = at_take n p.cursor (map stand p.labels) n (eq-eqb n n refl) false true (and_right _ _ (all_in all)) (all_each all) in
      (step_only n p (Take n) a (Err (slip_of 15 0)) q p s (inl (record { slip = slip_of 15 0; given = given; answer = refl; same = refl }))).0

  -- a finish is accepted only where every label is graded, and leaves the book as it was
  pub finish_only : (len : ℕ) (q : Plain) → Step n p (Finish len) (Ok Finished) q → AllGraded n p × (q ≡ p)
  finish_only len q (inl s) = cc s.answer
  finish_only len q (inr s) = (
    (λ i h.
        let here = none_at unready (map stand p.labels) (none_only (conditions n p (Finish len)) s.clear).1.0 i (omega (arith, long)) in
        is_graded_lem (get_or p.labels i waiting) (is_ready (get_or p.labels i waiting) (sym (ap unready (stands_label p.labels i)) ∙ here))),
    s.does.1,
  )
