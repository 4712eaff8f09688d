-- The plain book has exactly one answer to a call, and one book after it. Assumes nothing.
use Rattle.std.proofs.Common.{◌≡◌, ℕ, ◌+◌, ◌<◌, ◌≤◌, true, ltb, List, map, length, get_or, set, Some, None, Option, sym, refl, ap, ◌∙◌, subst, inl, inr, ⊎_elim, arith, length-set, Ok, Err, Result}
use lib.ListN.{length-map, length-replicate, get_or-map}
use Rattle.std.proofs.lemmas.Bool.{cases_Bool, cases_eq, both_ways, cond_both, ltb-true}
use Rattle.refusal.specs.declared.Slip.{Slip}
use Rattle.refusal.specs.Table.{refusal}
use Rattle.book.specs.declared.standing.Standing.TheVariants.{Waiting}
use Rattle.book.specs.declared.calls.Call.{Call}
use Rattle.book.specs.declared.calls.Call.TheVariants.{Take, Mark, Spoil, Strike, Finish}
use Rattle.book.specs.declared.calls.Answer.{Answer}
use Rattle.book.specs.declared.calls.Answer.TheVariants.{Took, Done, Finished}
use Rattle.book.specs.Standings.{is_out, stops}
use Rattle.book.specs.Search.{some, stop, FirstStop}
use Rattle.book.specs.Books.{next}
use Rattle.book.specs.Plain.{Label, waiting, out, graded, Plain, opened, stand, conditions, Takes, put, Does, Step}
use Rattle.book.specs.Laws.{Sized, OneStep}
use Rattle.book.proofs.Upward.{one_sooner, stop_some}
use Rattle.book.proofs.Lines.{given_none, same_slip, fits_call, take_out, take_done}

pub sized_opened : (n : ℕ) → 0 < n → Sized n (opened n)
sized_opened n h = record { labels = length-replicate n waiting; cursor = h }

pub next_below : (n k : ℕ) → 0 < n → next n k < n
next_below n k h = cond_both (ltb (k + 1) n) (k + 1) 0 (λ x. x < n) (λ e. omega (arith, ltb-true (k + 1) n e)) (λ e. h)

-- a book of n labels stays one
pub put_kept : (n : ℕ) (p : Plain) (c k : ℕ) (l : Label) → Sized n p → c < n → Sized n (record { cursor = c; labels = set p.labels k l })
put_kept n p c k l s h = record { labels = length-set p.labels k l ∙ s.labels; cursor = h }

module _ (n : ℕ) (p : Plain) (sized : Sized n p) where
  at_same : (q r : Plain) → q ≡ r → Sized n r → Sized n q
  at_same q r e s = subst (Sized n) (sym e) s

  does_kept : (call : Call) (a : Result Answer Slip) (q : Plain) → Does n p call a q → Sized n q
  does_kept (Take len) a q d = at_same q _ d.3 (put_kept n p (next n d.0) d.0 out sized (next_below n d.0 (omega (arith, sized.cursor))))
  does_kept (Mark len k g) a q d = at_same q _ d.1 (put_kept n p p.cursor k (graded g) sized sized.cursor)
  does_kept (Spoil len k) a q d = at_same q _ d.1 (put_kept n p p.cursor k waiting sized sized.cursor)
  does_kept (Strike len k) a q d = at_same q _ d.1 (put_kept n p p.cursor k waiting sized sized.cursor)
  does_kept (Finish len) a q d = at_same q p d.1 sized

  pub step_kept : (call : Call) (a : Result Answer Slip) (q : Plain) → Step n p call a q → Sized n q
  step_kept call a q (inl s) = at_same q p s.same sized
  step_kept call a q (inr s) = does_kept call a q s.does

-- how a label of the plain book stands
pub stands_label : (ls : List Label) (k : ℕ) → get_or (map stand ls) k Waiting ≡ stand (get_or ls k waiting)
stands_label ls k = get_or-map stand ls k waiting

stops_waiting : (l : Label) → stops (stand l) ≡ true → l ≡ waiting
stops_waiting waiting e = refl
stops_waiting out e = cc
stops_waiting (graded g) e = cc

-- where the search stops is the label that a take comes to
pub comes : (p : Plain) (k : ℕ) → FirstStop p.cursor (map stand p.labels) k → Takes p k
comes p k s =
    let long = length-map p.labels stand in
    record {
      within = omega (arith, s.within);
      waits = stops_waiting (get_or p.labels k waiting) (sym (ap stops (stands_label p.labels k)) ∙ s.here);
      sooner = λ j l m w. both_ways true (sym (ap (λ x. stops (stand x)) w) ∙ sym (ap stops (stands_label p.labels j)) ∙ s.sooner j (omega arith) m) refl;
    }

module _ (n : ℕ) (p : Plain) (sized : Sized n p) where
  inside_labels : p.cursor ≤ length (map stand p.labels)
  inside_labels = omega (arith, length-map p.labels stand, sized.labels, sized.cursor)

  -- a take that no condition stands against comes to a label
  found : (len : ℕ) → refusal (conditions n p (Take len)) ≡ None → (o : Option ℕ) → stop p.cursor (map stand p.labels) ≡ o → (k : ℕ) × Takes p k
  found len clear (Some k) e = (k, comes p k (stop_some (map stand p.labels) p.cursor inside_labels k e))
  found len clear None e =
      let fit = fits_call n p.cursor (map stand p.labels) (Take len) clear in
      ⊎_elim
      (λ t. given_none (sym (take_out n p.cursor (map stand p.labels) len fit inside_labels e t) ∙ clear))
      (λ f. given_none (sym (take_done n p.cursor (map stand p.labels) len fit inside_labels e f) ∙ clear))
      (cases_Bool (some is_out (map stand p.labels)))

  does_some : (call : Call) → refusal (conditions n p call) ≡ None → (a : Result Answer Slip) × (q : Plain) × Does n p call a q
  does_some (Take len) clear = let f = found len clear _ refl in (Ok (Took f.0), record { cursor = next n f.0; labels = set p.labels f.0 out }, (f.0, f.1, refl, refl))
  does_some (Mark len k g) clear = (Ok Done, put p k (graded g), (refl, refl))
  does_some (Spoil len k) clear = (Ok Done, put p k waiting, (refl, refl))
  does_some (Strike len k) clear = (Ok Done, put p k waiting, (refl, refl))
  does_some (Finish len) clear = (Ok Finished, p, (refl, refl))

  some_by : (call : Call) (o : Option Slip) → refusal (conditions n p call) ≡ o → (a : Result Answer Slip) × (q : Plain) × Step n p call a q
  some_by call (Some s) e = (Err s, p, inl (record { slip = s; given = e; answer = refl; same = refl }))
  some_by call None e = let d = does_some call e in (d.0, d.1, inr (record { clear = e; does = d.2 }))

  pub step_some : (call : Call) → (a : Result Answer Slip) × (q : Plain) × Step n p call a q
  step_some call = some_by call (refusal (conditions n p call)) refl

takes_only : (p : Plain) (i k : ℕ) → Takes p i → Takes p k → i ≡ k
takes_only p i k s t =
    ⊎_elim (λ e. e)
    (λ ne. absurd (⊎_elim (λ h. t.sooner i s.within h s.waits) (λ h. s.sooner k t.within h t.waits) (one_sooner p.cursor i k ne)))
    (cases_eq i k)

module _ (n : ℕ) (p : Plain) where
  does_only : (call : Call) (a b : Result Answer Slip) (q r : Plain) → Does n p call a q → Does n p call b r → (a ≡ b) × (q ≡ r)
  does_only (Take len) a b q r d e =
      let same = takes_only p d.0 e.0 d.1 e.1 in
      (d.2 ∙ ap (λ k. Ok (Took k)) same ∙ sym e.2, d.3 ∙ ap (λ k. record { cursor = next n k; labels = set p.labels k out }) same ∙ sym e.3)
  does_only (Mark len k g) a b q r d e = (d.0 ∙ sym e.0, d.1 ∙ sym e.1)
  does_only (Spoil len k) a b q r d e = (d.0 ∙ sym e.0, d.1 ∙ sym e.1)
  does_only (Strike len k) a b q r d e = (d.0 ∙ sym e.0, d.1 ∙ sym e.1)
  does_only (Finish len) a b q r d e = (d.0 ∙ sym e.0, d.1 ∙ sym e.1)

  pub step_only : (call : Call) (a b : Result Answer Slip) (q r : Plain) → Step n p call a q → Step n p call b r → (a ≡ b) × (q ≡ r)
  step_only call a b q r (inl s) (inl t) = (s.answer ∙ ap Err (same_slip (sym s.given ∙ t.given)) ∙ sym t.answer, s.same ∙ sym t.same)
  step_only call a b q r (inl s) (inr t) = given_none (sym s.given ∙ t.clear)
  step_only call a b q r (inr s) (inl t) = given_none (sym t.given ∙ s.clear)
  step_only call a b q r (inr s) (inr t) = does_only call a b q r s.does t.does

pub one_step : OneStep
one_step = record { first = sized_opened; kept = step_kept; some = step_some; only = step_only }
