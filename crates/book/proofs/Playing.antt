-- What a row of calls on a book keeps from turn to turn. Assumes nothing.
use Rattle.std.proofs.Common.{◌≡◌, ℕ, zero, suc, ◌+◌, ◌<◌, ◌≤◌, false, List, [], ◌∷◌, ◌++◌, map, length, get_or, take, drop, replicate, sym, refl, ap, ◌∙◌, subst, arith, take-append-drop, Result}
use Rattle.std.proofs.lemmas.List.{take_more, drop_more, take_all}
use Rattle.plan.specs.declared.shape.Plan.{Plan}
use Rattle.book.specs.declared.shape.Book.{Book}
use Rattle.book.specs.declared.shape.Finished.{Finished}
use Rattle.refusal.specs.declared.Slip.{Slip}
use Rattle.book.specs.declared.calls.Call.{Call}
use Rattle.book.specs.declared.calls.Answer.{Answer}
use Rattle.book.specs.declared.row.Next.{Next}
use Rattle.book.specs.declared.row.Next.TheVariants.{Going, Over}
use Rattle.book.specs.Standings.{standing, standings}
use Rattle.book.specs.Calls.{is_finished}
use Rattle.book.specs.Plain.{Plain, opened, waiting, stand, Step}
use Rattle.book.specs.Rows.{Row, finishes}
use Rattle.book.specs.Laws.{Sized}
use Rattle.book.specs.Shown.{Shows, Leaves}
use Rattle.book.specs.Turns.{Holds, Turned}
use Rattle.book.proofs.Steps.{sized_opened, step_kept}
use Rattle.book.proofs.Chains.{row_append, row_one, row_last, finishes_push}

-- the book stands for the plain book that the first i calls leave, none of which ended the row
pub record Playing (plan : Plan) (calls : List Call) (i : ℕ) (b : Book) (ws : List ℕ) (told : List (Result Answer Slip)) : Type 0 where
  pub same : b.plan ≡ plan
  pub plain : Plain
  pub holds : Holds b ws plain
  pub row : Row plan.labels (opened plan.labels) (take i calls) told plain
  pub open_yet : finishes told ≡ false

all_wait : (n : ℕ) → standings (replicate n 0) ≡ map stand (replicate n waiting)
all_wait zero = refl
all_wait (suc n) = ap (λ l. standing 0 ∷ l) (all_wait n)

-- a newly opened book
pub begins : (plan : Plan) (b : Book) (calls : List Call) (m : ℕ) (ws : List ℕ) (told : List (Result Answer Slip)) → b.plan ≡ plan → m ≡ plan.labels → b.cursor ≡ 0 → ws ≡ replicate m 0 → told ≡ [] → Playing plan calls 0 b ws told
begins plan b calls m ws told same em ec ew et =
    record {
      same = same;
      plain = opened plan.labels;
      holds = record {
        sized = rw same (sized_opened plan.labels (rw (← same) (omega arith)));
        cursor = ec;
        words = ap standings (ew ∙ ap (λ n. replicate n 0) em) ∙ all_wait plan.labels;
      };
      row = rw et refl;
      open_yet = rw et refl;
    }

module _ {plan : Plan} {calls : List Call} {i : ℕ} {b : Book} {ws : List ℕ} {told : List (Result Answer Slip)} (now : Playing plan calls i b ws told) where
  -- all calls are performed
  pub played : length calls ≤ i → Row plan.labels (opened plan.labels) calls told now.plain
  played h = subst (λ x. Row plan.labels (opened plan.labels) x told now.plain) (take_all i calls h) now.row

  pub left : Leaves plan (finishes told) (Going b) now.plain
  left = (now.open_yet, now.same, now.holds.cursor)

  -- d is any default: i is within the calls
  module _ {a : Result Answer Slip} {next : Next} {vs : List ℕ} {told' : List (Result Answer Slip)} (d : Call) (within : i < length calls) (turn : (p : Plain) → Holds b ws p → Turned b.plan p (get_or calls i d) a next vs) (et : told' ≡ told ++ a ∷ []) where
    t : Turned b.plan now.plain (get_or calls i d) a next vs
    t = turn now.plain now.holds

    step : Step plan.labels now.plain (get_or calls i d) a t.after
    step = subst (λ x. Step x.labels now.plain (get_or calls i d) a t.after) now.same t.step

    pushed : finishes told' ≡ is_finished a
    pushed = ap finishes et ∙ finishes_push told a now.open_yet

    pub goes_on : {b' : Book} → next ≡ Going b' → Playing plan calls (i + 1) b' vs told'
    goes_on {b'} is =
        let on = subst (λ x. Leaves b.plan (is_finished a) x t.after) is t.next in
        let row = row_append plan.labels (opened plan.labels) now.plain t.after (take i calls) (get_or calls i d ∷ []) told (a ∷ []) now.row now.open_yet (row_one plan.labels now.plain t.after (get_or calls i d) a on.0 step) in
        record {
          same = on.1 ∙ now.same;
          plain = t.after;
          holds = record {
            sized = subst (λ x. Sized x.labels t.after) (sym on.1) (step_kept b.plan.labels now.plain now.holds.sized (get_or calls i d) a t.after t.step);
            cursor = on.2;
            words = t.words;
          };
          row = subst (λ x. Row plan.labels (opened plan.labels) x told' t.after) (sym (take_more calls i d within)) (subst (λ x. Row plan.labels (opened plan.labels) (take i calls ++ get_or calls i d ∷ []) x t.after) (sym et) row);
          open_yet = pushed ∙ on.0;
        }

    split : calls ≡ take i calls ++ get_or calls i d ∷ drop (i + 1) calls
    split = sym (take-append-drop i calls) ∙ ap (λ r. take i calls ++ r) (drop_more calls i d within)

    pub ends : {f : Finished} → next ≡ Over f → (q : Plain) × Row plan.labels (opened plan.labels) calls told' q × Shows vs q × Leaves plan (finishes told') (Over f) q
    ends {f} is =
        let over = subst (λ x. Leaves b.plan (is_finished a) x t.after) is t.next in
        let row = row_append plan.labels (opened plan.labels) now.plain t.after (take i calls) (get_or calls i d ∷ drop (i + 1) calls) told (a ∷ []) now.row now.open_yet (row_last plan.labels now.plain t.after (get_or calls i d) (drop (i + 1) calls) a over.0 step) in (
          t.after,
          subst (λ x. Row plan.labels (opened plan.labels) x told' t.after) (sym split) (subst (λ x. Row plan.labels (opened plan.labels) (take i calls ++ get_or calls i d ∷ drop (i + 1) calls) x t.after) (sym et) row),
          t.words,
          (pushed ∙ over.0, over.1 ∙ now.same),
        )
