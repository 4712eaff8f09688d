use Rattle.std.proofs.Common.{◌≡◌, ℕ, ◌+◌, ◌<◌, List, [], ◌∷◌, ◌++◌, length, get_or, vec_items, sym, ◌∙◌, subst, arith, below_more}
use Rattle.std.proofs.lemmas.List.{get_or_append_left, get_or_push, get_or_read}
use Rattle.refusal.proofs.Firsts.{none_only, none_always}
use Rattle.strip.specs.Rows.{count_row}
use Rattle.strip.proofs.Bounds.{some_labels}
use Rattle.book.specs.Conditions.{opening}
use Rattle.book.specs.Plain.{opened}
use Rattle.book.specs.Rows.{finishes}
use Rattle.book.specs.Laws.{Sized}
use Rattle.book.proofs.Steps.{sized_opened}
use Rattle.book.proofs.Chains.{row_kept}
use Rattle.trial.specs.declared.question.Question.{Question}
use Rattle.trial.specs.declared.question.Reply.{Reply}
use Rattle.trial.specs.Trials.{trial_rows}
use Rattle.trial.proofs.Promising.{promised}
use Rattle.trial.proofs.conduct.conduct.Goals as goal

-- what holds of each question and its reply so far, and of one more
one_more : (Q : Question → Reply → Type 0) (qs : List Question) (rs ts : List Reply) (i : ℕ) (q : Question) (r : Reply) → length rs ≡ i → i < length qs → q ≡ get_or qs i q → ts ≡ rs ++ r ∷ []
    → ((k : ℕ) (x : Question) (y : Reply) → k < i → Q (get_or qs k x) (get_or rs k y)) → Q q r
    → (k : ℕ) (x : Question) (y : Reply) → k < i + 1 → Q (get_or qs k x) (get_or ts k y)
one_more Q qs rs ts i q r len within item pushed before here k x y h =
    subst (λ t. Q (get_or qs k x) (get_or t k y)) (sym pushed)
    (below_more (λ m. Q (get_or qs m x) (get_or (rs ++ r ∷ []) m y)) i
    (λ m l. subst (Q (get_or qs m x)) (sym (get_or_append_left rs (r ∷ []) y m (omega arith))) (before m x y l))
    (subst (Q (get_or qs i x)) (sym (get_or_push rs r y i len)) (subst (λ z. Q z r) (get_or_read qs i q within item x) here)) k h)

pub returns : goal.returns
returns g c =
    let S = c.args.strip.now in
    let P = S.plan in
    let R = g.R.Ring.ring S.ring in
    let W = g.S.Shuffler.ways S.shuffler in
    let calls = c.args.calls.now in
    let questions = c.args.questions.now in
    let answers = vec_items c.in_ok-ran.ran.answers in
    let replies = vec_items c.loop-question.replies in
    let exact = c.in_ok-orthogonal.ensures in
    let ran = c.in_ok-ran.ensures.row in
    let after = ran.1.after in
    let sized : Sized P.labels after = row_kept P.labels (opened P.labels) after calls answers (sized_opened P.labels (some_labels P)) ran.1.answers in
    let all : c.loop-question.question-index ≡ length questions = omega arith in
    let replied = c.loop-question.invariant.2 (finishes answers) after sized ran.1.words ran.1.next in (
      none_always (trial_rows P R (length c.args.words.now)) ((none_only (count_row P R ∷ []) exact.0).0, none_only (opening P.labels (length c.args.words.now)) ran.0),
      record {
        after = after;
        trial = promised P R W (g.met.R.Ring.laws S.ring) (g.met.S.Shuffler.shuffles S.shuffler) calls answers after questions replies exact.0 exact.1 ran.1.answers
            (λ k x y h. replied k x y (omega arith))
            (sym c.loop-question.replies.ok.0 ∙ c.loop-question.invariant.0 ∙ all);
        words = ran.1.words;
        next = ran.1.next;
      },
    )
