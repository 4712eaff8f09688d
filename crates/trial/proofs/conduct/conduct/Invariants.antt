use Rattle.std.proofs.Common.{◌≡◌, ℕ, ◌<◌, ◌≤◌, Bool, length, get_or, vec_items, vec_len, vec_capacity}
use Rattle.book.specs.Plain.{Plain}
use Rattle.book.specs.Laws.{Sized}
use Rattle.book.specs.Shown.{Shows, Leaves}
use Rattle.trial.specs.declared.question.Question.{Question}
use Rattle.trial.specs.declared.question.Reply.{Reply}
use Rattle.trial.specs.Replies.{Replied}
use Rattle.trial.proofs.conduct.conduct.Given as goal

-- the questions so far have their replies, whatever plain book the words and the book stand for
abbrev pub invariant-loop-question : goal.invariant-loop-question
invariant-loop-question g l =
    (vec_len l.replies ≡ l.question-index)
    × (length l.questions ≤ vec_capacity l.replies)
    × ((finished : Bool) (p : Plain) → Sized l.strip.plan.labels p → Shows l.words p → Leaves l.strip.plan finished l.ran.next p
    → (k : ℕ) (x : Question) (y : Reply) → k < l.question-index
    → Replied l.strip.plan (g.R.Ring.ring l.strip.ring) (g.S.Shuffler.ways l.strip.shuffler) finished p (get_or l.questions k x) (get_or (vec_items l.replies) k y))
