-- What is replied to a question once a row of calls has left the plain book p.
--   grade_in  the grade that a label has in the plain book
--   Replied   the reply to a question: find and locate know the strip alone, and an effect wants an accepted finish
-- Assumes nothing.
use Rattle.std.specs.Prelude.{◌≡◌, ℕ, Bool, true, false, map, ℤ, pos, vec_items, slice_index_or}
use Rattle.refusal.specs.Table.{Answers}
use Rattle.levels.specs.Rings.{Arithmetic}
use Rattle.shuffle.specs.Ways.{Ways}
use Rattle.plan.specs.declared.shape.Plan.{Plan}
use Rattle.strip.specs.Faults.{strip_slip}
use Rattle.strip.specs.Names.{Named, Located}
use Rattle.strip.specs.Wishes.{find_rows, locate_rows}
use Rattle.book.specs.Plain.{Label, waiting, out, graded, Plain, stand}
use Rattle.trial.specs.declared.question.Question.{Question}
use Rattle.trial.specs.declared.question.Question.TheVariants as ask
use Rattle.trial.specs.declared.question.Reply.{Reply}
use Rattle.trial.specs.declared.question.Reply.TheVariants as told
use Rattle.trial.specs.Faults.{effect_slip}
use Rattle.trial.specs.Finished.{finished_rows, EffectOver}

-- 0 where it has none
abbrev pub grade_as : Label → ℤ
grade_as waiting = pos 0
grade_as out = pos 0
grade_as (graded g) = pos g

abbrev pub grade_in : Plain → ℕ → ℤ
grade_in p i = grade_as (slice_index_or p.labels i waiting)

abbrev pub Replied : Plan → Arithmetic → Ways → (finished : Bool) → Plain → Question → Reply → Type 0
Replied P R W finished p (ask.Find ws) (told.Label a) = Answers strip_slip (find_rows P R (vec_items ws)) (Named P R W (vec_items ws)) a
Replied P R W finished p (ask.Find ws) (told.Effect v) = ⊥
Replied P R W finished p (ask.Find ws) told.Unfinished = ⊥
Replied P R W finished p (ask.Locate j f) (told.Label a) = Answers strip_slip (locate_rows P R j f) (Located P R W j f) a
Replied P R W finished p (ask.Locate j f) (told.Effect v) = ⊥
Replied P R W finished p (ask.Locate j f) told.Unfinished = ⊥
Replied P R W finished p (ask.Effect len f a b) (told.Label x) = ⊥
Replied P R W finished p (ask.Effect len f a b) (told.Effect v) =
    (finished ≡ true) × Answers effect_slip (finished_rows P R len (map stand p.labels) f a b) (EffectOver P R W (grade_in p) f a b) v
Replied P R W finished p (ask.Effect len f a b) told.Unfinished = finished ≡ false
