-- The whole promise of a trial: what a row of calls and the questions after it come to.
--   Finds       a question seeks the label that has these wishes
--   Graded      a label has a grade in the plain book
--   Covered     each combination of levels of the factors F is on a graded label
--   DoneAt      the k-th call, a take that is handed all N words, says strip done exactly where the factors F are covered
--   Trial       everything that is promised of a trial
--   Conducted   that of a trial's outcome, whose words and book show the plain book that the row left
--   trial_rows  the refusal table's rows when a trial is begun
--   TrialEnds   how the call ends: conducted, or refused with the words as they were
-- Assumes nothing.
use Rattle.std.specs.Prelude.{◌≡◌, ℕ, ◌/◌, ◌<◌, ◌≤◌, true, ◌↔◌, List, ◌∷◌, length, take, ℤ, pos, ◌-ℤ◌, ◌*ℤ◌, Some, None, Ok, Err, vec_items, Result, slice_index_or}
use Rattle.refusal.specs.declared.Slip.{Slip}
use Rattle.refusal.specs.Table.{Row as TableRow, refusal}
use Rattle.levels.specs.Rings.{Arithmetic}
use Rattle.shuffle.specs.Ways.{Ways}
use Rattle.plan.specs.declared.shape.Plan.{Plan}
use Rattle.strip.specs.declared.wish.Wish.{Wish}
use Rattle.strip.specs.Faults.{strip_slip}
use Rattle.strip.specs.Labels.{level}
use Rattle.strip.specs.Names.{Chosen, Named, Located, Exact}
use Rattle.strip.specs.Rows.{count_row}
use Rattle.book.specs.declared.calls.Call.{Call}
use Rattle.book.specs.declared.calls.Call.TheVariants.{Take}
use Rattle.book.specs.declared.calls.Answer.{Answer}
use Rattle.book.specs.Faults.{slip_of, book_slip}
use Rattle.book.specs.Conditions.{opening}
use Rattle.book.specs.Plain.{Plain, waiting, graded, opened}
use Rattle.book.specs.Rows.{Row, finishes}
use Rattle.book.specs.Shown.{Shows, Leaves}
use Rattle.design.specs.Designs.{In, Factors, Meets}
use Rattle.trial.specs.declared.question.Question.{Question}
use Rattle.trial.specs.declared.question.Question.TheVariants as ask
use Rattle.trial.specs.declared.question.Reply.{Reply}
use Rattle.trial.specs.declared.question.Reply.TheVariants as told
use Rattle.trial.specs.declared.conduct.Outcome.{Outcome}
use Rattle.trial.specs.declared.conduct.TrialFault.{TrialFault}
use Rattle.trial.specs.declared.conduct.TrialFault.TheVariants.{Memory, Strip, Book}
use Rattle.trial.specs.Finished.{AdditiveOver}
use Rattle.trial.specs.Replies.{grade_in, Replied}

-- a question that seeks the label with these wishes
abbrev pub Finds : Question → List Wish → Type 0
Finds (ask.Find held) ws = vec_items held ≡ ws
Finds (ask.Locate j f) ws = ⊥
Finds (ask.Effect len f a b) ws = ⊥

abbrev pub Graded : Plain → ℕ → Type 0
Graded p i = (g : ℕ) × (slice_index_or p.labels i waiting ≡ graded g)

-- whatever level w j is chosen for each factor j of F, some graded label has them all
abbrev pub Covered : Plan → Arithmetic → Ways → List ℕ → Plain → Type 0
Covered P R W F p =
    (w : ℕ → ℕ) → ((j : ℕ) → In j F → w j < P.levels) → (i : ℕ) × (i < P.labels) × Graded p i × Meets (level P R W) w F i

-- before is the plain book that the first k calls left
pub record DoneAt (P : Plan) (R : Arithmetic) (W : Ways) (calls : List Call) (answers : List (Result Answer Slip)) (k : ℕ) (F : List ℕ) (answer : Result Answer Slip) : Type 0 where
  pub before : Plain
  pub row : Row P.labels (opened P.labels) (take k calls) (take k answers) before
  pub exactly : (slice_index_or answers k answer ≡ Err (slip_of 15 0)) ↔ Covered P R W F before

-- calls and answers, questions and replies go in pairs, by their places; x and y name what stands past the end of a list
pub record Trial (P : Plan) (R : Arithmetic) (W : Ways) (calls : List Call) (answers : List (Result Answer Slip)) (after : Plain) (questions : List Question) (replies : List Reply) : Type 0 where
  -- each call answers as the plain book does, from its opening on, and the row leaves the plain book after
  pub plain : Row P.labels (opened P.labels) calls answers after
  -- any t different factors with a level each name exactly one label, and so does a factor with a fine setting
  pub names : Exact P R W
  -- find answers that label
  pub find : (k : ℕ) (ws : List Wish) (x : Question) (y : Reply) → k < length questions → Finds (slice_index_or questions k x) ws → Chosen P ws
      → (i : ℕ) × (slice_index_or replies k y ≡ told.Label (Ok i)) × Named P R W ws i
  -- and locate the other
  pub locate : (k j f : ℕ) (x : Question) (y : Reply) → k < length questions → slice_index_or questions k x ≡ ask.Locate j f → j < P.factors → f < P.labels
      → (i : ℕ) × (slice_index_or replies k y ≡ told.Label (Ok i)) × Located P R W j f i
  -- for any t different factors, a take that is handed all N words says strip done exactly where they are covered
  pub done : (F : List ℕ) → Factors P.factors F → length F ≡ P.strength → (k : ℕ) (x : Call) (y : Result Answer Slip) → k < length answers → slice_index_or calls k x ≡ Take P.labels
      → DoneAt P R W calls answers k F y
  -- at strength 2 or more and after an accepted finish, where the grades are a base plus a share per factor's level,
  -- an effect that is handed all N words is exactly N/s times a's share less b's
  pub effect : 2 ≤ P.strength → finishes answers ≡ true → (base : ℤ) (share : ℕ → ℕ → ℤ) → AdditiveOver P R W (grade_in after) base share
      → (k f a b : ℕ) (x : Question) (y : Reply) → k < length questions → slice_index_or questions k x ≡ ask.Effect P.labels f a b → f < P.factors → a < P.levels → b < P.levels
      → slice_index_or replies k y ≡ told.Effect (Ok (pos (P.labels / P.levels) *ℤ (share f a -ℤ share f b)))
  -- and every question has the reply that it is owed, refusals among them
  pub replied : (k : ℕ) (x : Question) (y : Reply) → k < length questions → Replied P R W (finishes answers) after (slice_index_or questions k x) (slice_index_or replies k y)
  pub sized : length replies ≡ length questions

-- vs are the words at the end
pub record Conducted (P : Plan) (R : Arithmetic) (W : Ways) (calls : List Call) (questions : List Question) (o : Outcome) (vs : List ℕ) : Type 0 where
  pub after : Plain
  pub trial : Trial P R W calls (vec_items o.ran.answers) after questions (vec_items o.replies)
  pub words : Shows vs after
  pub next : Leaves P (finishes (vec_items o.ran.answers)) o.ran.next after

-- the arithmetic's count is not the plan's; the memory is not N words
abbrev pub trial_rows : Plan → Arithmetic → (len : ℕ) → List TableRow
trial_rows P R len = count_row P R ∷ opening P.labels len

-- ws are the words before the call, and vs those after it
abbrev pub TrialEnds : Plan → Arithmetic → Ways → List Call → List Question → (ws vs : List ℕ) → Result Outcome TrialFault → Type 0
TrialEnds P R W calls questions ws vs (Ok o) = (refusal (trial_rows P R (length ws)) ≡ None) × Conducted P R W calls questions o vs
TrialEnds P R W calls questions ws vs (Err (Strip fault)) = (refusal (trial_rows P R (length ws)) ≡ Some (strip_slip fault)) × (vs ≡ ws)
TrialEnds P R W calls questions ws vs (Err (Book fault)) = (refusal (trial_rows P R (length ws)) ≡ Some (book_slip fault)) × (vs ≡ ws)
TrialEnds P R W calls questions ws vs (Err Memory) = (refusal (trial_rows P R (length ws)) ≡ None) × (vs ≡ ws)
