-- The parts of the whole promise, out of the replies and the row. Assumes nothing.
use Rattle.std.proofs.Common.{◌≡◌, ℕ, ◌/◌, ◌<◌, ◌≤◌, Bool, true, List, [], ◌∷◌, map, length, get_or, ℤ, pos, ◌-ℤ◌, ◌*ℤ◌, None, Ok, Err, Result, sym, refl, ap, ◌∙◌, subst}
use Rattle.std.proofs.lemmas.Bool.{both_ways}
use Rattle.refusal.specs.declared.Slip.{Slip}
use Rattle.refusal.specs.Table.{Row as TableRow, refusal, Answers}
use Rattle.levels.specs.Rings.{Arithmetic, RingLaws}
use Rattle.shuffle.specs.Ways.{Ways, ShuffleLaws}
use Rattle.plan.specs.declared.shape.Plan.{Plan}
use Rattle.strip.specs.declared.wish.Wish.{Wish}
use Rattle.strip.specs.Faults.{strip_slip}
use Rattle.strip.specs.Names.{Chosen, Named, Located, Exact}
use Rattle.strip.specs.Rows.{count_row}
use Rattle.strip.specs.Wishes.{find_rows, locate_rows}
use Rattle.strip.proofs.Choosing.{chosen_clear, located_clear}
use Rattle.book.specs.declared.calls.Call.{Call}
use Rattle.book.specs.declared.calls.Answer.{Answer}
use Rattle.book.specs.Plain.{Plain, opened, stand}
use Rattle.book.specs.Rows.{Row, finishes}
use Rattle.book.proofs.Lines.{given_none}
use Rattle.book.proofs.Chains.{row_finished}
use Rattle.strip_design.proofs.Runs.{count_same, strip_design}
use Rattle.trial.specs.declared.question.Question.{Question}
use Rattle.trial.specs.declared.question.Question.TheVariants as ask
use Rattle.trial.specs.declared.question.Reply.{Reply}
use Rattle.trial.specs.declared.question.Reply.TheVariants as told
use Rattle.trial.specs.Faults.{effect_slip}
use Rattle.trial.specs.Finished.{AdditiveOver, finished_rows, EffectOver}
use Rattle.trial.specs.Replies.{grade_in, Replied}
use Rattle.trial.specs.Trials.{Finds, Trial}
use Rattle.trial.proofs.Shares.{clear_over}
use Rattle.trial.proofs.Covering.{done_at}

-- where no row holds, an answer is a value, and the right one
valued : {V E : Type 0} (tells : E → Slip) (rows : List TableRow) (right : V → Type 0) (r : Result V E) → refusal rows ≡ None → Answers tells rows right r → (v : V) × (r ≡ Ok v) × right v
valued tells rows right (Ok v) e h = (v, refl, h.1)
valued tells rows right (Err f) e h = absurd (given_none (sym h ∙ e))

module _ (P : Plan) (R : Arithmetic) (W : Ways) (counts : R.count ≡ P.levels) (finished : Bool) (p : Plain) where
  find_told : (q : Question) (r : Reply) (ws : List Wish) → Replied P R W finished p q r → Finds q ws → Chosen P ws → (i : ℕ) × (r ≡ told.Label (Ok i)) × Named P R W ws i
  find_told (ask.Find held) (told.Label a) ws h e c =
      let v = valued strip_slip (find_rows P R ws) (Named P R W ws) a (chosen_clear P R ws counts c) (subst (λ x. Answers strip_slip (find_rows P R x) (Named P R W x) a) e h) in
      (v.0, ap told.Label v.1, v.2)
  find_told (ask.Find held) (told.Effect v) ws h e c = absurd h
  find_told (ask.Find held) told.Unfinished ws h e c = absurd h
  find_told (ask.Locate j f) r ws h e c = absurd e
  find_told (ask.Effect len f a b) r ws h e c = absurd e

  locate_told : (j f : ℕ) (r : Reply) → Replied P R W finished p (ask.Locate j f) r → j < P.factors → f < P.labels → (i : ℕ) × (r ≡ told.Label (Ok i)) × Located P R W j f i
  locate_told j f (told.Label a) h hj hf =
      let v = valued strip_slip (locate_rows P R j f) (Located P R W j f) a (located_clear P R j f counts hj hf) h in
      (v.0, ap told.Label v.1, v.2)
  locate_told j f (told.Effect v) h hj hf = absurd h
  locate_told j f told.Unfinished h hj hf = absurd h

  effect_told : (f a b : ℕ) (r : Reply) → Replied P R W finished p (ask.Effect P.labels f a b) r → finished ≡ true → refusal (finished_rows P R P.labels (map stand p.labels) f a b) ≡ None
      → 2 ≤ P.strength → (base : ℤ) (share : ℕ → ℕ → ℤ) → AdditiveOver P R W (grade_in p) base share
      → r ≡ told.Effect (Ok (pos (P.labels / P.levels) *ℤ (share f a -ℤ share f b)))
  effect_told f a b (told.Label x) h done clear two base share add = absurd h
  effect_told f a b (told.Effect x) h done clear two base share add =
      let v = valued effect_slip (finished_rows P R P.labels (map stand p.labels) f a b) (EffectOver P R W (grade_in p) f a b) x clear h.1 in
      ap told.Effect (v.1 ∙ ap Ok (v.2.shares two base share add))
  effect_told f a b told.Unfinished h done clear two base share add = absurd (both_ways finished h done)

module _ (P : Plan) (R : Arithmetic) (W : Ways) (L : RingLaws R) (M : ShuffleLaws W) (calls : List Call) (answers : List (Result Answer Slip)) (after : Plain) (questions : List Question) (replies : List Reply) where
  pub promised : refusal (count_row P R ∷ []) ≡ None → Exact P R W → Row P.labels (opened P.labels) calls answers after
      → ((k : ℕ) (x : Question) (y : Reply) → k < length questions → Replied P R W (finishes answers) after (get_or questions k x) (get_or replies k y))
      → length replies ≡ length questions → Trial P R W calls answers after questions replies
  promised count exact row replied sized =
      let counts = count_same P R count in
      let n = P.labels in
      record {
        plain = row;
        names = exact;
        find = λ k ws x y h e c. find_told P R W counts (finishes answers) after (get_or questions k x) (get_or replies k y) ws (replied k x y h) e c;
        locate = λ k j f x y h e hj hf.
            locate_told P R W counts (finishes answers) after j f (get_or replies k y) (subst (λ q. Replied P R W (finishes answers) after q (get_or replies k y)) e (replied k x y h)) hj hf;
        done = λ F fs len k x y h is. done_at P R W (strip_design P R W L M counts exact) F fs len calls answers after row k x y h is;
        effect = λ two done base share add k f a b x y h e hf ha hb.
            effect_told P R W counts (finishes answers) after f a b (get_or replies k y) (subst (λ q. Replied P R W (finishes answers) after q (get_or replies k y)) e (replied k x y h)) done
            (clear_over P R n (map stand after.labels) f a b count (row_finished n (opened n) after calls answers row done) hf ha hb) two base share add;
        replied = replied;
        sized = sized;
      }
