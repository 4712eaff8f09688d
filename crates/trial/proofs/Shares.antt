-- When an effect is answered, and what it is where grades are additive. Assumes nothing.
use Rattle.std.proofs.Common.{◌≡◌, ℕ, ◌<◌, leb, List, [], ◌∷◌, ℤ, None, ◌∙◌}
use Rattle.std.proofs.lemmas.Bool.{lt-leb, or_from}
use Rattle.refusal.specs.Table.{refusal}
use Rattle.refusal.proofs.Firsts.{none_only, none_always}
use Rattle.levels.specs.Rings.{Arithmetic, RingLaws}
use Rattle.shuffle.specs.Ways.{Ways, ShuffleLaws}
use Rattle.plan.specs.declared.shape.Plan.{Plan}
use Rattle.strip.specs.Labels.{level}
use Rattle.strip.specs.Names.{Exact}
use Rattle.strip.specs.Rows.{count_row}
use Rattle.book.specs.declared.standing.Standing.{Standing}
use Rattle.book.specs.Conditions.{finishing}
use Rattle.design.proofs.Effects as effects
use Rattle.strip_design.proofs.Runs.{strip_design}
use Rattle.trial.specs.Finished.{finished_rows, effect_over, EffectOver}

pub clear_over : (P : Plan) (R : Arithmetic) (len : ℕ) (ss : List Standing) (f a b : ℕ) → refusal (count_row P R ∷ []) ≡ None → refusal (finishing P.labels len ss) ≡ None
    → f < P.factors → a < P.levels → b < P.levels → refusal (finished_rows P R len ss f a b) ≡ None
clear_over P R len ss f a b c g hf ha hb =
    let count = none_only (count_row P R ∷ []) c in
    let words = none_only (finishing P.labels len ss) g in
    none_always (finished_rows P R len ss f a b)
    (count.0, (words.0, (lt-leb P.factors f hf, (or_from (leb P.levels a) (leb P.levels b) (lt-leb P.levels a ha) (lt-leb P.levels b hb), words.1))))

pub shares_over : (P : Plan) (R : Arithmetic) (W : Ways) → RingLaws R → ShuffleLaws W → R.count ≡ P.levels → Exact P R W
    → (grade : ℕ → ℤ) (f a b : ℕ) → f < P.factors → a < P.levels → b < P.levels → (v : ℤ) → v ≡ effect_over P R W grade f a b → EffectOver P R W grade f a b v
shares_over P R W L M counts x grade f a b hf ha hb v e =
    record {
      value = e;
      shares = λ two base share add.
          e ∙ effects.effect P.labels P.levels P.factors P.strength (level P R W) (strip_design P R W L M counts x) two f a b hf ha hb base share grade add;
    }
