use Rattle.std.proofs.Common.{◌-◌, length, take, sym, ◌∙◌, subst}
use native.Mathlib.Nat.{sub-zero}
use Rattle.book.specs.Standings.{standings}
use Rattle.book.specs.Shown.{Leaves}
use Rattle.trial.specs.Finished.{grade_of}
use Rattle.trial.specs.Replies.{Replied}
use Rattle.trial.specs.declared.question.Reply.TheVariants as told
use Rattle.trial.proofs.Replying.{Owed, effect_replied}
use Rattle.trial.proofs.conduct.reply.Goals as goal

pub returns-in-Over : goal.returns-in-Over
returns-in-Over g c = λ finished p sized shows leaves.
    let S = c.args.strip.now in
    let R = g.R.Ring.ring S.ring in
    let W = g.S.Shuffler.ways S.shuffler in
    let ws = c.args.words.now in
    let l = c.part.result - 0 in
    let is = sub-zero c.part.result ∙ c.part.ensures in
    let over = subst (λ x. Leaves S.plan finished x p) c.in-Over.is leaves in
    let given = subst (λ P. Owed P R W c.in-Effect.factor c.in-Effect.a c.in-Effect.b c.effect.result (length (take l ws)) (standings (take l ws)) (grade_of (take l ws))) over.1 c.effect.ensures in
    subst (λ q. Replied S.plan R W finished p q (told.Effect c.effect.result)) (sym c.in-Effect.is) (
      over.0,
      effect_replied S.plan R W ws p sized shows c.in-Effect.len c.in-Effect.factor c.in-Effect.a c.in-Effect.b c.effect.result l is given,
    )
