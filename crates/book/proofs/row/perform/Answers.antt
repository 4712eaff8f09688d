use Rattle.std.proofs.Common.{◌≡◌, ◌-◌, cond, leb, length, ap, ◌∙◌}
use native.Mathlib.Nat.{sub-zero}
use Rattle.book.proofs.Handing.{handed_turn}
use Rattle.book.proofs.row.perform.Goals as goal

pub returns : goal.returns
returns c =
    let all = length c.args.words.now in
    let so : c.part-len.result - 0 ≡ _ = sub-zero c.part-len.result ∙ c.part-len.ensures ∙ ap (λ k. cond (leb k all) k 0) c.handed.ensures in
    handed_turn c.args.book c.args.words.now c.args.call (c.part-len.result - 0) c.act.result.0 c.act.result.1 c.act.new.words so c.act.ensures
