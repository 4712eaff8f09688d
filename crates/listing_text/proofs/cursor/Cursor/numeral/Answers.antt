use Rattle.std.proofs.Common.{◌+◌, length, take, rules, arith}
use Rattle.std.proofs.lemmas.List.{take_rest}
use Rattle.listing_text.proofs.Splits.{FirstAt, Before, not_before, first_near, answer}
use Rattle.listing_text.proofs.cursor.Cursor.numeral.Goals as goal

pub returns-in_err-at : goal.returns-in_err-at
returns-in_err-at c =
    let bs = c.args.self.now.rest.now in
    let m = c.min.result in
    let none : Before c.args.end (take m bs) (length (take m bs)) = search rules in
    record { value = rw c.from_residual.ensures (λ n after f. not_before f m (omega arith) (search rules) none) }

pub returns : goal.returns
returns c =
    let bs = c.args.self.now.rest.now in
    let near : FirstAt c.args.end (take c.min.result bs) c.in_ok-at.at = search rules in
    let first : FirstAt c.args.end bs c.in_ok-at.at = first_near c.args.end bs c.min.result c.in_ok-at.at (omega arith) near in
    record { value = answer c.args.end bs c.in_ok-at.at c.requires first _ (search rules) _ (take_rest bs (c.in_ok-at.at + 1)) c.numeral.result c.numeral.ensures }
