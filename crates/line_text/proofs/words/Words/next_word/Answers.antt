use Rattle.std.proofs.Common.{◌-◌, length, take, drop, true, false, rules, arith, true-eqb, false-eqb}
use Rattle.std.proofs.lemmas.List.{take_rest}
use Rattle.line_text.proofs.Cuts.{Run, found, used}
use Rattle.line_text.proofs.words.Words.next_word.Goals as goal

pub returns-then-is_empty : goal.returns-then-is_empty
returns-then-is_empty c =
    let line = c.args.self.now.rest.now in
    let m = c.unwrap_or.result in
    let blanks : Run true line m = search rules in
    let others : Run false (take (length line - m) (drop m line)) c.unwrap_or-2.result = search rules in
    used line m c.unwrap_or-2.result blanks _ _ (take_rest line m) others c.split_at.ensures.back (omega (arith, true-eqb _ _ c.if-is_empty.ensures))

pub returns-else-is_empty : goal.returns-else-is_empty
returns-else-is_empty c =
    let line = c.args.self.now.rest.now in
    let m = c.unwrap_or.result in
    let blanks : Run true line m = search rules in
    let others : Run false (take (length line - m) (drop m line)) c.unwrap_or-2.result = search rules in
    found line m c.unwrap_or-2.result blanks _ _ _ (take_rest line m) others c.split_at.ensures.front c.split_at.ensures.back (omega (arith, false-eqb))
