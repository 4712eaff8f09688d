use borrow.Author.Tests.{tests}
use Rattle.std.proofs.Common.{length, Some, None, sym, ◌∙◌, rules, arith}
use Rattle.std.proofs.lemmas.Iterator.{YieldsList-from_slice}
use Rattle.std.proofs.lemmas.Iterator.Search.{any_from_yields_List, position_from_yields_List}
use Rattle.std.proofs.lemmas.List.{take_all}
use Rattle.book.specs.Standings.{standing, standings, unready, is_torn}
use Rattle.book.proofs.Upward.{lowest_word, some_word}
use Rattle.book.proofs.Lines.{finish_open, finish_torn, finish_clear}
use Rattle.book.proofs.ledger.graded.Goals as goal

-- `take_all` is listed for words that are cut at their end, and to no less than all
pub returns-then-any : goal.returns-then-any
returns-then-any c =
    let ws = c.args.words.now in
    let any = any_from_yields_List (λ w. unready (standing w)) _ _ c.any.result c.any.ensures.ran (YieldsList-from_slice ws (search (rules, take_all, arith))) (λ x b q k. search (rules, tests)) in
    finish_open c.args.plan.labels (length ws) (standings ws) c.in_ok-fits.ensures.0 (some_word unready ws ∙ sym any ∙ c.if-any.true)

pub returns-in-Some : goal.returns-in-Some
returns-in-Some c =
    let ws = c.args.words.now in
    let any = any_from_yields_List (λ w. unready (standing w)) _ _ c.any.result c.any.ensures.ran (YieldsList-from_slice ws (search (rules, take_all, arith))) (λ x b q k. search (rules, tests)) in
    let torn = position_from_yields_List (λ w. is_torn (standing w)) _ _ (Some c.in-Some.at) c.in-Some.ensures.ran (YieldsList-from_slice ws (cc)) (λ x b q k. search (rules, tests)) in
    finish_torn c.args.plan.labels (length ws) (standings ws) c.in_ok-fits.ensures.0 c.in-Some.at (some_word unready ws ∙ sym any ∙ c.if-any.false) (lowest_word is_torn ws ∙ sym torn)

pub returns-in-None : goal.returns-in-None
returns-in-None c =
    let ws = c.args.words.now in
    let any = any_from_yields_List (λ w. unready (standing w)) _ _ c.any.result c.any.ensures.ran (YieldsList-from_slice ws (search (rules, take_all, arith))) (λ x b q k. search (rules, tests)) in
    let torn = position_from_yields_List (λ w. is_torn (standing w)) _ _ None c.in-None.ensures.ran (YieldsList-from_slice ws (cc)) (λ x b q k. search (rules, tests)) in
    (finish_clear c.args.plan.labels (length ws) (standings ws) c.in_ok-fits.ensures.0 (some_word unready ws ∙ sym any ∙ c.if-any.false) (lowest_word is_torn ws ∙ sym torn), tt)
