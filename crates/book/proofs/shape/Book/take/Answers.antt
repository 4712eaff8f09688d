use borrow.Author.Tests.{tests}
use Rattle.std.proofs.Common.{sym, ◌∙◌, rules}
use Rattle.std.proofs.lemmas.Iterator.{YieldsList-from_slice}
use Rattle.std.proofs.lemmas.Iterator.Search.{any_from_yields_List}
use Rattle.book.specs.Standings.{standing, is_out}
use Rattle.book.proofs.Upward.{some_word}
use Rattle.book.proofs.Lines.{book_out, book_done, book_found, book_stops}
use Rattle.book.proofs.shape.Book.take.Goals as goal

pub returns-then-any-clause-answer : goal.returns-then-any-clause-answer
returns-then-any-clause-answer c =
    let ws = c.args.words.now in
    let any = any_from_yields_List (λ w. is_out (standing w)) _ _ c.any.result c.any.ensures.ran (YieldsList-from_slice ws (cc)) (λ x b q k. search (rules, tests)) in
    book_out c.args.self.now ws c.in_ok-fits.ensures.0 c.in_default.ensures.answer (some_word is_out ws ∙ sym any ∙ c.if-any.true)

pub returns-else-any-clause-answer : goal.returns-else-any-clause-answer
returns-else-any-clause-answer c =
    let ws = c.args.words.now in
    let any = any_from_yields_List (λ w. is_out (standing w)) _ _ c.any.result c.any.ensures.ran (YieldsList-from_slice ws (cc)) (λ x b q k. search (rules, tests)) in
    book_done c.args.self.now ws c.in_ok-fits.ensures.0 c.in_default.ensures.answer (some_word is_out ws ∙ sym any ∙ c.if-any.false)

pub returns-then-is_torn-clause-answer : goal.returns-then-is_torn-clause-answer
returns-then-is_torn-clause-answer c =
    book_found c.args.self.now c.args.words.now c.in_ok-fits.ensures.0 c.in-Some.at c.read.result c.in-Some.ensures.answer c.read.ensures (sym c.is_torn.ensures ∙ c.if-is_torn.true)

pub returns-clause-answer : goal.returns-clause-answer
returns-clause-answer c =
    let book = c.args.self.now in
    let ws = c.args.words.now in
    let fits = c.in_ok-fits.ensures.0 in
    let at = c.in-Some.ensures.answer in
    (book_found book ws fits c.in-Some.at c.read.result at c.read.ensures (sym c.is_torn.ensures ∙ c.if-is_torn.false), book_stops book ws fits c.in-Some.at at)
