use Rattle.std.proofs.Common.{set, refl, ap, ◌∙◌}
use Rattle.std.proofs.lemmas.Result.{err_from_is_err_and}
use Rattle.book.proofs.Lines.{book_deed}
use Rattle.book.proofs.shape.Book.change.Goals as goal

pub returns-in_err-words : goal.returns-in_err-words
returns-in_err-words c =
    let rows = book_deed c.args.self.now c.args.words.now c.in_ok-fits.ensures.0 c.args.deed c.args.label c.read.result c.if-label-self.false c.if-is_high.ensures c.read.ensures in
    let p = err_from_is_err_and c.from_residual-in_err-words.result c.from_residual-in_err-words.ensures.1 in
    rw (p.1, p.2) (record { answer = rows ∙ c.in_err-words.ensures; words = refl })

pub returns : goal.returns
returns c =
    let rows = book_deed c.args.self.now c.args.words.now c.in_ok-fits.ensures.0 c.args.deed c.args.label c.read.result c.if-label-self.false c.if-is_high.ensures c.read.ensures in
    record { answer = (rows ∙ c.in_ok-words.ensures.0, tt); words = ap (set c.args.words.now c.args.label) c.in_ok-words.ensures.1 }
