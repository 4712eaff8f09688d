use Rattle.std.proofs.Common.{◌≡◌, refl, rules}
use Rattle.book.specs.declared.calls.Call.TheVariants.{Finish}
use Rattle.book.specs.declared.calls.Answer.TheVariants as answer
use Rattle.book.specs.declared.deed.Deed.TheVariants as deed
use Rattle.book.proofs.Acting.{told, take_acts, deed_acts, refused_acts}
use Rattle.book.proofs.row.act.Goals as goal
use Rattle.book.proofs.row.act.Goals.{in-Take, in-Mark, in-Spoil, in-Strike}

pub returns : goal.returns
returns c =
    let book = c.args.book in
    let ws = c.args.words.now in
    elim c.match-call.branch [
      | in-Take w ↦
          let is : c.map_err.result ≡ told answer.Took w.take.result = search rules in
          rw (w.in-Take.is, is, w.book-is, w.words-is, w.take.ensures.words)
          (take_acts book ws w.in-Take.len w.take.result w.take.new.self w.take.ensures.answer w.take.ensures.plan w.take.ensures.cursor)
      | in-Mark w ↦
          let is : c.map_err.result ≡ told (λ _. answer.Done) w.mark.result = search rules in
          rw (w.in-Mark.is, is, w.book-is, w.words-is, w.mark.ensures.words)
          (deed_acts book ws (deed.Mark w.in-Mark.grade) w.in-Mark.len w.in-Mark.label w.mark.result w.mark.ensures.answer)
      | in-Spoil w ↦
          let is : c.map_err.result ≡ told (λ _. answer.Done) w.spoil.result = search rules in
          rw (w.in-Spoil.is, is, w.book-is, w.words-is, w.spoil.ensures.words)
          (deed_acts book ws deed.Spoil w.in-Spoil.len w.in-Spoil.label w.spoil.result w.spoil.ensures.answer)
      | in-Strike w ↦
          let is : c.map_err.result ≡ told (λ _. answer.Done) w.strike.result = search rules in
          rw (w.in-Strike.is, is, w.book-is, w.words-is, w.strike.ensures.words)
          (deed_acts book ws deed.Strike w.in-Strike.len w.in-Strike.label w.strike.result w.strike.ensures.answer)
    ]

pub returns-in-Err : goal.returns-in-Err
returns-in-Err c =
    rw (c.in-Finish.is, c.slip.ensures, c.in-Err.ensures.same)
    (refused_acts c.args.book c.args.words.now Finish (λ l. refl) c.in-Finish.len c.in-Err.fault c.args.book c.in-Err.ensures.answer refl refl)
