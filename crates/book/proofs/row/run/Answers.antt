use Rattle.std.proofs.Common.{length, vec_items, arith}
use Rattle.std.proofs.lemmas.Bool.{eqb-true}
use Rattle.book.specs.declared.calls.Call.TheVariants.{Take}
use Rattle.book.proofs.Lines.{fitting}
use Rattle.book.proofs.Playing.{begins, played, left, goes_on, ends}
use Rattle.book.proofs.row.run.Goals as goal

pub loop-call-init : goal.loop-call-init
loop-call-init c =
    let made = c.in_ok-answers.ensures in
    let opened = c.in_ok-book.ensures in
    record {
      told = made.len;
      room = made.capacity;
      playing =
          begins c.args.plan c.in_ok-book.book c.args.calls.now (length c.args.words.now) c.open.new.words (vec_items c.in_ok-answers.answers)
          opened.answer.1.plan (eqb-true _ _ (fitting _ _ c.in_ok-fits.ensures.0)) opened.answer.1.cursor opened.words made.items;
    }

pub loop-call-preserved : goal.loop-call-preserved
loop-call-preserved c =
    record {
      told = omega arith;
      room = omega arith;
      playing = goes_on c.loop-call.invariant.playing (Take 0) c.loop-call-test.true c.perform-answer.ensures c.push_reserved.ensures.items c.in-Going.is;
    }

pub returns-in-Over-clause-row : goal.returns-in-Over-clause-row
returns-in-Over-clause-row c =
    let end = ends c.loop-call.invariant.playing (Take 0) c.loop-call-test.true c.perform-answer.ensures c.push_reserved.ensures.items c.in-Over.is in
    (c.in_ok-fits.ensures.0, record { after = end.0; answers = end.1; words = end.2; next = end.3 })

pub returns-clause-row : goal.returns-clause-row
returns-clause-row c =
    let now = c.loop-call.invariant.playing in
    (c.in_ok-fits.ensures.0, record { after = now.plain; answers = played now c.loop-call-test.false; words = now.holds.words; next = left now })
