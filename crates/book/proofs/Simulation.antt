-- A book over words does what the plain book does that it stands for. Assumes nothing.
use Rattle.std.proofs.Common.{◌≡◌, ℕ, ◌+◌, false, eqb, ltb, List, map, length, set, Some, None, Ok, Err, Result, sym, refl, ap, ◌∙◌, subst, inl, inr, arith}
use lib.ListN.{length-map}
use Rattle.std.proofs.lemmas.List.{map-set}
use Rattle.std.proofs.lemmas.Bool.{cond-true, cond-false, ltb-false, le-leb, ne_eqb}
use Rattle.refusal.specs.declared.Slip.{Slip}
use Rattle.refusal.specs.Table.{refusal}
use Rattle.refusal.proofs.Firsts.{none_only}
use Rattle.book.specs.declared.standing.Standing.{Standing}
use Rattle.book.specs.declared.standing.Standing.TheVariants.{Graded}
use Rattle.book.specs.declared.row.Next.TheVariants.{Going}
use Rattle.book.specs.declared.shape.Book.{Book}
use Rattle.book.specs.declared.calls.Call.{Call}
use Rattle.book.specs.declared.calls.Call.TheVariants.{Take, Mark, Spoil, Strike, Finish}
use Rattle.book.specs.declared.calls.Answer.{Answer}
use Rattle.book.specs.declared.calls.Answer.TheVariants as answer
use Rattle.book.specs.declared.deed.Deed.{Deed}
use Rattle.book.specs.declared.deed.Deed.TheVariants as deed
use Rattle.book.specs.Standings.{standing, standings, code}
use Rattle.book.specs.Faults.{slip_of}
use Rattle.book.specs.Calls.{len_of}
use Rattle.book.specs.Deeds.{asked, made}
use Rattle.book.specs.Search.{FirstStop}
use Rattle.book.specs.Conditions.{table}
use Rattle.book.specs.Books.{rows_at, next}
use Rattle.book.specs.Plain.{Label, waiting, out, graded, Plain, stand, conditions, put, Does, Step}
use Rattle.book.specs.Shown.{Shows}
use Rattle.book.specs.Turns.{Holds, Turned}
use Rattle.book.proofs.Steps.{comes}

-- the word of a grade that is not too high
pub graded_word : (g : ℕ) → ltb 1000 g ≡ false → standing (g + 2) ≡ Graded g
graded_word g e =
    cond-false _ _ _ (ne_eqb (g + 2) 0 (λ h. omega arith))
    ∙ cond-false _ _ _ (ne_eqb (g + 2) 1 (λ h. omega arith))
    ∙ cond-true _ _ _ (le-leb (g + 2) 1002 (omega (arith, ltb-false 1000 g e)))
    ∙ ap Graded (omega arith)

-- memory that is not N words is refused at every call
pub unfit_table : (n c : ℕ) (ss : List Standing) (call : Call) → eqb (len_of call) n ≡ false → refusal (table n c ss call) ≡ Some (slip_of 6 0)
unfit_table n c ss (Take len) e = rw e
unfit_table n c ss (Mark len k g) e = rw e
unfit_table n c ss (Spoil len k) e = rw e
unfit_table n c ss (Strike len k) e = rw e
unfit_table n c ss (Finish len) e = rw e

-- the words are as many as the labels
pub shows_length : (ws : List ℕ) (p : Plain) → Shows ws p → length ws ≡ length p.labels
shows_length ws p e = sym (length-map ws standing) ∙ ap length e ∙ length-map p.labels stand

module _ (b : Book) (ws : List ℕ) (p : Plain) (holds : Holds b ws p) where
  same_table : (call : Call) → refusal (rows_at b ws call) ≡ refusal (conditions b.plan.labels p call)
  same_table call =
      ap (λ k. refusal (table b.plan.labels k (standings ws) call)) holds.cursor
      ∙ ap (λ ss. refusal (table b.plan.labels p.cursor ss call)) holds.words

  -- a refusal is the plain book's, and leaves it as it was
  pub refused_turn : (call : Call) (s : Slip) (b' : Book) → refusal (rows_at b ws call) ≡ Some s → b'.plan ≡ b.plan → b'.cursor ≡ b.cursor → Turned b.plan p call (Err s) (Going b') ws
  refused_turn call s b' e same ec =
      record {
        after = p;
        step = inl (record { slip = s; given = sym (same_table call) ∙ e; answer = refl; same = refl });
        words = holds.words;
        next = (refl, same, ec ∙ holds.cursor);
      }

  accepted : (call : Call) (a : Result Answer Slip) (q : Plain) → refusal (rows_at b ws call) ≡ None → Does b.plan.labels p call a q → Step b.plan.labels p call a q
  accepted call a q e d = inr (record { clear = sym (same_table call) ∙ e; does = d })

  -- a word that says the new standing of its label
  written : (k w : ℕ) (l : Label) → standing w ≡ stand l → standings (set ws k w) ≡ map stand (set p.labels k l)
  written k w l e =
      map-set standing ws k w ∙ ap (set (standings ws) k) e ∙ ap (λ ss. set ss k (stand l)) holds.words ∙ sym (map-set stand p.labels k l)

  pub take_turn : (len k : ℕ) (b' : Book) → refusal (rows_at b ws (Take len)) ≡ None → FirstStop b.cursor (standings ws) k → b'.plan ≡ b.plan → b'.cursor ≡ next b.plan.labels k → Turned b.plan p (Take len) (Ok (answer.Took k)) (Going b') (set ws k 1)
  take_turn len k b' e stop same ec =
      let after : Plain = record { cursor = next b.plan.labels k; labels = set p.labels k out } in
      let stopped = subst (λ ss. FirstStop p.cursor ss k) holds.words (subst (λ i. FirstStop i (standings ws) k) holds.cursor stop) in
      record {
        after = after;
        step = accepted (Take len) (Ok (answer.Took k)) after e (k, comes p k stopped, refl, refl);
        words = written k 1 out refl;
        next = (refl, same, ec);
      }

  -- a label put to another standing
  puts : (call : Call) (k w : ℕ) (l : Label) → refusal (rows_at b ws call) ≡ None → Does b.plan.labels p call (Ok answer.Done) (put p k l) → standing w ≡ stand l → Turned b.plan p call (Ok answer.Done) (Going b) (set ws k w)
  puts call k w l e d says =
      record { after = put p k l; step = accepted call (Ok answer.Done) (put p k l) e d; words = written k w l says; next = (refl, refl, holds.cursor) }

  pub deed_turn : (d : Deed) (len k : ℕ) → refusal (rows_at b ws (asked d len k)) ≡ None → Turned b.plan p (asked d len k) (Ok answer.Done) (Going b) (set ws k (code (made d)))
  deed_turn (deed.Mark g) len k e = puts (Mark len k g) k (g + 2) (graded g) e (refl, refl) (graded_word g (none_only (rows_at b ws (Mark len k g)) e).1.1.0)
  deed_turn deed.Spoil len k e = puts (Spoil len k) k 0 waiting e (refl, refl) refl
  deed_turn deed.Strike len k e = puts (Strike len k) k 0 waiting e (refl, refl) refl
