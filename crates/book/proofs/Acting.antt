-- One call of a row on a book, from what the book's own call returned. Assumes nothing.
use Rattle.std.proofs.Common.{◌≡◌, ℕ, List, length, Some, None, Ok, Err, Result, sym, refl, ap, ◌∙◌, subst}
use Rattle.std.proofs.lemmas.Bool.{ne_eqb}
use Rattle.refusal.specs.declared.Slip.{Slip}
use Rattle.refusal.specs.Table.{refusal, Answers}
use Rattle.book.specs.declared.fault.BookFault.{BookFault}
use Rattle.book.specs.declared.shape.Book.{Book}
use Rattle.book.specs.declared.calls.Call.{Call}
use Rattle.book.specs.declared.calls.Call.TheVariants.{Take}
use Rattle.book.specs.declared.calls.Answer.{Answer}
use Rattle.book.specs.declared.calls.Answer.TheVariants as answer
use Rattle.book.specs.declared.deed.Deed.{Deed}
use Rattle.book.specs.declared.deed.Deed.TheVariants as deed
use Rattle.book.specs.declared.row.Next.{Next}
use Rattle.book.specs.declared.row.Next.TheVariants.{Going}
use Rattle.book.specs.Standings.{standings}
use Rattle.book.specs.Faults.{slip_of, book_slip}
use Rattle.book.specs.Calls.{len_of}
use Rattle.book.specs.Deeds.{asked, made}
use Rattle.book.specs.Search.{FirstStop}
use Rattle.book.specs.Books.{rows_at, wrote, took, cursor_at}
use Rattle.book.specs.Plain.{Plain}
use Rattle.book.specs.Turns.{Holds, Turned, Acts}
use Rattle.book.proofs.Lines.{given_none, same_slip}
use Rattle.book.proofs.Simulation.{shows_length, unfit_table, refused_turn, take_turn, deed_turn}

-- a row's answer to what a call returned; `accepted` is the answer to a value
abbrev pub told : {V : Type 0} → (V → Answer) → Result V BookFault → Result Answer Slip
told accepted (Ok v) = Ok (accepted v)
told accepted (Err fault) = Err (book_slip fault)

len_of_asked : (d : Deed) (len k : ℕ) → len_of (asked d len k) ≡ len
len_of_asked (deed.Mark g) len k = refl
len_of_asked deed.Spoil len k = refl
len_of_asked deed.Strike len k = refl

module _ (b : Book) (ws : List ℕ) where
  -- a call by the length that it names
  module _ (call : ℕ → Call) (names : (l : ℕ) → len_of (call l) ≡ l) (len : ℕ) where
    -- where the length that it names is N, it is that of the words
    at_words : (a : Result Answer Slip) (left : Next) (vs : List ℕ) (p : Plain) → Holds b ws p → Turned b.plan p (call (length ws)) a left vs → len_of (call len) ≡ b.plan.labels → Turned b.plan p (call len) a left vs
    at_words a left vs p h t e =
        subst (λ l. Turned b.plan p (call l) a left vs) (shows_length ws p h.words ∙ h.sized.labels ∙ sym e ∙ names len) t

    -- memory that does not fit is refused
    not_fit : (length ws ≡ b.plan.labels → ⊥) → refusal (rows_at b ws (call (length ws))) ≡ Some (slip_of 6 0)
    not_fit ne = unfit_table b.plan.labels b.cursor (standings ws) (call (length ws)) (ne_eqb _ _ (λ h. ne (sym (names (length ws)) ∙ h)))

    -- a refusal leaves all as it was
    pub refused_acts : (f : BookFault) (b' : Book) → refusal (rows_at b ws (call (length ws))) ≡ Some (book_slip f) → b'.plan ≡ b.plan → b'.cursor ≡ b.cursor → Acts b ws (call len) (Err (book_slip f)) (Going b') ws
    refused_acts f b' e same ec =
        record {
          follows = λ p h. at_words (Err (book_slip f)) (Going b') ws p h (refused_turn b ws p h (call (length ws)) (book_slip f) b' e same ec);
          unfit = λ ne. record { answer = ap Err (same_slip (sym e ∙ not_fit ne)); next = (b', refl, same, ec); words = refl };
        }

    accepted_acts : (a : Result Answer Slip) (left : Next) (vs : List ℕ) → refusal (rows_at b ws (call (length ws))) ≡ None → ((p : Plain) → Holds b ws p → Turned b.plan p (call (length ws)) a left vs) → Acts b ws (call len) a left vs
    accepted_acts a left vs e turn = record { follows = λ p h. at_words a left vs p h (turn p h); unfit = λ ne. given_none (sym (not_fit ne) ∙ e) }

  pub take_acts : (len : ℕ) (r : Result ℕ BookFault) (b' : Book) → Answers book_slip (rows_at b ws (Take (length ws))) (FirstStop b.cursor (standings ws)) r → b'.plan ≡ b.plan → b'.cursor ≡ cursor_at r b → Acts b ws (Take len) (told answer.Took r) (Going b') (took r ws)
  take_acts len (Err f) b' h same ec = refused_acts Take (λ l. refl) len f b' h same ec
  take_acts len (Ok k) b' h same ec =
      accepted_acts Take (λ l. refl) len (Ok (answer.Took k)) (Going b') (took (Ok k) ws) h.0 (λ p hold. take_turn b ws p hold (length ws) k b' h.0 h.1 same ec)

  pub deed_acts : (d : Deed) (len k : ℕ) (r : Result (Unit {0}) BookFault) → Answers book_slip (rows_at b ws (asked d (length ws) k)) (λ _. Unit {0}) r → Acts b ws (asked d len k) (told (λ _. answer.Done) r) (Going b) (wrote r ws k (made d))
  deed_acts d len k (Err f) h = refused_acts (λ l. asked d l k) (λ l. len_of_asked d l k) len f b h refl refl
  deed_acts d len k (Ok u) h =
      accepted_acts (λ l. asked d l k) (λ l. len_of_asked d l k) len (Ok answer.Done) (Going b) (wrote (Ok u) ws k (made d)) h.0 (λ p hold. deed_turn b ws p hold d (length ws) k h.0)
