-- What the table gives at each call, once the memory handed in fits. Assumes nothing.
use Rattle.std.proofs.Common.{◌≡◌, ℕ, ◌<◌, ◌≤◌, Bool, true, false, cond, not, ◌&&◌, eqb, leb, List, length, get_or, is_some, Some, None, Option, unwrap_or, sym, refl, ap, ◌∙◌, arith}
use lib.ListN.{length-map}
use Rattle.std.proofs.lemmas.Bool.{eqb-true, lt-leb, not-false}
use Rattle.refusal.specs.declared.Slip.{Slip}
use Rattle.refusal.specs.Table.{refusal}
use Rattle.refusal.proofs.Firsts.{none_only}
use Rattle.book.specs.declared.standing.Standing.{Standing}
use Rattle.book.specs.declared.standing.Standing.TheVariants.{Waiting, Out, Graded, Torn}
use Rattle.book.specs.declared.shape.Book.{Book}
use Rattle.book.specs.declared.calls.Call.{Call}
use Rattle.book.specs.declared.calls.Call.TheVariants.{Take, Mark, Spoil, Strike, Finish}
use Rattle.book.specs.declared.deed.Deed.{Deed}
use Rattle.book.specs.declared.deed.Deed.TheVariants as deed
use Rattle.book.specs.Standings.{standing, standings, is_out, is_graded, is_torn, stops, unready}
use Rattle.book.specs.Faults.{slip_of}
use Rattle.book.specs.Calls.{len_of}
use Rattle.book.specs.Deeds.{asked, is_high, against}
use Rattle.book.specs.Search.{lowest, some, each, stop, FirstStop}
use Rattle.book.specs.Conditions.{opening, finishing, table}
use Rattle.book.specs.Books.{rows_at}
use Rattle.book.proofs.Upward.{stands_word, none_at, some_from, none_from, stop_none, stop_some}

pub given_none : {P : Type 0} {s : Slip} → Some s ≡ None → P
given_none e = cc

pub same_slip : {s t : Slip} → Some s ≡ Some t → s ≡ t
same_slip e = cc

-- where no row holds, the memory fits
pub fitting : (n len : ℕ) → refusal (opening n len) ≡ None → eqb len n ≡ true
fitting n len e = not-false _ (none_only (opening n len) e).0

pub fits_call : (n c : ℕ) (ss : List Standing) (call : Call) → refusal (table n c ss call) ≡ None → eqb (len_of call) n ≡ true
fits_call n c ss (Take len) e = not-false _ (none_only (table n c ss (Take len)) e).0
fits_call n c ss (Mark len k g) e = not-false _ (none_only (table n c ss (Mark len k g)) e).0
fits_call n c ss (Spoil len k) e = not-false _ (none_only (table n c ss (Spoil len k)) e).0
fits_call n c ss (Strike len k) e = not-false _ (none_only (table n c ss (Strike len k)) e).0
fits_call n c ss (Finish len) e = not-false _ (none_only (table n c ss (Finish len)) e).0

module _ (n len : ℕ) (ss : List Standing) (fits : refusal (opening n len) ≡ None) where
  at_finish : (a : Bool) (o : Option ℕ) → some unready ss ≡ a → lowest is_torn ss ≡ o → refusal (finishing n len ss) ≡ cond a (Some (slip_of 16 0)) (cond (is_some o) (Some (slip_of 17 (unwrap_or o 0))) None)
  at_finish a o ea eo = rw (fitting n len fits, ea, eo)

  pub finish_open : some unready ss ≡ true → refusal (finishing n len ss) ≡ Some (slip_of 16 0)
  finish_open e = at_finish true (lowest is_torn ss) e refl

  pub finish_torn : (k : ℕ) → some unready ss ≡ false → lowest is_torn ss ≡ Some k → refusal (finishing n len ss) ≡ Some (slip_of 17 k)
  finish_torn k e o = at_finish false (Some k) e o

  pub finish_clear : some unready ss ≡ false → lowest is_torn ss ≡ None → refusal (finishing n len ss) ≡ None
  finish_clear e o = at_finish false None e o

module _ (n c : ℕ) (ss : List Standing) (len : ℕ) (fit : eqb len n ≡ true) where
  pub at_deed : (d : Deed) (label : ℕ) → leb n label ≡ false → is_high d ≡ false → refusal (table n c ss (asked d len label)) ≡ refusal (against d (get_or ss label Waiting) label)
  at_deed (deed.Mark grade) label l h = rw (fit, l, h)
  at_deed deed.Spoil label l h = rw (fit, l)
  at_deed deed.Strike label l h = rw (fit, l)

  pub at_take : (a b : Bool) → (not (some stops ss) && some is_out ss) ≡ a → each is_graded ss ≡ b → refusal (table n c ss (Take len)) ≡ cond a (Some (slip_of 14 0)) (cond b (Some (slip_of 15 0)) (cond (is_torn (get_or ss (unwrap_or (stop c ss) 0) Waiting)) (Some (slip_of 17 (unwrap_or (stop c ss) 0))) None))
  at_take a b ea eb = rw (fit, ea, eb)

  module _ (within : c ≤ length ss) where
    -- what neither stops a take nor is out is graded
    must_be : (s : Standing) → stops s ≡ false → is_out s ≡ false → not (is_graded s) ≡ false
    must_be Waiting e f = e
    must_be Out e f = f
    must_be (Graded g) e f = refl
    must_be Torn e f = e

    is_not : (s : Standing) → stops s ≡ true → not (is_graded s) ≡ true
    is_not Waiting e = refl
    is_not Out e = refl
    is_not (Graded g) e = e
    is_not Torn e = refl

    pub take_out : stop c ss ≡ None → some is_out ss ≡ true → refusal (table n c ss (Take len)) ≡ Some (slip_of 14 0)
    take_out e o = at_take true (each is_graded ss) (ap (λ b. not b && some is_out ss) (none_from stops ss (stop_none ss c within e)) ∙ o) refl

    pub take_done : stop c ss ≡ None → some is_out ss ≡ false → refusal (table n c ss (Take len)) ≡ Some (slip_of 15 0)
    take_done e o =
        let clear = stop_none ss c within e in
        at_take false true
        (ap (λ b. not b && some is_out ss) (none_from stops ss clear) ∙ o)
        (ap not (none_from (λ s. not (is_graded s)) ss (λ j h. must_be (get_or ss j Waiting) (clear j h) (none_at is_out ss o j h))))

    pub take_found : (k : ℕ) → stop c ss ≡ Some k → refusal (table n c ss (Take len)) ≡ cond (is_torn (get_or ss k Waiting)) (Some (slip_of 17 k)) None
    take_found k e =
        let s = stop_some ss c within k e in
        at_take false false
        (ap (λ b. not b && some is_out ss) (some_from stops ss k s.within s.here))
        (ap not (some_from (λ s. not (is_graded s)) ss k s.within (is_not (get_or ss k Waiting) s.here)))
        ∙ ap (λ o. cond (is_torn (get_or ss (unwrap_or o 0) Waiting)) (Some (slip_of 17 (unwrap_or o 0))) None) e

-- the same for a book, on words that fit
module _ (b : Book) (ws : List ℕ) (fits : refusal (opening b.plan.labels (length ws)) ≡ None) where
  fit : eqb (length ws) b.plan.labels ≡ true
  fit = fitting b.plan.labels (length ws) fits

  inside : b.cursor ≤ length (standings ws)
  inside = omega (arith, eqb-true (length ws) b.plan.labels fit, length-map ws standing, b.below)

  pub book_out : None ≡ stop b.cursor (standings ws) → some is_out (standings ws) ≡ true → refusal (rows_at b ws (Take (length ws))) ≡ Some (slip_of 14 0)
  book_out e o = take_out b.plan.labels b.cursor (standings ws) (length ws) fit inside (sym e) o

  pub book_done : None ≡ stop b.cursor (standings ws) → some is_out (standings ws) ≡ false → refusal (rows_at b ws (Take (length ws))) ≡ Some (slip_of 15 0)
  book_done e o = take_done b.plan.labels b.cursor (standings ws) (length ws) fit inside (sym e) o

  pub book_found : (k : ℕ) (s : Standing) {t : Bool} → Some k ≡ stop b.cursor (standings ws) → s ≡ standing (get_or ws k 0) → is_torn s ≡ t → refusal (rows_at b ws (Take (length ws))) ≡ cond t (Some (slip_of 17 k)) None
  book_found k s e r t =
      take_found b.plan.labels b.cursor (standings ws) (length ws) fit inside k (sym e)
      ∙ ap (λ x. cond x (Some (slip_of 17 k)) None) (ap is_torn (stands_word ws k ∙ sym r) ∙ t)

  pub book_stops : (k : ℕ) → Some k ≡ stop b.cursor (standings ws) → FirstStop b.cursor (standings ws) k
  book_stops k e = stop_some (standings ws) b.cursor inside k (sym e)

  pub book_deed : (d : Deed) (label : ℕ) (s : Standing) → label < b.plan.labels → false ≡ is_high d → s ≡ standing (get_or ws label 0) → refusal (rows_at b ws (asked d (length ws) label)) ≡ refusal (against d s label)
  book_deed d label s l h r =
      at_deed b.plan.labels b.cursor (standings ws) (length ws) fit d label (lt-leb b.plan.labels label l) (sym h)
      ∙ ap (λ x. refusal (against d x label)) (stands_word ws label ∙ sym r)
