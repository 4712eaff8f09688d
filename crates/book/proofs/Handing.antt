-- What is handed in at a call of a row: the N words where it names N, and else memory of another length. Assumes nothing.
use Rattle.std.proofs.Common.{◌≡◌, ℕ, ◌<◌, ◌≤◌, cond, leb, List, ◌++◌, length, take, drop, sym, ap, ◌∙◌, subst, ⊎_elim, append-nil, arith, take-append-drop, Err, Result}
use Rattle.std.proofs.lemmas.List.{take_all, drop_all, length-take-le}
use Rattle.std.proofs.lemmas.Bool.{cases_eq, cond_both, cond-true, le-leb, leb-true, ne_eqb}
use Rattle.refusal.specs.declared.Slip.{Slip}
use Rattle.book.specs.declared.shape.Book.{Book}
use Rattle.book.specs.declared.calls.Call.{Call}
use Rattle.book.specs.declared.calls.Answer.{Answer}
use Rattle.book.specs.declared.row.Next.{Next}
use Rattle.book.specs.declared.row.Next.TheVariants.{Going}
use Rattle.book.specs.Standings.{standings}
use Rattle.book.specs.Faults.{slip_of}
use Rattle.book.specs.Calls.{len_of}
use Rattle.book.specs.Plain.{Plain}
use Rattle.book.specs.Turns.{Holds, Turned, Acts}
use Rattle.book.proofs.Simulation.{shows_length, unfit_table, refused_turn}

module _ (n named : ℕ) (ws : List ℕ) (long : length ws ≡ n) (some : 0 < n) where
  pub whole : named ≡ n → cond (leb named (length ws)) named 0 ≡ length ws
  whole e = cond-true _ _ _ (le-leb named (length ws) (omega arith)) ∙ e ∙ sym long

  pub other : (named ≡ n → ⊥) → cond (leb named (length ws)) named 0 ≡ n → ⊥
  other ne = cond_both (leb named (length ws)) named 0 (λ x. x ≡ n → ⊥) (λ e. ne) (λ e z. omega arith)

module _ (b : Book) (ws : List ℕ) (call : Call) (l : ℕ) (a : Result Answer Slip) (next : Next) (vs : List ℕ) (is : l ≡ cond (leb (len_of call) (length ws)) (len_of call) 0) (acts : Acts b (take l ws) call a next vs) (p : Plain) (h : Holds b ws p) where
  long : length ws ≡ b.plan.labels
  long = shows_length ws p h.words ∙ h.sized.labels

  some : 0 < b.plan.labels
  some = omega (arith, h.sized.cursor)

  all_handed : len_of call ≡ b.plan.labels → Turned b.plan p call a next (vs ++ drop l ws)
  all_handed e =
      let full = is ∙ whole b.plan.labels (len_of call) ws long some e in
      let front : take l ws ≡ ws = take_all l ws (omega arith) in
      let none : vs ++ drop l ws ≡ vs = ap (λ r. vs ++ r) (drop_all l ws (omega arith)) ∙ append-nil vs in
      subst (Turned b.plan p call a next) (sym none) (acts.follows p (subst (λ x. Holds b x p) (sym front) h) e)

  none_handed : (len_of call ≡ b.plan.labels → ⊥) → Turned b.plan p call a next (vs ++ drop l ws)
  none_handed ne =
      let part = other b.plan.labels (len_of call) ws long some ne in
      let within : l ≤ length ws = subst (λ x. x ≤ length ws) (sym is) (cond_both (leb (len_of call) (length ws)) (len_of call) 0 (λ x. x ≤ length ws) (λ e. leb-true _ _ e) (λ e. omega arith)) in
      let u = acts.unfit (λ e. part (sym is ∙ sym (length-take-le l ws within) ∙ e)) in
      let back : vs ++ drop l ws ≡ ws = ap (λ x. x ++ drop l ws) u.words ∙ take-append-drop l ws in
      let stays = refused_turn b ws p h call (slip_of 6 0) u.next.0 (unfit_table b.plan.labels b.cursor (standings ws) call (ne_eqb _ _ ne)) u.next.2 u.next.3 in
      subst (λ x. Turned b.plan p call x next (vs ++ drop l ws)) (sym u.answer)
      (subst (λ x. Turned b.plan p call (Err (slip_of 6 0)) x (vs ++ drop l ws)) (sym u.next.1)
      (subst (λ x. Turned b.plan p call (Err (slip_of 6 0)) (Going u.next.0) x) (sym back) stays))

  pub handed_turn : Turned b.plan p call a next (vs ++ drop l ws)
  handed_turn = ⊎_elim all_handed none_handed (cases_eq (len_of call) b.plan.labels)
