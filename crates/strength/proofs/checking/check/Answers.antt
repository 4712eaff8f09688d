use Rattle.std.proofs.Common.{◌≡◌, ℕ, ◌/◌, ◌^◌, ◌≤◌, map, length, None, sym, ap, ◌∙◌, subst, arith}
use native.Mathlib.Nat.{one-le-pow}
use Rattle.strength.specs.declared.claim.Verdict.TheVariants.{Yes, No}
use Rattle.strength.specs.Steps.{Found, Search}
use Rattle.strength.specs.Verdicts.{Right}
use Rattle.strength.proofs.Deciding.{right_yes, right_no}
use Rattle.strength.proofs.checking.check.Goals as goal

pub nonzero_div-result : goal.nonzero_div-result
nonzero_div-result g c =
    let Q = c.args.claim in
    let A = c.in_ok-checked.checked.accepted in
    let is = c.in_ok-checked.ensures.1 in
    let some : 1 ≤ Q.levels ^ Q.strength = one-le-pow Q.strength Q.levels (omega (arith, A.several, ap (λ q. q.levels) is.0)) in
    omega (arith, is.2)

pub returns-in-Some-clause-answer : goal.returns-in-Some-clause-answer
returns-in-Some-clause-answer g c =
    let checked = c.in_ok-checked.checked in
    let accepted = c.in_ok-checked.ensures in
    let f = c.in-Some.failure in (
      accepted.0,
      subst (λ Q. Right Q (map g.C.Levelled.level c.args.table.now) (No f)) accepted.1.0
          (subst (λ xs. Right checked.claim (map g.C.Levelled.level xs) (No f)) accepted.1.1
          (right_no checked.accepted f (subst (λ cs. Found checked.claim (map g.C.Levelled.level checked.table.now) cs 0 f) c.new.ensures c.in-Some.ensures.answer))),
    )

pub returns-in-None-clause-answer : goal.returns-in-None-clause-answer
returns-in-None-clause-answer g c =
    let checked = c.in_ok-checked.checked in
    let accepted = c.in_ok-checked.ensures in
    let n : ℕ = length c.fill.new.self in
    let index : ℕ = c.args.claim.runs / n in
    let long : n ≡ c.args.claim.levels ^ c.args.claim.strength = omega (arith, accepted.1.2) in
    let is : index ≡ checked.claim.runs / checked.claim.levels ^ checked.claim.strength = ap (λ z. c.args.claim.runs / z) long ∙ sym (ap (λ Q. Q.runs / Q.levels ^ Q.strength) accepted.1.0) in (
      accepted.0,
      subst (λ Q. Right Q (map g.C.Levelled.level c.args.table.now) (Yes index)) accepted.1.0
          (subst (λ xs. Right checked.claim (map g.C.Levelled.level xs) (Yes index)) accepted.1.1
          (right_yes checked.accepted index is (subst (λ cs. Search checked.claim (map g.C.Levelled.level checked.table.now) cs 0 None) c.new.ensures c.in-None.ensures.answer))),
    )
