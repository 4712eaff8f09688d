use Rattle.std.proofs.Common.{◌≡◌, ℕ, map, Option, Some, None, Ok, sym, subst, arith, rules}
use Rattle.std.specs.Option.{MatchOption, ok_or}
use Rattle.strength.specs.declared.fault.CheckerFault.TheVariants.{Size}
use lib.ListN.{length-map}
use Rattle.strength.proofs.Refusing.{cell_refused, none_refused, accepted}
use Rattle.strength.proofs.refuse.accept.Goals as goal

-- a power that there is keeps what is promised of it
power_fits : (r : Option ℕ) (n : ℕ) (none : Type 0) (right : ℕ → Type 0) → Ok n ≡ ok_or r Size → MatchOption r none right → right n
power_fits None n none right e m = absurd (cc)
power_fits (Some k) n none right e m = let is : n ≡ k = cc in subst right (sym is) m

pub returns-in-Some : goal.returns-in-Some
returns-in-Some g c =
    let long = length-map c.args.table.now g.C.Levelled.level in
    let few = power_fits c.power.result c.in_ok-combinations.combinations _ _ c.in_ok-combinations.ensures.value c.power.ensures in
    cell_refused c.args.claim (map g.C.Levelled.level c.args.table.now) c.args.counters (search rules) (omega arith) (omega (arith, few.0)) c.in-Some.k c.in-Some.ensures

pub invariant_of-result : goal.invariant_of-result
invariant_of-result g c =
    let long = length-map c.args.table.now g.C.Levelled.level in
    let few = power_fits c.power.result c.in_ok-combinations.combinations _ _ c.in_ok-combinations.ensures.value c.power.ensures in
    record { accepted = accepted c.args.claim (map g.C.Levelled.level c.args.table.now) c.args.counters (search rules) (omega arith) (omega (arith, few.0)) c.in-None.ensures }

pub returns-in-None : goal.returns-in-None
returns-in-None g c =
    let long = length-map c.args.table.now g.C.Levelled.level in
    let few = power_fits c.power.result c.in_ok-combinations.combinations _ _ c.in_ok-combinations.ensures.value c.power.ensures in
    (none_refused c.args.claim (map g.C.Levelled.level c.args.table.now) c.args.counters (search rules) (omega arith) (omega (arith, few.0)) c.in-None.ensures, search rules)
