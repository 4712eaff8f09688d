use Rattle.std.proofs.Common.{◌≡◌, ℕ, ◌<◌, Bool, eqb, ltb, leb, List, length, get_or, take, Option, Some, None, sym, ap, ◌∙◌, subst, zero-add, arith}
use Rattle.std.specs.List.{list_any, enumerate_from}
use Rattle.std.proofs.lemmas.List.{get_or-take, length-take-le}
use Rattle.std.proofs.lemmas.List.FromFn.{length-enumerate_from, get_or-enumerate_from}
use Rattle.std.specs.List.{position}
use Rattle.std.proofs.lemmas.Bool.Decides.{nat_tests}
use Rattle.refusal.specs.Table.{first, Sought}
use Rattle.refusal.proofs.Sought.{sought_by_position, any_sought}
use Rattle.strip.specs.declared.wish.Wish.{Wish}
use Rattle.strip.specs.Names.{Chosen, Named}
use Rattle.strip.specs.Wishes.{idle, factor_of, level_of, repeats}
use Rattle.strip.proofs.Choosing.{chosen}
use Rattle.strip.proofs.Parts.{by_parts}
use Rattle.strip.proofs.cell.Strip.find.Goals as goal

factor_sought : (d : ℕ) (ws : List Wish) (r : Option ℕ) → r ≡ position (λ w. leb d w.factor) ws → Sought (λ k. leb d (factor_of ws k)) (length ws) r
factor_sought d ws r e = sought_by_position (λ w. leb d w.factor) (λ k. leb d (factor_of ws k)) ws idle (λ k h. (λ i. leb d (factor_of ws k))) r e

level_sought : (s : ℕ) (ws : List Wish) (r : Option ℕ) → r ≡ position (λ w. leb s w.level) ws → Sought (λ k. leb s (level_of ws k)) (length ws) r
level_sought s ws r e = sought_by_position (λ w. leb s w.level) (λ k. leb s (level_of ws k)) ws idle (λ k h. (λ i. leb s (level_of ws k))) r e

-- whether a wish before the k-th names its factor
named : (ws : List Wish) (k : ℕ) → k < length ws → repeats ws k ≡ list_any (λ w. eqb w.factor (factor_of ws k)) (take k ws)
named ws k h =
    let same : ℕ → Bool = λ m. eqb (factor_of ws m) (factor_of ws k) in
    let long : length (take k ws) ≡ k = length-take-le k ws (omega arith) in
    sym (any_sought (λ w. eqb w.factor (factor_of ws k)) same (take k ws) idle
    (λ m l. ap (λ w. eqb w.factor (factor_of ws k)) (sym (get_or-take k ws m idle (omega (arith, long)))))
    ∙ ap (λ n. ltb (first same n) n) long)

abbrev again : List Wish → ℕ × Wish → Bool
again ws p = list_any (λ w. eqb w.factor p.1.factor) (take p.0 ws)

repeat_sought : (ws : List Wish) (r : Option ℕ) → r ≡ position (again ws) (enumerate_from 0 ws) → Sought (repeats ws) (length ws) r
repeat_sought ws r e =
    subst (λ n. Sought (repeats ws) n r) (length-enumerate_from 0 ws)
    (sought_by_position (again ws) (repeats ws) (enumerate_from 0 ws) (0, idle)
    (λ k h. let low : k < length ws = omega (arith, length-enumerate_from 0 ws) in
    named ws k low ∙ ap (again ws) (sym (get_or-enumerate_from 0 ws k (0, idle) low ∙ ap (λ n. (n, get_or ws k idle)) (zero-add k)))) r e)

pub label_meeting-requires : goal.label_meeting-requires
label_meeting-requires g c =
    let P = c.args.self.now.plan in
    let ws = c.args.wishes.now in
    let factors = factor_sought P.factors ws None c.in_default.ensures in
    let levels = level_sought P.levels ws None c.in_default-unknown_level.ensures in
    record { chosen = subst (λ p. Chosen p ws) (sym c.in_ok-labels.ensures.1.0) (chosen P ws factors levels c.if-wishes-self.false (repeat_sought ws None c.in_default-repeated.ensures)) }

pub returns-in-Some : goal.returns-in-Some
returns-in-Some g c =
    let factor = factor_sought c.args.self.now.plan.factors c.args.wishes.now (Some c.in-Some.k) c.in-Some.ensures in
    grind (arith, nat_tests, factor)

pub returns-in-Some-unknown_level : goal.returns-in-Some-unknown_level
returns-in-Some-unknown_level g c =
    let P = c.args.self.now.plan in
    let factors = factor_sought P.factors c.args.wishes.now None c.in_default.ensures in
    let level = level_sought P.levels c.args.wishes.now (Some c.in-Some-unknown_level.k) c.in-Some-unknown_level.ensures in
    grind (arith, nat_tests, factors, level)

pub returns-then-wishes-self : goal.returns-then-wishes-self
returns-then-wishes-self g c =
    let P = c.args.self.now.plan in
    let factors = factor_sought P.factors c.args.wishes.now None c.in_default.ensures in
    let levels = level_sought P.levels c.args.wishes.now None c.in_default-unknown_level.ensures in
    grind (arith, nat_tests, factors, levels)

pub returns-in-Some-repeated : goal.returns-in-Some-repeated
returns-in-Some-repeated g c =
    let P = c.args.self.now.plan in
    let again = repeat_sought c.args.wishes.now (Some c.in-Some-repeated.k) c.in-Some-repeated.ensures in
    let factors = factor_sought P.factors c.args.wishes.now None c.in_default.ensures in
    let levels = level_sought P.levels c.args.wishes.now None c.in_default-unknown_level.ensures in
    grind (arith, nat_tests, factors, levels, again)

pub returns : goal.returns
returns g c =
    let S = c.args.self.now in
    let L = c.in_ok-labels.labels in
    let ws = c.args.wishes.now in
    let factors = factor_sought S.plan.factors ws None c.in_default.ensures in
    let levels = level_sought S.plan.levels ws None c.in_default-unknown_level.ensures in
    let apart = repeat_sought ws None c.in_default-repeated.ensures in (
      grind (arith, nat_tests, factors, levels, apart),
      by_parts (λ p r s. Named p (g.R.Ring.ring r) (g.S.Shuffler.ways s) ws c.label_meeting.result)
          S.plan L.plan S.ring L.ring.now S.shuffler L.shuffler.now c.in_ok-labels.ensures.1 c.label_meeting.ensures,
    )
