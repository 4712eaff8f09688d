use Rattle.std.proofs.Common.{◌≡◌, ◌%◌, sym, refl, ap, ◌∙◌, subst, arith}
use Rattle.levels.specs.Polynomials.{Remainder, modulus_of, remainder}
use Rattle.levels.specs.PolynomialsLemmas.{term, partial, term_more, partial_add, partial_skip}
use Rattle.levels.specs.PolynomialRing.{below, shifted, times_product, product_stands}
use Rattle.levels.proofs.binary.BinaryRing.product.Goals as goal
use Rattle.levels.proofs.binary.BinaryRing.product.Goals.{then-factor-k-eq1, else-factor-k-eq1}

pub loop-k-init : goal.loop-k-init
unfolding term partial
loop-k-init c = record { term = refl; sum = refl; below = below c.args.self.now.count c.args.self.now.served c.args.a }

pub loop-k-preserved : goal.loop-k-preserved
loop-k-preserved c =
    let s = c.args.self.now.count in
    let m = modulus_of s in
    let a = c.args.a % s in
    let b = c.args.b % s in
    let k = c.loop-k.k in
    let turned = shifted s c.args.self.now.served c.loop-k.term c.loop-k.invariant.below in
    let more = term_more m a k in
    record {
      term = cc;
      sum = elim c.if-factor-k-eq1.branch [
        | then-factor-k-eq1 w ↦ let added = partial_add m a b k w.if-factor-k-eq1.true in cc
        | else-factor-k-eq1 w ↦ let skipped = partial_skip m a b k w.if-factor-k-eq1.false in cc
      ];
      below = c.times_z-term.ensures.below;
    }

pub returns : goal.returns
returns c =
    let s = c.args.self.now.count in
    let h = c.args.self.now.served in
    let m = modulus_of s in
    let a = c.args.a % s in
    let b = c.args.b % s in
    let done : c.loop-k.k ≡ 4 = omega arith in
    let value : c.loop-k.sum ≡ remainder m a b = c.loop-k.invariant.sum ∙ ap (partial m a b) done ∙ times_product s h c.args.a c.args.b in
    record { value = value; remainder = subst (Remainder m a b) (sym value) (product_stands s h c.args.a c.args.b) }
