use Rattle.levels.specs.Polynomials.{multiplied, divided, degree, remainder}
use Rattle.levels.specs.Inverse.{inverts}
use Rattle.levels.specs.PolynomialRing.{polynomial_inverse, polynomial_laws, polynomial_units}
use Rattle.levels.specs.declared.binary.TheConstants.{INVERSES}
use Rattle.levels.proofs.binary.BinaryDividing.inverse.Goals as goal

pub returns : goal.returns
unfolding multiplied divided degree remainder
returns c =
    let s = c.args.self.now.count in
    let h = c.args.self.now.served in
    record {
      value = polynomial_inverse s h INVERSES _ c.args.a c.from.ensures tt;
      unit = inverts (polynomial_laws s h) (polynomial_units s h) c.args.a;
    }
