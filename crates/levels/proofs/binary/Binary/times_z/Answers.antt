use Rattle.std.proofs.Common.{◌≡◌, ◌<◌, subst, sym}
use Rattle.levels.specs.Polynomials.{modulus_of, remainder}
use Rattle.levels.specs.PolynomialRing.{shifted, shifted_below}
use Rattle.levels.proofs.binary.Binary.times_z.Goals as goal

pub returns : goal.returns
returns c =
    let s = c.args.self.now.count in
    let h = c.args.self.now.served in
    let a = c.args.a in
    let step = shifted s h a c.requires in
    let value : c.min.result ≡ remainder (modulus_of s) a 2 = cc in
    record { value = value; below = subst (λ z. z < s) (sym value) (shifted_below s h a c.requires) }
