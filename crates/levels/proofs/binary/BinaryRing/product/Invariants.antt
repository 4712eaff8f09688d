use Rattle.std.proofs.Common.{◌≡◌, ◌%◌, ◌<◌}
use Rattle.levels.specs.Polynomials.{modulus_of}
use Rattle.levels.specs.PolynomialsLemmas.{term, partial}
use Rattle.levels.proofs.binary.BinaryRing.product.Given as goal

abbrev pub invariant-loop-k : goal.invariant-loop-k
invariant-loop-k l = record {
  term : l.term ≡ term (modulus_of l.self.count) (l.a % l.self.count) l.k;
  sum : l.sum ≡ partial (modulus_of l.self.count) (l.a % l.self.count) l.factor l.k;
  below : l.term < l.self.count;
}
