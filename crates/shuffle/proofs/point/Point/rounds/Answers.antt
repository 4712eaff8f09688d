use Rattle.std.proofs.Common.{◌-◌, ap, arith, pow_pos}
use lib.Count.{count_leading_zeros}
use Rattle.shuffle.specs.Hash.{mask}
use Rattle.shuffle.specs.Masks.{bits_few, one_shifted}
use Rattle.shuffle.proofs.point.Point.rounds.Goals as goal

pub overflow_shl-result : goal.overflow_shl-result
overflow_shl-result c = omega (arith, bits_few c.args.self.size (omega arith) c.args.self.few)

pub overflow_sub-result : goal.overflow_sub-result
overflow_sub-result c = rw (one_shifted c.args.self.size (omega arith) c.args.self.few) (pow_pos (32 - count_leading_zeros 32 (c.args.self.size - 1)))

pub invariant_of-result : goal.invariant_of-result
unfolding mask
invariant_of-result c =
    record {
      keyed = c.args.self.keyed;
      some = omega arith;
      few = c.args.self.few;
      masked = ap (λ z. z - 1) (one_shifted c.args.self.size (omega arith) c.args.self.few);
    }
