use Rattle.std.proofs.Common.{length}
use Rattle.strip.proofs.find.+interpolate.Given as goal

abbrev pub decreases-interpolate : goal.decreases-interpolate
decreases-interpolate g l = length l.wishes.now
