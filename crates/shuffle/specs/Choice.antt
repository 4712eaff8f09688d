-- The ways of a shuffler that is chosen while the program runs.
-- Assumes nothing.
use Rattle.shuffle.specs.Ways.{Ways}
use Rattle.shuffle.specs.Keyed.{turn_ways}
use Rattle.shuffle.specs.Hash.{hash_ways}
use Rattle.shuffle.specs.declared.any.AnyShuffler.{AnyShuffler}
use Rattle.shuffle.specs.declared.any.AnyShuffler.TheVariants.{Turn, Hash}

-- the turn's or the hash's ways, by the choice
abbrev pub ways_of : AnyShuffler → Ways
ways_of Turn = turn_ways
ways_of Hash = hash_ways
