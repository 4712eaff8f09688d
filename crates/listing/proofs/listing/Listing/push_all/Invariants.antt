use Rattle.std.proofs.Common.{◌≡◌, ◌++◌, string_bytes}
use Rattle.levels.specs.Choice.{meaning}
use Rattle.shuffle.specs.Choice.{ways_of}
use Rattle.listing.specs.Lines.{rows_text}
use Rattle.listing.proofs.listing.Listing.push_all.Given as goal

-- the lines so far are there
abbrev pub invariant-loop-label : goal.invariant-loop-label
invariant-loop-label l =
    string_bytes l.out ≡ string_bytes l.initial.out ++ rows_text l.self.strip.plan (meaning l.self.strip.ring) (ways_of l.self.strip.shuffler) l.label
