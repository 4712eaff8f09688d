use Rattle.shuffle.specs.Inverses.{back1, back2, back3, back4, back5, unround}
use Rattle.shuffle.specs.Hashes.{unround_is}
use Rattle.shuffle.proofs.rounds.Rounds.unround.Goals as goal

pub returns : goal.returns
unfolding back1 back2 back3 back4 back5 unround
returns c =
    let rounds = c.args.self in
    let undone = unround_is rounds.key rounds.size rounds.keyed rounds.some rounds.few c.args.i (rw rounds.masked at c.requires) in
    cc
