use Rattle.strip.specs.Rows.{Written}
use Rattle.strip.proofs.labels.Labels.write_rows.Given as goal

abbrev pub invariant-loop-k : goal.invariant-loop-k
invariant-loop-k g l = Written l.self.plan (g.R.Ring.ring l.self.ring.now) (g.S.Shuffler.ways l.self.shuffler.now) l.first l.k 0 l.initial.part l.part
