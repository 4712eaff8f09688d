use Rattle.strip.specs.Labels.{fine_at}
use Rattle.strip.proofs.labels.Labels.cell_at.Goals as goal

pub returns : goal.returns
unfolding fine_at
returns g c = cc
