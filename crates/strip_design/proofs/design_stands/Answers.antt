use Rattle.std.proofs.Common.{[], ◌∷◌, Ok, Err, Result}
use Rattle.refusal.specs.Table.{Answers}
use Rattle.levels.specs.Rings.{Arithmetic, RingLaws}
use Rattle.shuffle.specs.Ways.{Ways, ShuffleLaws}
use Rattle.plan.specs.declared.shape.Plan.{Plan}
use Rattle.strip.specs.declared.fault.StripFault.{StripFault}
use Rattle.strip.specs.Faults.{strip_slip}
use Rattle.strip.specs.Rows.{count_row}
use Rattle.strip.specs.Names.{Exact}
use Rattle.strip_design.specs.Strips.{StripDesign}
use Rattle.strip_design.proofs.Runs.{count_same, strip_design}
use Rattle.strip_design.proofs.design_stands.Goals as goal

told : (P : Plan) (R : Arithmetic) (W : Ways) → RingLaws R → ShuffleLaws W → (r : Result (Unit {0}) StripFault)
    → Answers strip_slip (count_row P R ∷ []) (λ _. Exact P R W) r → Answers strip_slip (count_row P R ∷ []) (λ _. StripDesign P R W) r
told P R W L M (Ok u) a = (a.0, strip_design P R W L M (count_same P R a.0) a.1)
told P R W L M (Err f) a = a

pub returns : goal.returns
returns g c =
    let S = c.args.strip.now in
    told S.plan (g.R.Ring.ring S.ring) (g.S.Shuffler.ways S.shuffler) (g.met.R.Ring.laws S.ring) (g.met.S.Shuffler.shuffles S.shuffler) c.orthogonal.result c.orthogonal.ensures
