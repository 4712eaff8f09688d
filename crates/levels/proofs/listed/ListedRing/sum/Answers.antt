use Rattle.std.proofs.Common.{sym, ◌∙◌}
use Rattle.levels.specs.Residues.{residues}
use Rattle.levels.specs.Modular.{listed_laws}
use Rattle.levels.proofs.Stored.{cell_right}
use Rattle.levels.proofs.listed.ListedRing.sum.Goals as goal

pub returns : goal.returns
returns c =
    let s = c.args.self.now.count in
    let h = c.args.self.now.served in
    let read = cell_right s h (λ s. (residues s).sum) _ _ _ _ c.args.a c.args.b c.cell.ensures.value c.row.ensures.value c.code.ensures.value tt in
    record { value = read ∙ sym ((listed_laws s h).add-mod c.args.a c.args.b) }
