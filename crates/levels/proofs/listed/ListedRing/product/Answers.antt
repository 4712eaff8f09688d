use Rattle.levels.specs.Residues.{residues}
use Rattle.levels.specs.Modular.{listed_laws}
use Rattle.levels.specs.declared.listed.TheConstants.{PRODUCTS}
use Rattle.levels.proofs.Stored.{cell_right}
use Rattle.levels.proofs.listed.ListedRing.product.Goals as goal

pub returns : goal.returns
returns c =
    let s = c.args.self.now.count in
    let h = c.args.self.now.served in
    let a = c.args.a in
    let b = c.args.b in
    record { value = cell_right s h (λ s. (residues s).product) PRODUCTS _ _ _ a b c.from.ensures c.row.ensures.value c.code.ensures.value tt ((listed_laws s h).mul_mod a b) }
