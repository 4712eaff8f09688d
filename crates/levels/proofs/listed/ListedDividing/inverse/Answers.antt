use Rattle.levels.specs.Inverse.{inverts}
use Rattle.levels.specs.Modular.{listed_laws}
use Rattle.levels.specs.declared.listed.TheConstants.{INVERSES}
use Rattle.levels.proofs.Stored.{inverse_right, listed_units}
use Rattle.levels.proofs.listed.ListedDividing.inverse.Goals as goal

pub returns : goal.returns
returns c =
    let s = c.args.self.now.count in
    let h = c.args.self.now.served in
    record {
      value = inverse_right s h INVERSES _ _ c.args.a c.from.ensures c.row.ensures.value tt;
      unit = inverts (listed_laws s h) (listed_units s h) c.args.a;
    }
