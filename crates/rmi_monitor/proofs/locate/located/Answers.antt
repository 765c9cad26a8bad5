use Rattle.rmi_monitor.proofs.Located.{located, unprotected, none_located}
use Rattle.rmi_monitor.proofs.locate.located.Goals as goal

pub returns-in_err-ipa : goal.returns-in_err-ipa
returns-in_err-ipa c = none_located _ c.from_residual.result c.from_residual.ensures (unprotected c.args.realm.now c.args.ipa c.root.result c.root.ensures c.in_err-ipa.ensures)

pub returns : goal.returns
returns c = record {
  some =
      located c.args.realm.now c.args.ipa c.root.result c.root.ensures c.args.rd c.tables_of.result c.tables_of.ensures
      c.in_ok-ipa.ipa c.in_ok-ipa.ensures;
  none = tt;
}
