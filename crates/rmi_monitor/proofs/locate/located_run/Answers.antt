use Rattle.rmi_monitor.proofs.Located.{none_located}
use Rattle.rmi_monitor.proofs.TableRipas.{no_run, run_located}
use Rattle.rmi_monitor.proofs.locate.located_run.Goals as goal

pub returns-in_err-first : goal.returns-in_err-first
returns-in_err-first c =
    none_located _ c.from_residual.result c.from_residual.ensures (no_run c.args.realm.now c.args.ipa c.args.count c.root.result c.root.ensures c.in_err-first.ensures)

pub returns : goal.returns
returns c = record {
  some =
      run_located c.args.realm.now c.args.ipa c.args.count c.root.result c.root.ensures c.args.rd c.tables_of.result c.tables_of.ensures
      c.in_ok-first.first c.in_ok-first.ensures;
  none = tt;
}
