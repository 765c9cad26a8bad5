-- An injective encoding of an RMM's view: the numbers of VMIDs and of auxiliary granules, the machine, and which
-- granules are free.
use Rattle.std.specs.Prelude.{ℕ, Bool, List, refl}
use Rattle.std.specs.Coded.{Coded, code_by, coded×, coded_ℕ, coded_bool, coded_list}
use Rattle.realm_model.specs.Machine.{Machine}
use Rattle.realm_model.specs.Codes.{machine_code}
use Rattle.rmi_monitor.specs.View.{MonitorView}

abbrev pub monitor_code : Coded MonitorView
monitor_code = code_by (ℕ × (ℕ × (Machine × List Bool))) (coded× coded_ℕ (coded× coded_ℕ (coded× machine_code (coded_list coded_bool))))
    (λ m. (m.vmids, (m.aux, (m.machine, m.free)))) (λ p. record { vmids = p.0; aux = p.1.0; machine = p.1.1.0; free = p.1.1.1 }) (λ _. refl)
