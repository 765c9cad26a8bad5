-- An injective encoding of the model's machines.
use Rattle.std.specs.Prelude.{ℕ, Bool, List, refl}
use Rattle.std.specs.Coded.{Coded, code_by, coded×, coded_ℕ, coded_bool, coded_list}
use Rattle.rmi_abi.specs.declared.settings.RmmSettings.{RmmSettings}
use Rattle.rmi_abi.specs.contracts.settings.RmmSettings as settings
use Rattle.rmm_model.specs.declared.granule.RmmGranule.{RmmGranule}
use Rattle.rmm_model.specs.contracts.granule.RmmGranule as granule
use Rattle.rmm_model.specs.Machine.{Machine}

abbrev pub machine_code : Coded Machine
machine_code = code_by (RmmSettings × (List RmmGranule × (List Bool × List (List ℕ))))
    (coded× settings.the_row.coded (coded× (coded_list granule.the_row.coded) (coded× (coded_list coded_bool) (coded_list (coded_list coded_ℕ)))))
    (λ m. (m.settings, (m.granules, (m.vmids, m.pages)))) (λ p. record { settings = p.0; granules = p.1.0; vmids = p.1.1.0; pages = p.1.1.1 }) (λ _. refl)
