-- An injective encoding of the view of a host.
use Rattle.std.specs.Prelude.{ℕ, List, Bool, Option, refl}
use Rattle.std.specs.Coded.{Coded, code_by, coded×, coded_ℕ, coded_list, coded_bool, coded_option}
use Rattle.host_ledger.specs.contracts.mark.Mark as mark
use Rattle.host_ledger.specs.declared.mark.Mark.{Mark}
use Rattle.realm_model.specs.contracts.act.Event as event
use Rattle.realm_model.specs.declared.act.Event.{Event}
use Rattle.realm_model.specs.Machine.{Limits}
use Rattle.host_ledger.specs.View.{HostView}

abbrev pub limits_code : Coded Limits
limits_code = code_by (ℕ × (ℕ × (ℕ × ℕ))) (coded× coded_ℕ (coded× coded_ℕ (coded× coded_ℕ coded_ℕ)))
    (λ l. (l.pages, (l.vmids, (l.aux, l.builds)))) (λ p. record { pages = p.0; vmids = p.1.0; aux = p.1.1.0; builds = p.1.1.1 }) (λ _. refl)

abbrev pub host_code : Coded HostView
host_code = code_by (Limits × (ℕ × (List Event × (List Bool × List (Option Mark)))))
    (coded× limits_code (coded× coded_ℕ (coded× (coded_list event.the_row.coded) (coded× (coded_list coded_bool) (coded_list (coded_option mark.the_row.coded))))))
    (λ h. (h.limits, (h.capacity, (h.history, (h.aborting, h.marks)))))
    (λ p. record { limits = p.0; capacity = p.1.0; history = p.1.1.0; aborting = p.1.1.1.0; marks = p.1.1.1.1 }) (λ _. refl)
