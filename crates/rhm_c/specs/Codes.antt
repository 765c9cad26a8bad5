-- An injective encoding of a host with the physical addresses of its granules.
use Rattle.std.specs.Prelude.{ℕ, refl}
use Rattle.std.specs.Coded.{Coded, code_by, coded×, coded_ℕ}
use Rattle.host_ledger.specs.Codes.{host_code}
use Rattle.host_ledger.specs.View.{HostView}
use Rattle.rhm_c.specs.declared.placed_host.PlacedHost.{PlacedHost}

abbrev pub placed_host_code : Coded PlacedHost
placed_host_code = code_by (ℕ × (ℕ × HostView)) (coded× coded_ℕ (coded× coded_ℕ host_code))
    (λ p. (p.frame.base, (p.frame.pages, p.host))) (λ c. record { frame = record { base = c.0; pages = c.1.0 }; host = c.1.1 }) (λ _. refl)
