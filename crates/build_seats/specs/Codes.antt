-- An injective encoding of the data under a shared host's lock: the host, and the number of events of each build.
use Rattle.std.specs.Prelude.{ℕ, List, refl}
use Rattle.std.specs.Coded.{Coded, code_by, coded×, coded_ℕ, coded_list}
use Rattle.host_ledger.specs.Codes.{host_code}
use Rattle.host_ledger.specs.View.{HostView}
use Rattle.build_seats.specs.Kept.{KeptView}

abbrev pub kept_code : Coded KeptView
kept_code = code_by (HostView × List ℕ) (coded× host_code (coded_list coded_ℕ)) (λ k. (k.host, k.books)) (λ p. record { host = p.0; books = p.1 }) (λ _. refl)
