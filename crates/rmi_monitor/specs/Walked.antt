-- The ends of RTT walks in the realms of a machine. RMM 1.0, RTT walk.
use Rattle.std.specs.Prelude.{ℕ, Option, None, option_and_then, if◌then◌else◌}
use Rattle.granule_addr.specs.Ipa.{is_in_space}
use Rattle.realm_model.specs.Rows.{Walk, walk}
use Rattle.realm_model.specs.Machine.{Machine, RealmRow, cell_at}

-- the end of the walk of an IPA granule towards a level, if the IPA granule is in the realm's address space
abbrev pub walk_of : RealmRow → ℕ → ℕ → Option Walk
walk_of realm ipa level = if is_in_space ipa realm.root.width then walk realm.rows ipa level else None

-- the end of an IPA granule's walk in the realm with RD `rd`; none if there is no such realm, or if its address space
-- lacks the IPA granule
abbrev pub walk_in : Machine → ℕ → ℕ → ℕ → Option Walk
walk_in machine rd ipa level = option_and_then (λ realm. walk_of realm ipa level) (cell_at machine rd).descriptor
