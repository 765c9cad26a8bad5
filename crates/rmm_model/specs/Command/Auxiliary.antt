-- The auxiliary granules of a REC, and the machine after they are wiped. RMM 1.0, REC attribute aux.
use Rattle.std.specs.Prelude.{ℕ, zero, suc, Option, Some, None}
use Rattle.granule_addr.specs.Page.{zero_page}
use Rattle.rmm_model.specs.declared.granule.RmmGranule.{RmmGranule}
use Rattle.rmm_model.specs.Machine.{Machine, page_in, with_granule, with_page}
use Rattle.rmm_model.specs.Rec.{aux_of}
use Rattle.rmm_model.specs.Walk.{granule_named}

-- the machine after a granule gets the given attributes and is wiped
abbrev pub with_wiped : Machine → ℕ → RmmGranule → Machine
with_wiped m granule kept = with_page (with_granule m granule kept) granule zero_page

abbrev pub with_wiped_if : Machine → Option ℕ → RmmGranule → Machine
with_wiped_if m (Some granule) kept = with_wiped m granule kept
with_wiped_if m None kept = m

-- the granule that is a REC's auxiliary granule k, or `None` if the address stored for it is outside the machine
abbrev pub aux_granule : Machine → ℕ → ℕ → Option ℕ
aux_granule m rec k = granule_named m (aux_of (page_in m rec) k)

-- the machine after the first k auxiliary granules of a REC get the given attributes and are wiped
unfoldable pub with_aux : Machine → ℕ → RmmGranule → ℕ → Machine
with_aux m rec kept zero = m
with_aux m rec kept (suc k) = with_wiped_if (with_aux m rec kept k) (aux_granule (with_aux m rec kept k) rec k) kept
