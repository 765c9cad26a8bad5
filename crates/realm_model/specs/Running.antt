-- The running RECs of a realm, and their number. RMM 1.0, REC attributes: the state of a REC.
use Rattle.std.specs.Prelude.{◌≡◌, ◌↔◌, ℕ, filter, length, Bool, false, not, Option, Some, None}
use Rattle.std.specs.List.{range_with_len}
use Rattle.std.specs.FinMap.{get}
use Rattle.realm_model.specs.declared.act.Act.{Act}
use Rattle.realm_model.specs.declared.act.Act.TheVariants.{Rec}
use Rattle.realm_model.specs.Machine.{Seen, RecRow}
use Rattle.realm_model.specs.Command.Check.{is_ready}
use Rattle.realm_model.specs.Outcome.{realm_is}
use Rattle.realm_model.specs.World.{World, realm_of}

-- the REC exists and is RUNNING
abbrev pub is_rec_running : Option RecRow → Bool
is_rec_running None = false
is_rec_running (Some rec) = not (is_ready rec.state)

-- the realm has a REC with this number, and it is RUNNING
abbrev pub rec_runs : Option Seen → ℕ → Bool
rec_runs realm number = realm_is realm (λ rd row. is_rec_running (get row.recs number))

-- the operation created a REC, and that REC is RUNNING
abbrev pub is_running : Option Seen → Act → Bool
is_running realm (Rec granule auxiliaries number) = rec_runs realm number
is_running realm _ = false

-- the number of a realm's next REC, or 0 if there is no realm
abbrev pub next_number : Option Seen → ℕ
next_number None = 0
next_number (Some rd) = elim rd.cell.descriptor [ Some realm ↦ realm.next | None ↦ 0 ]

-- the number of RUNNING RECs in a realm; only REC numbers below the next one are counted
unfoldable pub running_count : Option Seen → ℕ
running_count realm = length (filter (rec_runs realm) (range_with_len 0 (next_number realm)))

-- no REC of the realm runs
abbrev pub IsAtRest : Option Seen → Type 0
IsAtRest realm = running_count realm ≡ 0

-- a build's realm is at rest exactly when no REC of the realm, whatever its number, is RUNNING
abbrev pub RestIsOfAll : World → ℕ → Type 0
RestIsOfAll world build =
    IsAtRest (realm_of build world) ↔ ((number : ℕ) → rec_runs (realm_of build world) number ≡ false)
