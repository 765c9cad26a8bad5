-- The granules that operations name, and pairs of an operation and its reverse.
use Rattle.std.specs.Prelude.{ℕ, ◌^◌, List, [], ◌∷◌, Bool, true, false, Option, Some, None, is_some}
use Rattle.std.specs.List.{range_with_len}
use Rattle.granule_addr.specs.Root.{starting_tables}
use Rattle.realm_model.specs.declared.act.Act.{Act}
use Rattle.realm_model.specs.declared.act.Act.TheVariants.{Take, UnTake, Fill, Peek, Delegate, Undelegate, Realm, UnRealm, Activate}
use Rattle.realm_model.specs.declared.act.Act.TheVariants.{Rtt, UnRtt, Ripas, Data, Unknown, UnData, Rec, UnRec, Enter, Exit, Poke}

-- the granules of the block with the given order and first granule, the lowest first
abbrev pub block : ℕ → ℕ → List ℕ
block order first = range_with_len first (2 ^ order)

-- the granules that an operation names
unfoldable pub named : Act → List ℕ
named (Take order first) = block order first
named (UnTake order first) = block order first
named (Fill granule value) = granule ∷ []
named (Peek granule offset byte) = granule ∷ []
named (Delegate granule) = granule ∷ []
named (Undelegate granule) = granule ∷ []
named (Realm rd root vmid) = rd ∷ starting_tables root
named (UnRealm rd root vmid) = rd ∷ starting_tables root
named Activate = []
named (Rtt granule ipa level) = granule ∷ []
named (UnRtt granule ipa level) = granule ∷ []
named (Ripas ipa count) = []
named (Data granule ipa source) = granule ∷ source ∷ []
named (Unknown granule ipa) = granule ∷ []
named (UnData granule ipa) = granule ∷ []
named (Rec granule auxiliaries number) = granule ∷ auxiliaries.items
named (UnRec granule auxiliaries number) = granule ∷ auxiliaries.items
named (Enter number) = []
named (Exit number) = []
named (Poke number ipa offset value) = []

-- the operation neither leases a block nor gives one back, so it is a command
abbrev pub is_command : Act → Bool
is_command (Take order first) = false
is_command (UnTake order first) = false
is_command _ = true

-- the lease that an operation's granules must have before it: none for a Take, and otherwise a lease to its build
abbrev pub holder : ℕ → Act → Option ℕ
holder build (Take order first) = None
holder build _ = Some build

-- ---- pairs

-- The reverse of an operation, or None if it has none. Data and Unknown have the same reverse.
unfoldable pub reverse_of : Act → Option Act
reverse_of (Take order first) = Some (UnTake order first)
reverse_of (Delegate granule) = Some (Undelegate granule)
reverse_of (Realm rd root vmid) = Some (UnRealm rd root vmid)
reverse_of (Rtt granule ipa level) = Some (UnRtt granule ipa level)
reverse_of (Data granule ipa source) = Some (UnData granule ipa)
reverse_of (Unknown granule ipa) = Some (UnData granule ipa)
reverse_of (Rec granule auxiliaries number) = Some (UnRec granule auxiliaries number)
reverse_of _ = None

-- the operation has a reverse
abbrev pub is_paired : Act → Bool
is_paired act = is_some (reverse_of act)

-- the operation is a reverse operation, as UnTake is of Take
unfoldable pub is_reverse : Act → Bool
is_reverse (UnTake order first) = true
is_reverse (Undelegate granule) = true
is_reverse (UnRealm rd root vmid) = true
is_reverse (UnRtt granule ipa level) = true
is_reverse (UnData granule ipa) = true
is_reverse (UnRec granule auxiliaries number) = true
is_reverse _ = false
