-- The pages that each command names, and the requirements of each command on its build.
use Rattle.std.specs.Prelude.{ℕ, List, [], ◌∷◌, Bool, true, false, if◌then◌else◌}
use Rattle.std.specs.List.{range_with_len}
use Rattle.granule_addr.specs.Ipa.{is_width}
use Rattle.granule_addr.specs.Root.{start_count}
use Rattle.host_commands.specs.declared.cmd.Cmd.{Cmd}
use Rattle.host_commands.specs.declared.cmd.Cmd.TheVariants.{Take, Fill, Peek, Delegate, Realm, Rtt, Ripas, Data, Unknown, Rec, Activate, Enter, Exit, Poke}
use Rattle.host_commands.specs.declared.needs.Needs.{Needs}
use Rattle.host_commands.specs.declared.needs.RealmRequirement.{RealmRequirement}
use Rattle.host_commands.specs.declared.needs.RealmRequirement.TheVariants.{Either, Realm as ARealm, NoRealm}

-- The number of starting tables that a `realm` command names for an IPA width: as many as a realm of that width has, or
-- one if the width is invalid.
abbrev pub tables_named : ℕ → ℕ
tables_named width = if is_width width then start_count width else 1

-- The pages that a command names, in the sequence in which they are written. A `realm` command names its starting
-- tables by the first of them.
unfoldable pub operands : Cmd → List ℕ
operands (Take order) = []
operands (Fill page value) = page ∷ []
operands (Peek page offset) = page ∷ []
operands (Delegate page) = page ∷ []
operands (Realm rd root width) = rd ∷ range_with_len root (tables_named width)
operands (Rtt page ipa level) = page ∷ []
operands (Ripas ipa count) = []
operands (Data page ipa source) = page ∷ source ∷ []
operands (Unknown page ipa) = page ∷ []
operands (Rec page auxiliaries) = page ∷ auxiliaries.items
operands Activate = []
operands (Enter number) = []
operands (Exit number) = []
operands (Poke number ipa offset value) = []

abbrev pub needs_but_vmid : RealmRequirement → Bool → ℕ → Needs
needs_but_vmid realm paired room = record { realm = realm; paired = paired; room = room; vmid = false }

-- The requirements of each command: whether its build must have a realm or none, whether its operation stays open, the
-- room that it takes, and whether it needs a VMID.
unfoldable pub needs_of : Cmd → Needs
needs_of (Take order) = needs_but_vmid Either true 2
needs_of (Fill page value) = needs_but_vmid Either false 1
needs_of (Peek page offset) = needs_but_vmid Either false 1
needs_of (Delegate page) = needs_but_vmid Either true 2
needs_of (Realm rd root width) = record { realm = NoRealm; paired = true; room = 2; vmid = true }
needs_of (Rtt page ipa level) = needs_but_vmid ARealm true 2
needs_of (Ripas ipa count) = needs_but_vmid ARealm false 1
needs_of (Data page ipa source) = needs_but_vmid ARealm true 2
needs_of (Unknown page ipa) = needs_but_vmid ARealm true 2
needs_of (Rec page auxiliaries) = needs_but_vmid ARealm true 2
needs_of Activate = needs_but_vmid ARealm false 1
needs_of (Enter number) = needs_but_vmid ARealm false 2
needs_of (Exit number) = needs_but_vmid ARealm false 0
needs_of (Poke number ipa offset value) = needs_but_vmid ARealm false 1
