-- The operation that a command asks for, if there is one.
use Rattle.std.specs.Prelude.{ℕ, nat_le, nat_lt, List, [], ◌∷◌, drop, slice_get, Bool, cond, ◌&&◌, Option, Some, None, option_map, option_and_then}
use Rattle.std.specs.Str.{bytes_eq}
use Rattle.granule_addr.specs.Ipa.{is_width, widest_space}
use Rattle.granule_addr.specs.Root.{starting_tables}
use Rattle.granule_addr.specs.declared.width.Root.{Root}
use Rattle.realm_model.specs.declared.act.Act.{Act}
use Rattle.realm_model.specs.declared.act.Act.TheVariants as acts
use Rattle.host_commands.specs.declared.cmd.Cmd.{Cmd}
use Rattle.host_commands.specs.declared.cmd.Cmd.TheVariants.{Take, Fill, Peek, Delegate, Realm, Rtt, Ripas, Data, Unknown, Rec, Activate, Enter, Exit, Poke}
use Rattle.host_commands.specs.declared.reply.Allocated.{Allocated}

-- the operation, if any, that `f` gives for the granule at an index of a list
abbrev pub of_granule : List ℕ → ℕ → (ℕ → Option Act) → Option Act
of_granule gs place f = option_and_then f (slice_get gs place)

-- ---- the numbers that an operation can have

-- the number is an IPA granule of the widest address space
abbrev pub is_ipa : ℕ → Bool
is_ipa ipa = nat_lt ipa widest_space

abbrev pub is_level : ℕ → Bool
is_level level = nat_le 1 level && nat_le level 3

abbrev pub act_if : Bool → Act → Option Act
act_if fits act = cond fits (Some act) None

-- The starting tables for an IPA width, if the width is valid and the given granules are adjacent, in sequence, and as
-- many as the width needs.
abbrev pub root_of : ℕ → List ℕ → Option Root
root_of width [] = None
root_of width (first ∷ rest) =
    let root : Root = record { first = first; width = width } in
    cond (is_width width && bytes_eq (first ∷ rest) (starting_tables root)) (Some root) None

-- ---- the operation

-- The operation, if any, that a command asks for, given the granules of its pages and the values that were allocated
-- for it.
--
-- A command with a number that no operation can have has no operation. That is an IPA granule outside the widest
-- address space, a level that no table has, a width that no realm has, or starting tables that are not adjacent. Each
-- of these fails an input check of the command. Input checks come before all others and have one answer, so the command
-- is refused with RMI_ERROR_INPUT, whatever else is wrong. RMM 1.0, RMI command conditions.
--
-- A Take has no operation either: it is not a command of the RMM, and the store chooses its block.
unfoldable pub act_of : Cmd → List ℕ → Allocated → Option Act
act_of (Take order) gs allocated = None
act_of (Fill page value) gs allocated = of_granule gs 0 (λ g. Some (acts.Fill g value))
act_of (Peek page offset) gs allocated = of_granule gs 0 (λ g. Some (acts.Peek g offset allocated.byte))
act_of (Delegate page) gs allocated = of_granule gs 0 (λ g. Some (acts.Delegate g))
act_of (Realm rd root width) gs allocated =
    of_granule gs 0 (λ g. option_map (λ tables. acts.Realm g tables allocated.vmid) (root_of width (drop 1 gs)))
act_of (Rtt page ipa level) gs allocated = of_granule gs 0 (λ g. act_if (is_ipa ipa && is_level level) (acts.Rtt g ipa level))
act_of (Ripas ipa count) gs allocated = act_if (is_ipa ipa) (acts.Ripas ipa count)
act_of (Data page ipa source) gs allocated = of_granule gs 0 (λ g. of_granule gs 1 (λ from. act_if (is_ipa ipa) (acts.Data g ipa from)))
act_of (Unknown page ipa) gs allocated = of_granule gs 0 (λ g. act_if (is_ipa ipa) (acts.Unknown g ipa))
act_of (Rec page auxiliaries) gs allocated = of_granule gs 0 (λ g. Some (acts.Rec g (record { items = drop 1 gs }) allocated.number))
act_of Activate gs allocated = Some acts.Activate
act_of (Enter number) gs allocated = Some (acts.Enter number)
act_of (Exit number) gs allocated = Some (acts.Exit number)
act_of (Poke number ipa offset value) gs allocated = act_if (is_ipa ipa) (acts.Poke number ipa offset value)
