-- The outcome of an operation's command, and the conditions on the operation's own fields.
use Rattle.std.specs.Prelude.{ℕ, ◌-◌, ◌%◌, ◌^◌, ◌==◌, nat_eq, nat_le, nat_lt, List, [], ◌∷◌, map, Bool, true, false, ◌&&◌, Option, Some, None, Ok, Err, is_none, slice_index}
use Rattle.std.specs.List.{list_all}
use Rattle.std.specs.Option.{option_eq}
use Rattle.std.specs.FinMap.{get}
use Rattle.std.specs.Str.{bytes_eq}
use Rattle.granule_addr.specs.declared.width.Root.{Root}
use Rattle.realm_model.specs.declared.act.Act.{Act}
use Rattle.realm_model.specs.declared.act.Act.TheVariants.{Take, UnTake, Fill, Peek, Delegate, Undelegate, Realm, UnRealm, Activate}
use Rattle.realm_model.specs.declared.act.Act.TheVariants.{Rtt, UnRtt, Ripas, Data, Unknown, UnData, Rec, UnRec, Enter, Exit, Poke}
use Rattle.realm_model.specs.Rows.{Row, row_at}
use Rattle.realm_model.specs.Machine.{Seen, RealmRow}
use Rattle.realm_model.specs.Update.{Outcome, Lease, Free}
use Rattle.realm_model.specs.Command.Check.{error_input, is_undelegated}
use Rattle.realm_model.specs.Command.Granule.{granule_delegate, granule_undelegate, host_fill, host_peek}
use Rattle.realm_model.specs.Command.Realm.{realm_create, realm_activate, realm_destroy}
use Rattle.realm_model.specs.Command.Table.{rtt_create, rtt_destroy, rtt_init_ripas}
use Rattle.realm_model.specs.Command.Data.{data_create, data_create_unknown, data_destroy}
use Rattle.realm_model.specs.Command.Rec.{rec_create, rec_enter, rec_exit, rec_destroy, guest_write}

-- ---- the granules that a command names, by their number

-- An operation names as many granules as its command takes, so the refusals below, for too few granules, never occur.

-- the outcome that `f` gives for the granule that a command names
abbrev pub on_one : List Seen → (Seen → Outcome) → Outcome
on_one [] f = Err error_input
on_one (g ∷ gs) f = f g

-- the outcome that `f` gives for the two granules that a command names
abbrev pub on_two : List Seen → (Seen → Seen → Outcome) → Outcome
on_two gs f = on_one gs (λ g. elim gs [ [] ↦ Err error_input | x ∷ rest ↦ on_one rest (λ h. f g h) ])

-- the outcome that `f` gives for the granules that a command names, as the first one and the rest
abbrev pub on_more : List Seen → (Seen → List Seen → Outcome) → Outcome
on_more [] f = Err error_input
on_more (g ∷ gs) f = f g gs

-- the outcome that `f` gives for the RD of a build's realm; RMI_ERROR_INPUT if the build has no realm
abbrev pub on_realm : Option Seen → (Seen → Outcome) → Outcome
on_realm None f = Err error_input
on_realm (Some rd) f = f rd

-- The updates of an operation, or its refusal by the first check that fails. The outcome depends on the machine's
-- limits of VMIDs and auxiliary granules, the VMIDs in use, the realm of the operation's build and the granules that it
-- names. Take and UnTake are not commands of the RMM: a block is leased, or it is given back.
unfoldable pub outcome_of : ℕ → ℕ → List ℕ → Act → Option Seen → List Seen → Outcome
outcome_of vmids aux used (Take order first) realm gs = Ok (map (λ g. Lease g.number) gs)
outcome_of vmids aux used (UnTake order first) realm gs = Ok (map (λ g. Free g.number) gs)
outcome_of vmids aux used (Fill granule value) realm gs = on_one gs (λ g. host_fill g value)
outcome_of vmids aux used (Peek granule offset byte) realm gs = on_one gs host_peek
outcome_of vmids aux used (Delegate granule) realm gs = on_one gs granule_delegate
outcome_of vmids aux used (Undelegate granule) realm gs = on_one gs granule_undelegate
outcome_of vmids aux used (Realm rd root vmid) realm gs = on_more gs (λ d tables. realm_create vmids used d tables root vmid)
outcome_of vmids aux used (UnRealm rd root vmid) realm gs = on_one gs realm_destroy
outcome_of vmids aux used Activate realm gs = on_realm realm realm_activate
outcome_of vmids aux used (Rtt granule ipa level) realm gs = on_realm realm (λ rd. on_one gs (λ g. rtt_create rd g ipa level))
outcome_of vmids aux used (UnRtt granule ipa level) realm gs = on_realm realm (λ rd. rtt_destroy rd ipa level)
outcome_of vmids aux used (Ripas ipa count) realm gs = on_realm realm (λ rd. rtt_init_ripas rd ipa count)
outcome_of vmids aux used (Data granule ipa source) realm gs = on_realm realm (λ rd. on_two gs (λ g s. data_create rd g ipa s))
outcome_of vmids aux used (Unknown granule ipa) realm gs = on_realm realm (λ rd. on_one gs (λ g. data_create_unknown rd g ipa))
outcome_of vmids aux used (UnData granule ipa) realm gs = on_realm realm (λ rd. data_destroy rd ipa)
outcome_of vmids aux used (Rec granule auxiliaries number) realm gs = on_realm realm (λ rd. on_more gs (λ g others. rec_create aux rd g others))
outcome_of vmids aux used (UnRec granule auxiliaries number) realm gs = on_realm realm (λ rd. rec_destroy rd number)
outcome_of vmids aux used (Enter number) realm gs = on_realm realm (λ rd. rec_enter rd number)
outcome_of vmids aux used (Exit number) realm gs = on_realm realm (λ rd. rec_exit rd number)
outcome_of vmids aux used (Poke number ipa offset value) realm gs = on_realm realm (λ rd. guest_write rd number ipa offset value)

-- ---- the conditions on an operation's own fields

-- the build has a realm, and the test holds of the realm and its RD
abbrev pub realm_is : Option Seen → (Seen → RealmRow → Bool) → Bool
realm_is None test = false
realm_is (Some rd) test = elim rd.cell.descriptor [ Some realm ↦ test rd realm | None ↦ false ]

-- the order is 0 to 9, and a block of that order can begin at the granule
abbrev pub is_block_start : ℕ → ℕ → Bool
is_block_start order first = nat_le order 9 && first % 2 ^ order == 0

-- both roots have the same first starting table and the same IPA width
abbrev pub is_root : Root → Root → Bool
is_root a b = a.first == b.first && a.width == b.width

abbrev pub leads_to : Option Row → ℕ → Bool
leads_to row granule = elim row [ Some r ↦ option_eq nat_eq r.granule (Some granule) | None ↦ false ]

-- Those numbers of an operation that its command does not check are in range. A block begins where one may, values are
-- bytes, and offsets are inside a page.
abbrev pub is_in_range : Act → Bool
is_in_range (Take order first) = is_block_start order first
is_in_range (UnTake order first) = is_block_start order first
is_in_range (Fill granule value) = nat_lt value 256
is_in_range (Peek granule offset byte) = nat_lt offset 4096
is_in_range (Poke number ipa offset value) = nat_lt offset 4096 && nat_lt value 256
is_in_range _ = true

-- An operation's own fields agree with its build's realm and with the granules that it names. A block that is given
-- back is UNDELEGATED. The byte of a Peek is the one in the page. A build has one realm at most. A reverse names what
-- its command removes. A REC gets the next number.
unfoldable pub fits : Act → Option Seen → List Seen → Bool
fits (UnTake order first) realm gs = list_all is_undelegated gs
fits (Peek granule offset byte) realm gs = list_all (λ g. slice_index g.cell.bytes offset == byte) gs
fits (Realm rd root vmid) realm gs = is_none realm
fits (UnRealm rd root vmid) realm gs = realm_is realm (λ d r. d.number == rd && is_root root r.root && r.vmid == vmid)
fits (UnRtt granule ipa level) realm gs = realm_is realm (λ d r. leads_to (row_at r.rows (level - 1) ipa) granule)
fits (UnData granule ipa) realm gs = realm_is realm (λ d r. leads_to (row_at r.rows 3 ipa) granule)
fits (Rec granule auxiliaries number) realm gs = realm_is realm (λ d r. number == r.next)
fits (UnRec granule auxiliaries number) realm gs =
    realm_is realm (λ d r. elim (get r.recs number) [
      | Some rec ↦ rec.granule == granule && bytes_eq rec.auxiliaries auxiliaries.items
      | None ↦ false
    ])
fits _ realm gs = true
