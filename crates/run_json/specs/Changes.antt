-- The granules, the REC and the realm that an operation changes. `Turns` defines the changed rows, and the fields of
-- each item.
use Rattle.std.specs.Prelude.{ℕ, ◌+◌, ◌-◌, ◌^◌, ◌==◌, if◌then◌else◌, List, [], Bool, true, false, Option, Some, None}
use Rattle.granule_addr.specs.Root.{start_count}
use Rattle.realm_model.specs.declared.act.Act.{Act}
use Rattle.realm_model.specs.declared.act.Act.TheVariants.{Take, UnTake, Delegate, Undelegate, Realm, UnRealm, Activate, Rtt, UnRtt, Ripas, Data, Unknown, UnData, Rec, UnRec, Enter, Exit}

-- The granules that an operation changes. They are `granule`, the `count` granules from number `from` on, and those in
-- `also`.
pub record ChangedGranules : Type 0 where
  pub granule : ℕ
  pub from : ℕ
  pub count : ℕ
  pub also : List ℕ

abbrev pub one_granule : ℕ → Option ChangedGranules
one_granule g = Some (record { granule = g; from = 0; count = 0; also = [] })

-- the granules whose state, lease or realm an operation changes
abbrev pub granules_of : Act → Option ChangedGranules
granules_of (Take order first) = Some (record { granule = first; from = first + 1; count = 2 ^ order - 1; also = [] })
granules_of (UnTake order first) = Some (record { granule = first; from = first + 1; count = 2 ^ order - 1; also = [] })
granules_of (Delegate g) = one_granule g
granules_of (Undelegate g) = one_granule g
granules_of (Realm rd root vmid) = Some (record { granule = rd; from = root.first; count = start_count root.width; also = [] })
granules_of (UnRealm rd root vmid) = Some (record { granule = rd; from = root.first; count = start_count root.width; also = [] })
granules_of (Rtt g ipa level) = one_granule g
granules_of (UnRtt g ipa level) = one_granule g
granules_of (Data g ipa source) = one_granule g
granules_of (Unknown g ipa) = one_granule g
granules_of (UnData g ipa) = one_granule g
granules_of (Rec g auxiliaries number) = Some (record { granule = g; from = 0; count = 0; also = auxiliaries.items })
granules_of (UnRec g auxiliaries number) = Some (record { granule = g; from = 0; count = 0; also = auxiliaries.items })
granules_of _ = None

-- the number of the REC that an operation makes, changes or destroys, if any
abbrev pub rec_named_by : Act → Option ℕ
rec_named_by (Rec g auxiliaries number) = Some number
rec_named_by (UnRec g auxiliaries number) = Some number
rec_named_by (Enter number) = Some number
rec_named_by (Exit number) = Some number
rec_named_by _ = None

-- whether an operation changes a realm's existence, state, measurement or next REC number
abbrev pub changes_realm : Act → Bool
changes_realm (Realm rd root vmid) = true
changes_realm (UnRealm rd root vmid) = true
changes_realm Activate = true
changes_realm (Ripas ipa count) = true
changes_realm (Data g ipa source) = true
changes_realm (Rec g auxiliaries number) = true
changes_realm _ = false

-- the level of the parent table of a table at this level; for a table of level 1 it is 1
abbrev pub level_above : ℕ → ℕ
level_above level = if level == 3 then 2 else 1
