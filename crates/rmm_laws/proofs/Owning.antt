-- Proofs that RDs use starting tables, tables use what their entries lead to, RECs use auxiliary granules, and other
-- granules use nothing.
use Rattle.std.proofs.Common.{◌≡◌, ◌∙◌, ℕ, ◌+◌, ◌<◌, ◌⊎◌, inl, inr, ◌==◌, ◌&&◌, Bool, true, false, List, Option, Some, None, option_map, refl, sym, ap}
use Rattle.std.specs.Prelude.{nat_lt, if◌then◌else◌}
use Rattle.std.proofs.lemmas.Bool.{and_parts, ltb-true}
use Rattle.rmm_model.specs.declared.entry.RmmRttEntry.{RmmRttEntry}
use Rattle.rmm_model.specs.declared.entry.RmmRttEntry.TheVariants.{Unassigned, Assigned, Table, UnassignedNs, AssignedNs}
use Rattle.rmm_model.specs.declared.granule.RmmGranuleState.{RmmGranuleState}
use Rattle.rmm_model.specs.declared.granule.RmmGranuleState.TheVariants.{Undelegated, Delegated, Rd, Rec as IsRec, RecAux, Data, Rtt}
use Rattle.rmm_model.specs.Machine.{Machine, granule_at, page_in}
use Rattle.rmm_model.specs.Rec.{aux_of}
use Rattle.rmm_model.specs.Table.{entry_in_page}
use Rattle.rmm_model.specs.Walk.{granule_named, table_below}
use Rattle.rmm_laws.specs.Role.{Used, used, page_count, entry_uses, state_uses, uses}

used_same : {a b : Used} → Some a ≡ Some b → a ≡ b
used_same is = cc

if_some : (b : Bool) (o : Option Used) (u : Used) → (if b then o else None) ≡ Some u → (b ≡ true) × (o ≡ Some u)
if_some true o u is = (refl, is)
if_some false o u is = absurd (cc)

map_some : (f : ℕ → Used) (o : Option ℕ) (u : Used) → option_map f o ≡ Some u → (g : ℕ) × (o ≡ Some g) × (u ≡ f g)
map_some f (Some g) u is = (g, refl, sym (used_same is))
map_some f None u is = absurd (cc)

-- a used granule has the owner of the table whose entry uses it, and is a table one level further down or DATA
abbrev pub IsBelow : Option ℕ → ℕ → Used → Type 0
IsBelow owner level u = (u.attributes.owner ≡ owner) × (((u.attributes.state ≡ Rtt) × (u.level ≡ level + 1)) ⊎ (u.attributes.state ≡ Data))

entry_user : (m : Machine) (owner : Option ℕ) (level k : ℕ) (entry : RmmRttEntry) (u : Used) → entry_uses m owner level entry k ≡ Some u → IsBelow owner level u
entry_user m owner level k (Table address) u is =
    let there = map_some (used Rtt owner (level + 1)) (granule_named m address) u (if_some (k == 0) _ u is).1 in
    (ap (λ (v : Used). v.attributes.owner) there.2, inl (ap (λ (v : Used). v.attributes.state) there.2, ap (λ (v : Used). v.level) there.2))
entry_user m owner level k (Assigned ripas address) u is =
    let there = map_some (λ first. used Data owner 0 (first + k)) (granule_named m address) u (if_some (nat_lt k (page_count level)) _ u is).1 in
    (ap (λ (v : Used). v.attributes.owner) there.2, inr (ap (λ (v : Used). v.attributes.state) there.2))
entry_user m owner level k (Unassigned ripas) u is = absurd (cc)
entry_user m owner level k UnassignedNs u is = absurd (cc)
entry_user m owner level k (AssignedNs desc) u is = absurd (cc)

-- A granule in the given state may use the given granule at the given index. An RD uses its starting tables, a table
-- what is below its entries, and a REC its auxiliary granules.
abbrev pub IsUserOf : RmmGranuleState → Option ℕ → ℕ → ℕ → ℕ → Used → Type 0
IsUserOf (Rd realm) owner level x i u = (i < realm.table_count) × (u ≡ used Rtt (Some x) realm.start_level (realm.first_table + i))
IsUserOf Rtt owner level x i u = IsBelow owner level u
IsUserOf (IsRec rec) owner level x i u = u.attributes ≡ record { state = RecAux; owner = owner }
IsUserOf _ owner level x i u = ⊥

pub user_of : (m : Machine) (s : RmmGranuleState) (owner : Option ℕ) (level : ℕ) (page : List ℕ) (x i k : ℕ) (u : Used) → state_uses m s owner level page x i k ≡ Some u → IsUserOf s owner level x i u
user_of m (Rd realm) owner level page x i k u is =
    let there = if_some (nat_lt i realm.table_count && k == 0) (Some (used Rtt (Some x) realm.start_level (realm.first_table + i))) u is in
    (ltb-true i realm.table_count (and_parts (nat_lt i realm.table_count) (k == 0) there.0).0, sym (used_same there.1))
user_of m Rtt owner level page x i k u is = entry_user m owner level k (entry_in_page page i) u (if_some (nat_lt i 512) _ u is).1
user_of m (IsRec rec) owner level page x i k u is =
    let there = map_some (used RecAux owner 0) (granule_named m (aux_of page i)) u (if_some (nat_lt i m.settings.aux && k == 0) _ u is).1 in
    ap (λ (v : Used). v.attributes) there.2
user_of m Undelegated owner level page x i k u is = absurd (cc)
user_of m Delegated owner level page x i k u is = absurd (cc)
user_of m RecAux owner level page x i k u is = absurd (cc)
user_of m Data owner level page x i k u is = absurd (cc)

-- ---- tables below tables

table_entry : (m : Machine) (owner : Option ℕ) (level k : ℕ) (entry : RmmRttEntry) (u : Used) → entry_uses m owner level entry k ≡ Some u → u.attributes.state ≡ Rtt → table_below m entry ≡ Some u.number
table_entry m owner level k (Table address) u is state =
    let there = map_some (used Rtt owner (level + 1)) (granule_named m address) u (if_some (k == 0) _ u is).1 in
    there.1 ∙ ap (λ (n : ℕ). Some n) (sym (ap (λ (v : Used). v.number) there.2))
table_entry m owner level k (Assigned ripas address) u is state =
    let there = map_some (λ first. used Data owner 0 (first + k)) (granule_named m address) u (if_some (nat_lt k (page_count level)) _ u is).1 in
    let memory : u.attributes.state ≡ Data = ap (λ (v : Used). v.attributes.state) there.2 in
    absurd (cc)
table_entry m owner level k (Unassigned ripas) u is state = absurd (cc)
table_entry m owner level k UnassignedNs u is state = absurd (cc)
table_entry m owner level k (AssignedNs desc) u is state = absurd (cc)

-- if a table uses a table at index `i`, the entry at `i` leads to the used table
pub table_user : (m : Machine) (x i k : ℕ) (level : ℕ → ℕ) (u : Used) → (granule_at m x).state ≡ Rtt → uses m level x i k ≡ Some u → u.attributes.state ≡ Rtt
    → (i < 512) × (table_below m (entry_in_page (page_in m x) i) ≡ Some u.number)
unfolding uses
table_user m x i k level u is gives state =
    let there = if_some (nat_lt i 512) (entry_uses m (granule_at m x).owner (level x) (entry_in_page (page_in m x) i) k) u
    (sym (ap (λ (s : RmmGranuleState). state_uses m s (granule_at m x).owner (level x) (page_in m x) x i k) is) ∙ gives) in
    (ltb-true i 512 there.0, table_entry m (granule_at m x).owner (level x) k (entry_in_page (page_in m x) i) u there.1 state)
