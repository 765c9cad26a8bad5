-- Proofs that a single write changes the attributes or the contents of one granule alone, and keeps the invariant
-- `IsSound` if the new ones are valid.
use Rattle.std.proofs.Common.{◌≡◌, ◌≢◌, ℕ, ◌+◌, ◌-◌, ◌*◌, ◌/◌, ◌<◌, ◌≤◌, ◌==◌, ◌&&◌, Bool, true, false, List, [], length, set, get_or, IfSome, Option, Some, None, cond, refl, sym, ap, subst, ◌∙◌, ⊎_elim, option_map, arith}
use Rattle.std.specs.Prelude.{nat_le, nat_lt, if◌then◌else◌}
use Rattle.std.proofs.lemmas.Bool.{cases_eq, cases_lt}
use Rattle.std.proofs.lemmas.List.{length-set, get_or-set_same, get_or-set_other, get_or_past}
use Rattle.rmi_abi.specs.declared.settings.RmmSettings.{RmmSettings}
use Rattle.rmm_model.specs.declared.entry.RmmRttEntry.{RmmRttEntry}
use Rattle.rmm_model.specs.declared.entry.RmmRttEntry.TheVariants.{Unassigned, Assigned, Table, UnassignedNs, AssignedNs}
use Rattle.rmm_model.specs.declared.granule.RmmGranule.{RmmGranule}
use Rattle.rmm_model.specs.declared.granule.RmmGranuleState.{RmmGranuleState}
use Rattle.rmm_model.specs.declared.granule.RmmGranuleState.TheVariants.{Undelegated, Delegated, Rd, Rec as IsRec, RecAux, Data, Rtt}
use Rattle.rmm_model.specs.Granule.{realm_of, of_no_realm}
use Rattle.rmm_model.specs.Machine.{Machine, HasTables, granule_at, page_in, with_granule, with_page, is_inside, number_of}
use Rattle.rmm_model.specs.Realm.{IsServed}
use Rattle.rmm_model.specs.Rec.{aux_of}
use Rattle.rmm_model.specs.Table.{entry_in_page}
use Rattle.rmm_model.specs.Walk.{granule_named}
use Rattle.rmm_laws.specs.Role.{Used, used, used_at, level_in, page_count, entry_uses, state_uses, uses, IsSound, IsBegin, LeadsInside}

-- ---- granules and pages

pub granule_at-same : (m : Machine) (g : ℕ) (kept : RmmGranule) → g < length m.granules → granule_at (with_granule m g kept) g ≡ kept
granule_at-same m g kept inside = get_or-set_same m.granules g kept (of_no_realm Undelegated) inside

pub granule_at-other : (m : Machine) (g other : ℕ) (kept : RmmGranule) → other ≢ g → granule_at (with_granule m g kept) other ≡ granule_at m other
granule_at-other m g other kept ne = get_or-set_other m.granules g other kept (of_no_realm Undelegated) ne

pub page_in-same : (m : Machine) (g : ℕ) (page : List ℕ) → g < length m.pages → page_in (with_page m g page) g ≡ page
page_in-same m g page inside = get_or-set_same m.pages g page [] inside

pub page_in-other : (m : Machine) (g other : ℕ) (page : List ℕ) → other ≢ g → page_in (with_page m g page) other ≡ page_in m other
page_in-other m g other page ne = get_or-set_other m.pages g other page [] ne

-- a granule whose state is not UNDELEGATED is in the machine
pub taken_inside : (m : Machine) (g : ℕ) → (granule_at m g).state ≢ Undelegated → g < length m.granules
taken_inside m g taken =
    ⊎_elim
    (λ (lt : g < length m.granules). lt)
    (λ (past : length m.granules ≤ g). absurd (taken (ap (λ (r : RmmGranule). r.state) (get_or_past m.granules g (of_no_realm Undelegated) past))))
    (cases_lt g (length m.granules))

-- ---- machines with the same settings and as many granules

module _ (m n : Machine) (settings : n.settings ≡ m.settings) (count : length n.granules ≡ length m.granules) where
  pub named-same : (address : ℕ) → granule_named n address ≡ granule_named m address
  unfolding granule_named is_inside number_of
  named-same address =
      ap (λ (s : RmmSettings). cond (nat_le s.base address && nat_lt ((address - s.base) / 4096) (length n.granules)) (Some ((address - s.base) / 4096)) None) settings
      ∙ ap (λ (k : ℕ). cond (nat_le m.settings.base address && nat_lt ((address - m.settings.base) / 4096) k) (Some ((address - m.settings.base) / 4096)) None) count

  pub inside-same : (address : ℕ) → is_inside n address ≡ is_inside m address
  unfolding is_inside
  inside-same address =
      ap (λ (s : RmmSettings). nat_le s.base address && nat_lt ((address - s.base) / 4096) (length n.granules)) settings
      ∙ ap (λ (k : ℕ). nat_le m.settings.base address && nat_lt ((address - m.settings.base) / 4096) k) count

  pub number-same : (address : ℕ) → number_of n address ≡ number_of m address
  unfolding number_of
  number-same address = ap (λ (s : RmmSettings). (address - s.base) / 4096) settings

  pub entry_uses-same : (owner : Option ℕ) (level : ℕ) (entry : RmmRttEntry) (part : ℕ) → entry_uses n owner level entry part ≡ entry_uses m owner level entry part
  entry_uses-same owner level (Table address) part =
      ap (λ (o : Option ℕ). if part == 0 then option_map (used Rtt owner (level + 1)) o else None) (named-same address)
  entry_uses-same owner level (Assigned ripas address) part =
      ap (λ (o : Option ℕ). if nat_lt part (page_count level) then option_map (λ first. used Data owner 0 (first + part)) o else None) (named-same address)
  entry_uses-same owner level (Unassigned ripas) part = refl
  entry_uses-same owner level UnassignedNs part = refl
  entry_uses-same owner level (AssignedNs desc) part = refl

  pub state_uses-same : (state : RmmGranuleState) (owner : Option ℕ) (level : ℕ) (page : List ℕ) (g i part : ℕ) → state_uses n state owner level page g i part ≡ state_uses m state owner level page g i part
  state_uses-same Rtt owner level page g i part =
      ap (λ (o : Option Used). if nat_lt i 512 then o else None) (entry_uses-same owner level (entry_in_page page i) part)
  state_uses-same (IsRec rec) owner level page g i part =
      ap (λ (s : RmmSettings). if nat_lt i s.aux && part == 0 then option_map (used RecAux owner 0) (granule_named n (aux_of page i)) else None) settings
      ∙ ap (λ (o : Option ℕ). if nat_lt i m.settings.aux && part == 0 then option_map (used RecAux owner 0) o else None) (named-same (aux_of page i))
  state_uses-same (Rd realm) owner level page g i part = refl
  state_uses-same Undelegated owner level page g i part = refl
  state_uses-same Delegated owner level page g i part = refl
  state_uses-same RecAux owner level page g i part = refl
  state_uses-same Data owner level page g i part = refl

  -- a granule with the same attributes, contents and level uses the same granules
  pub uses-same : (before after : ℕ → ℕ) (g i part : ℕ) → granule_at n g ≡ granule_at m g → page_in n g ≡ page_in m g → after g ≡ before g → uses n after g i part ≡ uses m before g i part
  unfolding uses
  uses-same before after g i part same page level =
      state_uses-same (granule_at n g).state (granule_at n g).owner (after g) (page_in n g) g i part
      ∙ ap (λ (r : RmmGranule). state_uses m r.state r.owner (after g) (page_in n g) g i part) same
      ∙ ap (λ (p : List ℕ). state_uses m (granule_at m g).state (granule_at m g).owner (after g) p g i part) page
      ∙ ap (λ (l : ℕ). state_uses m (granule_at m g).state (granule_at m g).owner l (page_in m g) g i part) level

  pub begin-same : (address : ℕ) → IsBegin m address → IsBegin n address
  begin-same address is = (
    inside-same address ∙ is.0,
    is.1 ∙ sym (ap (λ (k : ℕ). n.settings.base + k * 4096) (number-same address) ∙ ap (λ (s : RmmSettings). s.base + number_of m address * 4096) settings),
  )

  pub leads-same : (entry : RmmRttEntry) → LeadsInside m entry → LeadsInside n entry
  leads-same (Table address) is = begin-same address is
  leads-same (Assigned ripas address) is = begin-same address is
  leads-same (Unassigned ripas) is = tt
  leads-same UnassignedNs is = tt
  leads-same (AssignedNs desc) is = tt

  pub used_at-same : (before after : ℕ → ℕ) (g : ℕ) → granule_at n g ≡ granule_at m g → after g ≡ before g → used_at n after g ≡ used_at m before g
  used_at-same before after g same level =
      ap (λ (r : RmmGranule). record { number = g; attributes = r; level = level_in r.state (after g) }) same
      ∙ ap (λ (l : ℕ). record { number = g; attributes = granule_at m g; level = level_in (granule_at m g).state l }) level

-- ---- granules that use nothing

abbrev pub is_user : RmmGranuleState → Bool
is_user Rtt = true
is_user (IsRec rec) = true
is_user (Rd realm) = true
is_user _ = false

pub plain_uses : (m : Machine) (state : RmmGranuleState) (owner : Option ℕ) (level : ℕ) (page : List ℕ) (g i part : ℕ) → is_user state ≡ false → state_uses m state owner level page g i part ≡ None
plain_uses m Undelegated owner level page g i part plain = refl
plain_uses m Delegated owner level page g i part plain = refl
plain_uses m RecAux owner level page g i part plain = refl
plain_uses m Data owner level page g i part plain = refl
plain_uses m Rtt owner level page g i part plain = absurd (cc)
plain_uses m (IsRec rec) owner level page g i part plain = absurd (cc)
plain_uses m (Rd realm) owner level page g i part plain = absurd (cc)

pub uses-plain : (m : Machine) (level : ℕ → ℕ) (g i part : ℕ) → is_user (granule_at m g).state ≡ false → uses m level g i part ≡ None
unfolding uses
uses-plain m level g i part plain = plain_uses m (granule_at m g).state (granule_at m g).owner (level g) (page_in m g) g i part plain

-- ---- soundness

abbrev Served : ℕ → RmmGranule → Type 0
Served count granule = IfSome (realm_of granule.state) (IsServed count)

tables-set : (granules : List RmmGranule) (g : ℕ) (kept : RmmGranule) → g < length granules → HasTables granules → IfSome (realm_of kept.state) (IsServed (length granules)) → HasTables (set granules g kept)
tables-set granules g kept inside tables served = record {
  each = λ h.
      subst (λ (n : ℕ). Served n (get_or (set granules g kept) h (of_no_realm Undelegated))) (sym (length-set granules g kept))
      (⊎_elim
      (λ (same : h ≡ g). subst (λ (k : ℕ). Served (length granules) (get_or (set granules g kept) k (of_no_realm Undelegated))) (sym same)
      (subst (Served (length granules)) (sym (get_or-set_same granules g kept (of_no_realm Undelegated) inside)) served))
      (λ (other : h ≢ g). subst (Served (length granules)) (sym (get_or-set_other granules g h kept (of_no_realm Undelegated) other)) (tables.each h))
      (cases_eq h g));
}

pub sound-with_granule : (m : Machine) (g : ℕ) (kept : RmmGranule) → g < length m.granules → IfSome (realm_of kept.state) (IsServed (length m.granules)) → IsSound m → IsSound (with_granule m g kept)
sound-with_granule m g kept inside served sound =
    let same = length-set m.granules g kept in
    let pages = sound.pages in
    record {
      platform = sound.platform;
      few = subst (λ (n : ℕ). n ≤ 4096) (sym same) sound.few;
      pages = pages ∙ sym same;
      whole = λ h lt. sound.whole h (omega arith);
      tables = tables-set m.granules g kept inside sound.tables served;
    }

pub sound-with_page : (m : Machine) (g : ℕ) (page : List ℕ) → length page ≡ 4096 → IsSound m → IsSound (with_page m g page)
sound-with_page m g page long sound =
    let pages = sound.pages in
    record {
      platform = sound.platform;
      few = sound.few;
      pages = length-set m.pages g page ∙ pages;
      whole = λ h lt. ⊎_elim
          (λ (same : h ≡ g). ap (λ (k : ℕ). length (page_in (with_page m g page) k)) same ∙ ap (length {A = ℕ}) (page_in-same m g page (omega arith)) ∙ long)
          (λ (other : h ≢ g). ap (length {A = ℕ}) (page_in-other m g h page other) ∙ sound.whole h lt)
          (cases_eq h g);
      tables = sound.tables;
    }
