-- Proofs that a single write keeps each table entry in a state that is allowed in its half of the address space. An
-- entry that is written has to be allowed at its index, and RDs have to keep their address spaces.
use Rattle.std.proofs.Common.{◌≡◌, ◌≢◌, ℕ, ◌+◌, ◌-◌, ◌*◌, ◌/◌, ◌%◌, ◌^◌, ◌<◌, ◌≤◌, ◌⊎◌, Bool, true, false, List, length, Some, None, refl, sym, ap, subst, ◌∙◌, ⊎_elim, arith}
use Rattle.std.proofs.lemmas.List.{length-set}
use Rattle.std.proofs.lemmas.Bool.{cases_eq, both_ways}
use Rattle.page_arena.specs.Word.{word_of_page, page_with_word}
use Rattle.page_arena.specs.Words.{word_of_page-page_with_word_same, word_of_page-page_with_word_other}
use Rattle.rmi_abi.specs.declared.settings.RmmSettings.{RmmSettings}
use Rattle.rmm_model.specs.declared.entry.RmmRipas.TheVariants.{Empty, Ram, Destroyed}
use Rattle.rmm_model.specs.declared.entry.RmmRttEntry.{RmmRttEntry}
use Rattle.rmm_model.specs.declared.entry.RmmRttEntry.TheVariants.{Unassigned, Assigned, Table, UnassignedNs, AssignedNs}
use Rattle.rmm_model.specs.declared.granule.RmmGranule.{RmmGranule}
use Rattle.rmm_model.specs.declared.granule.RmmGranuleState.{RmmGranuleState}
use Rattle.rmm_model.specs.declared.granule.RmmGranuleState.TheVariants.{Rd, Rtt}
use Rattle.rmm_model.specs.declared.realm.RmmRealm.{RmmRealm}
use Rattle.rmm_model.specs.Entry.{entry_of, entry_at_kind, entry_word, descriptor_of, is_table}
use Rattle.rmm_model.specs.Granule.{of_no_realm, of_realm, realm_of}
use Rattle.rmm_model.specs.Level.{entry_size}
use Rattle.rmm_model.specs.Machine.{Machine, granule_at, page_in, with_granule, with_page, with_word, with_vmid}
use Rattle.rmm_model.specs.Table.{entry_in_page}
use Rattle.rmm_model.specs.Walk.{table_below}
use Rattle.rmm_laws.specs.Half.{IsOfHalf, IsPlaced, IsHalved, HasHalves}
use Rattle.rmm_laws.specs.Owner.{is_rd}
use Rattle.rmm_laws.proofs.EntryWords.{entry_word-fits}
use Rattle.rmm_laws.proofs.Placing.{placed_word}
use Rattle.rmm_laws.proofs.Writes.{granule_at-same, granule_at-other, page_in-same, page_in-other, named-same}

-- ---- kinds of entries

-- an entry with its RIPAS replaced by EMPTY, and its address or descriptor replaced by 0
abbrev pub kind_of : RmmRttEntry → RmmRttEntry
kind_of (Unassigned ripas) = Unassigned Empty
kind_of (Assigned ripas address) = Assigned Empty 0
kind_of UnassignedNs = UnassignedNs
kind_of (AssignedNs desc) = AssignedNs 0
kind_of (Table address) = Table 0

half_kind : (realm : RmmRealm) (ipa : ℕ) (e : RmmRttEntry) → IsOfHalf realm ipa e → IsOfHalf realm ipa (kind_of e)
half_kind realm ipa (Unassigned ripas) is = is
half_kind realm ipa (Assigned ripas address) is = is
half_kind realm ipa UnassignedNs is = is
half_kind realm ipa (AssignedNs desc) is = is
half_kind realm ipa (Table address) is = is

kind_half : (realm : RmmRealm) (ipa : ℕ) (e : RmmRttEntry) → IsOfHalf realm ipa (kind_of e) → IsOfHalf realm ipa e
kind_half realm ipa (Unassigned ripas) is = is
kind_half realm ipa (Assigned ripas address) is = is
kind_half realm ipa UnassignedNs is = is
kind_half realm ipa (AssignedNs desc) is = is
kind_half realm ipa (Table address) is = is

-- if an entry is allowed in the half of an address, so is each entry with the same `kind_of`
pub half_alike : (realm : RmmRealm) (ipa : ℕ) (a b : RmmRttEntry) → kind_of a ≡ kind_of b → IsOfHalf realm ipa a → IsOfHalf realm ipa b
half_alike realm ipa a b same is = kind_half realm ipa b (subst (IsOfHalf realm ipa) same (half_kind realm ipa a is))

pub realm_same : (a b : RmmRealm) → Rd a ≡ Rd b → a ≡ b
realm_same a b same = let both : Some a ≡ Some b = ap realm_of same in cc

pub no_rtt : (a : RmmRealm) → Rd a ≡ Rtt → ⊥
no_rtt a same = let both : is_rd (Rd a) ≡ is_rd Rtt = ap is_rd same in absurd (cc)

by_kind : (kind low : ℕ) → kind_of (entry_at_kind ((kind * 2 ^ 56 + low % 2 ^ 48) / 2 ^ 56) ((kind * 2 ^ 56 + low % 2 ^ 48) % 2 ^ 48)) ≡ kind_of (entry_at_kind kind (low % 2 ^ 48))
by_kind kind low =
    let high : (kind * 2 ^ 56 + low % 2 ^ 48) / 2 ^ 56 ≡ kind = omega arith in
    let rest : (kind * 2 ^ 56 + low % 2 ^ 48) % 2 ^ 48 ≡ low % 2 ^ 48 = omega arith in
    ap (λ (k : ℕ). kind_of (entry_at_kind k ((kind * 2 ^ 56 + low % 2 ^ 48) % 2 ^ 48))) high ∙ ap (λ (d : ℕ). kind_of (entry_at_kind kind d)) rest

-- ---- realms of the same space

abbrev pub SameSpace : RmmRealm → RmmRealm → Type 0
SameSpace new old = (new.s2sz ≡ old.s2sz) × (new.start_level ≡ old.start_level) × (new.first_table ≡ old.first_table) × (new.table_count ≡ old.table_count)

half_space : (new old : RmmRealm) (ipa : ℕ) (e : RmmRttEntry) → new.s2sz ≡ old.s2sz → IsOfHalf old ipa e → IsOfHalf new ipa e
half_space new old ipa (Unassigned ripas) same is = subst (λ (s : ℕ). ipa < 2 ^ (s - 1)) (sym same) is
half_space new old ipa (Assigned ripas address) same is = subst (λ (s : ℕ). ipa < 2 ^ (s - 1)) (sym same) is
half_space new old ipa UnassignedNs same is = subst (λ (s : ℕ). 2 ^ (s - 1) ≤ ipa) (sym same) is
half_space new old ipa (AssignedNs desc) same is = subst (λ (s : ℕ). (2 ^ (s - 1) ≤ ipa) × (ipa < 2 ^ s)) (sym same) is
half_space new old ipa (Table address) same is = subst (λ (s : ℕ). ipa < 2 ^ s) (sym same) is

-- ---- machines with no new table and no new realm

pub below_same : (m n : Machine) → n.settings ≡ m.settings → length n.granules ≡ length m.granules → (e : RmmRttEntry) → table_below n e ≡ table_below m e
below_same m n settings count (Table address) = named-same m n settings count address
below_same m n settings count (Assigned ripas address) = refl
below_same m n settings count (Unassigned ripas) = refl
below_same m n settings count UnassignedNs = refl
below_same m n settings count (AssignedNs desc) = refl

-- each table of `n` is the same in `m`, and each RD of `n` is in `m` the RD of a realm with the same address space and
-- starting tables
pub record HasNoMore (m n : Machine) : Type 0 where
  pub settings : n.settings ≡ m.settings
  pub count : length n.granules ≡ length m.granules
  pub tables : (g : ℕ) → (granule_at n g).state ≡ Rtt → (granule_at n g ≡ granule_at m g) × (page_in n g ≡ page_in m g)
  pub realms : (rd : ℕ) (realm : RmmRealm) → (granule_at n rd).state ≡ Rd realm → (old : RmmRealm) × ((granule_at m rd).state ≡ Rd old) × SameSpace realm old

module _ (m n : Machine) (step : HasNoMore m n) (level place : ℕ → ℕ) (halved : IsHalved m level place) where
  start_then : (rd k : ℕ) (realm : RmmRealm) → (granule_at n rd).state ≡ Rd realm → k < realm.table_count → (level (realm.first_table + k) ≡ realm.start_level) × (place (realm.first_table + k) ≡ k)
  start_then rd k realm is lt =
      let was = step.realms rd realm is in
      let space = was.2 in
      let before = halved.start rd k was.0 was.1 (subst (λ (c : ℕ). k < c) space.3 lt) in
      let same : realm.first_table + k ≡ was.0.first_table + k = ap (λ (f : ℕ). f + k) space.2 in
      (ap level same ∙ before.0 ∙ sym space.1, ap place same ∙ before.1)

  below_then : (table i child : ℕ) → (granule_at n table).state ≡ Rtt → i < 512 → table_below n (entry_in_page (page_in n table) i) ≡ Some child
      → (level child ≡ level table + 1) × (place child ≡ place table * 512 + i)
  below_then table i child is lt leads =
      let was = step.tables table is in
      halved.below table i child (sym (ap (λ (r : RmmGranule). r.state) was.0) ∙ is) lt
      (sym (below_same m n step.settings step.count (entry_in_page (page_in n table) i) ∙ ap (λ (p : List ℕ). table_below m (entry_in_page p i)) was.1) ∙ leads)

  half_then : (rd table i ipa : ℕ) (realm : RmmRealm) → (granule_at n rd).state ≡ Rd realm → granule_at n table ≡ of_realm rd Rtt → i < 512
      → ipa / entry_size (level table) ≡ place table * 512 + i → IsOfHalf realm ipa (entry_in_page (page_in n table) i)
  half_then rd table i ipa realm is owned lt covers =
      let was = step.realms rd realm is in
      let same = step.tables table (ap (λ (r : RmmGranule). r.state) owned) in
      subst (λ (p : List ℕ). IsOfHalf realm ipa (entry_in_page p i)) (sym same.1)
      (half_space realm was.0 ipa (entry_in_page (page_in m table) i) was.2.0 (halved.half rd table i ipa was.0 was.1 (sym same.0 ∙ owned) lt covers))

  block_then : (table i : ℕ) → (granule_at n table).state ≡ Rtt → i < 512 → IsPlaced n.settings (level table) (entry_in_page (page_in n table) i)
  block_then table i is lt =
      let was = step.tables table is in
      subst (λ (s : RmmSettings). IsPlaced s (level table) (entry_in_page (page_in n table) i)) (sym step.settings)
      (subst (λ (p : List ℕ). IsPlaced m.settings (level table) (entry_in_page p i)) (sym was.1) (halved.block table i (sym (ap (λ (r : RmmGranule). r.state) was.0) ∙ is) lt))

  pub no_more_halved : IsHalved n level place
  no_more_halved = record {
    wide = λ rd realm is.
        let was = step.realms rd realm is in
        let before = halved.wide rd was.0 was.1 in
        subst (λ (l : ℕ). entry_size l < 2 ^ realm.s2sz) (sym was.2.1) (subst (λ (s : ℕ). entry_size was.0.start_level < 2 ^ s) (sym was.2.0) before);
    start = start_then;
    below = below_then;
    half = half_then;
    block = block_then;
  }

-- ---- the page of a table

-- entry `e` at index `i` of a table is allowed in its half, satisfies `IsPlaced`, and leads only to a table one level
-- down that covers the same addresses
abbrev pub Fits : Machine → (ℕ → ℕ) → (ℕ → ℕ) → ℕ → ℕ → RmmRttEntry → Type 0
Fits m level place table i e =
    ((rd ipa : ℕ) (realm : RmmRealm) → (granule_at m rd).state ≡ Rd realm → granule_at m table ≡ of_realm rd Rtt → ipa / entry_size (level table) ≡ place table * 512 + i → IsOfHalf realm ipa e)
    × ((child : ℕ) → table_below m e ≡ Some child → (level child ≡ level table + 1) × (place child ≡ place table * 512 + i))
    × IsPlaced m.settings (level table) e

pub fits_before : (m : Machine) (level place : ℕ → ℕ) → IsHalved m level place → (table i : ℕ) → (granule_at m table).state ≡ Rtt → i < 512 → Fits m level place table i (entry_in_page (page_in m table) i)
fits_before m level place halved table i is lt = (λ rd ipa realm there owned covers. halved.half rd table i ipa realm there owned lt covers, λ child leads. halved.below table i child is lt leads, halved.block table i is lt)

module _ (m : Machine) (table : ℕ) (page : List ℕ) (level place : ℕ → ℕ) (halved : IsHalved m level place)
    (fits : (i : ℕ) → i < 512 → Fits m level place table i (entry_in_page (page_in (with_page m table page) table) i)) where
  abbrev n : Machine
  n = with_page m table page

  below_at : (t i child : ℕ) → (granule_at m t).state ≡ Rtt → i < 512 → table_below m (entry_in_page (page_in n t) i) ≡ Some child → (level child ≡ level t + 1) × (place child ≡ place t * 512 + i)
  below_at t i child is lt leads =
      ⊎_elim
      (λ (here : t ≡ table).
      subst (λ (x : ℕ). (level child ≡ level x + 1) × (place child ≡ place x * 512 + i)) (sym here)
      ((fits i lt).1 child (subst (λ (x : ℕ). table_below m (entry_in_page (page_in n x) i) ≡ Some child) here leads)))
      (λ (other : t ≢ table). halved.below t i child is lt (sym (ap (λ (p : List ℕ). table_below m (entry_in_page p i)) (page_in-other m table t page other)) ∙ leads))
      (cases_eq t table)

  half_at : (rd t i ipa : ℕ) (realm : RmmRealm) → (granule_at m rd).state ≡ Rd realm → granule_at m t ≡ of_realm rd Rtt → i < 512 → ipa / entry_size (level t) ≡ place t * 512 + i
      → IsOfHalf realm ipa (entry_in_page (page_in n t) i)
  half_at rd t i ipa realm is owned lt covers =
      ⊎_elim
      (λ (here : t ≡ table).
      subst (λ (x : ℕ). IsOfHalf realm ipa (entry_in_page (page_in n x) i)) (sym here)
      ((fits i lt).0 rd ipa realm is (subst (λ (x : ℕ). granule_at m x ≡ of_realm rd Rtt) here owned) (subst (λ (x : ℕ). ipa / entry_size (level x) ≡ place x * 512 + i) here covers)))
      (λ (other : t ≢ table).
      subst (λ (p : List ℕ). IsOfHalf realm ipa (entry_in_page p i)) (sym (page_in-other m table t page other)) (halved.half rd t i ipa realm is owned lt covers))
      (cases_eq t table)

  pub page_halved : IsHalved (with_page m table page) level place
  page_halved = record {
    wide = halved.wide;
    start = halved.start;
    below = λ t i child is lt leads. below_at t i child is lt (sym (below_same m n refl refl (entry_in_page (page_in n t) i)) ∙ leads);
    half = half_at;
    block = λ t i is lt. ⊎_elim
        (λ (here : t ≡ table). subst (λ (x : ℕ). IsPlaced m.settings (level x) (entry_in_page (page_in n x) i)) (sym here) (fits i lt).2)
        (λ (other : t ≢ table). subst (λ (p : List ℕ). IsPlaced m.settings (level t) (entry_in_page p i)) (sym (page_in-other m table t page other)) (halved.block t i is lt))
        (cases_eq t table);
  }

-- ---- single writes

pub no_more : (m n : Machine) → HasNoMore m n → HasHalves m → HasHalves n
no_more m n step halves = record { level = halves.level; place = halves.place; is = no_more_halved m n step halves.level halves.place halves.is }

-- a granule is a table or an RD
abbrev pub has_space : RmmGranuleState → Bool
has_space Rtt = true
has_space (Rd realm) = true
has_space _ = false

-- `HasNoMore` holds if machines differ only at granule `g`, and `g` in `n` is an unchanged table, an RD of the same
-- space, or no table and no RD. An RD is of the same space if its address space and its starting tables are those in
-- `m`.
differs : (m n : Machine) (g : ℕ) → n.settings ≡ m.settings → length n.granules ≡ length m.granules → ((h : ℕ) → h ≢ g → (granule_at n h ≡ granule_at m h) × (page_in n h ≡ page_in m h))
    → ((granule_at n g).state ≡ Rtt → (granule_at n g ≡ granule_at m g) × (page_in n g ≡ page_in m g))
    → ((realm : RmmRealm) → (granule_at n g).state ≡ Rd realm → (old : RmmRealm) × ((granule_at m g).state ≡ Rd old) × SameSpace realm old) → HasNoMore m n
differs m n g settings count beside table realm = record {
  settings = settings;
  count = count;
  tables = λ h is. ⊎_elim
      (λ (here : h ≡ g). subst (λ (x : ℕ). (granule_at n x ≡ granule_at m x) × (page_in n x ≡ page_in m x)) (sym here) (table (subst (λ (x : ℕ). (granule_at n x).state ≡ Rtt) here is)))
      (λ (other : h ≢ g). beside h other)
      (cases_eq h g);
  realms = λ rd other is. ⊎_elim
      (λ (here : rd ≡ g).
      subst (λ (x : ℕ). (old : RmmRealm) × ((granule_at m x).state ≡ Rd old) × SameSpace other old) (sym here) (realm other (subst (λ (x : ℕ). (granule_at n x).state ≡ Rd other) here is)))
      (λ (ne : rd ≢ g). (other, sym (ap (λ (r : RmmGranule). r.state) (beside rd ne).0) ∙ is, (refl, refl, refl, refl)))
      (cases_eq rd g);
}

pub no_space : (s t : RmmGranuleState) → has_space s ≡ false → has_space t ≡ true → s ≡ t → ⊥
no_space s t plain has same = both_ways (has_space s) plain (ap has_space same ∙ has)

-- `HasHalves` still holds if each granule is as it was, or is neither a table nor an RD afterwards
pub kept_or_plain : (m n : Machine) → n.settings ≡ m.settings → length n.granules ≡ length m.granules
    → ((h : ℕ) → ((granule_at n h ≡ granule_at m h) × (page_in n h ≡ page_in m h)) ⊎ (has_space (granule_at n h).state ≡ false)) → HasHalves m → HasHalves n
kept_or_plain m n settings count each halves =
    no_more m n (record {
      settings = settings;
      count = count;
      tables = λ h is. ⊎_elim
          (λ (same : (granule_at n h ≡ granule_at m h) × (page_in n h ≡ page_in m h)). same)
          (λ (plain : has_space (granule_at n h).state ≡ false). absurd (no_space (granule_at n h).state Rtt plain refl is))
          (each h);
      realms = λ rd realm is. ⊎_elim
          (λ (same : (granule_at n rd ≡ granule_at m rd) × (page_in n rd ≡ page_in m rd)). (realm, sym (ap (λ (r : RmmGranule). r.state) same.0) ∙ is, (refl, refl, refl, refl)))
          (λ (plain : has_space (granule_at n rd).state ≡ false). absurd (no_space (granule_at n rd).state (Rd realm) plain refl is))
          (each rd);
    }) halves

-- writing the page of a granule that is no table and no RD keeps `HasHalves`
pub plain_page : (m : Machine) (g : ℕ) (page : List ℕ) → has_space (granule_at m g).state ≡ false → HasHalves m → HasHalves (with_page m g page)
plain_page m g page plain halves =
    no_more m (with_page m g page) (differs m (with_page m g page) g refl refl (λ h other. (refl, page_in-other m g h page other))
    (λ is. absurd (no_space (granule_at m g).state Rtt plain refl is)) (λ realm is. absurd (no_space (granule_at m g).state (Rd realm) plain refl is))) halves

-- changing a granule to one that is no table and no RD keeps `HasHalves`
pub plain_granule : (m : Machine) (g : ℕ) (kept : RmmGranule) → g < length m.granules → has_space kept.state ≡ false → HasHalves m → HasHalves (with_granule m g kept)
plain_granule m g kept inside plain halves =
    let now : (granule_at (with_granule m g kept) g).state ≡ kept.state = ap (λ (r : RmmGranule). r.state) (granule_at-same m g kept inside) in
    no_more m (with_granule m g kept) (differs m (with_granule m g kept) g refl (length-set m.granules g kept) (λ h other. (granule_at-other m g h kept other, refl))
    (λ is. absurd (no_space kept.state Rtt plain refl (sym now ∙ is))) (λ realm is. absurd (no_space kept.state (Rd realm) plain refl (sym now ∙ is)))) halves

pub plain_both : (m : Machine) (g : ℕ) (kept : RmmGranule) (page : List ℕ) → g < length m.granules → has_space kept.state ≡ false → HasHalves m → HasHalves (with_page (with_granule m g kept) g page)
plain_both m g kept page inside plain halves =
    plain_page (with_granule m g kept) g page (ap (λ (r : RmmGranule). has_space r.state) (granule_at-same m g kept inside) ∙ plain) (plain_granule m g kept inside plain halves)

-- tables keep their levels and places when a granule becomes one that is no table and no RD, and its page is written
pub plain_halved : (m : Machine) (g : ℕ) (kept : RmmGranule) (page : List ℕ) (level place : ℕ → ℕ) → g < length m.granules → has_space kept.state ≡ false → IsHalved m level place
    → IsHalved (with_page (with_granule m g kept) g page) level place
plain_halved m g kept page level place inside plain halved =
    let n : Machine = with_page (with_granule m g kept) g page in
    let now : (granule_at n g).state ≡ kept.state = ap (λ (r : RmmGranule). r.state) (granule_at-same m g kept inside) in
    no_more_halved m n (differs m n g refl (length-set m.granules g kept) (λ h other. (granule_at-other m g h kept other, page_in-other (with_granule m g kept) g h page other))
    (λ is. absurd (no_space kept.state Rtt plain refl (sym now ∙ is))) (λ realm is. absurd (no_space kept.state (Rd realm) plain refl (sym now ∙ is)))) level place halved

-- replacing an RD's realm by one with the same address space and starting tables keeps `HasHalves`
pub same_space : (m : Machine) (rd : ℕ) (realm other : RmmRealm) → rd < length m.granules → (granule_at m rd).state ≡ Rd realm → SameSpace other realm → HasHalves m
    → HasHalves (with_granule m rd (of_no_realm (Rd other)))
same_space m rd realm other inside is space halves =
    let n : Machine = with_granule m rd (of_no_realm (Rd other)) in
    let now : (granule_at n rd).state ≡ Rd other = ap (λ (r : RmmGranule). r.state) (granule_at-same m rd (of_no_realm (Rd other)) inside) in
    no_more m n (differs m n rd refl (length-set m.granules rd (of_no_realm (Rd other))) (λ h ne. (granule_at-other m rd h (of_no_realm (Rd other)) ne, refl))
    (λ table. absurd (no_rtt other (sym now ∙ table)))
    (λ new there. (realm, is, subst (λ (r : RmmRealm). SameSpace r realm) (realm_same other new (sym now ∙ there)) space))) halves

pub vmid_halves : (m : Machine) (vmid : ℕ) (is_used : Bool) → HasHalves m → HasHalves (with_vmid m vmid is_used)
vmid_halves m vmid is_used halves =
    no_more m (with_vmid m vmid is_used) (record { settings = refl; count = refl; tables = λ g is. (refl, refl); realms = λ rd realm is. (realm, is, (refl, refl, refl, refl)) }) halves

-- ---- an entry that is written

pub word_kind : (e : RmmRttEntry) → kind_of (entry_of (entry_word e)) ≡ kind_of e
unfolding entry_of entry_word
word_kind (Unassigned Empty) = refl
word_kind (Unassigned Ram) = refl
word_kind (Unassigned Destroyed) = refl
word_kind UnassignedNs = refl
word_kind (Table address) = by_kind 4 address
word_kind (AssignedNs desc) = by_kind 5 desc
word_kind (Assigned Empty address) = by_kind 6 address
word_kind (Assigned Ram address) = by_kind 7 address
word_kind (Assigned Destroyed address) = by_kind 8 address

table_kind : (e : RmmRttEntry) → is_table (kind_of e) ≡ is_table e
table_kind (Unassigned ripas) = refl
table_kind (Assigned ripas address) = refl
table_kind UnassignedNs = refl
table_kind (AssignedNs desc) = refl
table_kind (Table address) = refl

no_below : (m : Machine) (e : RmmRttEntry) → is_table e ≡ false → table_below m e ≡ None
no_below m (Unassigned ripas) never = refl
no_below m (Assigned ripas address) never = refl
no_below m UnassignedNs never = refl
no_below m (AssignedNs desc) never = refl
no_below m (Table address) never = absurd (cc)

-- an entry leads to no table if it has the same `kind_of` as an entry that is no TABLE
pub none_below : (m : Machine) (a b : RmmRttEntry) → kind_of a ≡ kind_of b → is_table b ≡ false → table_below m a ≡ None
none_below m a b same never = no_below m a (sym (table_kind a) ∙ ap is_table same ∙ table_kind b ∙ never)

module _ (m : Machine) (t i word : ℕ) (inside : t < length m.pages) (whole : length (page_in m t) ≡ 4096) (index : i < 512) (fits : word < 2 ^ 64) where
  abbrev written : Machine
  written = with_word m t i word

  now : page_in written t ≡ page_with_word (page_in m t) i word
  now = page_in-same m t (page_with_word (page_in m t) i word) inside

  pub entry_now : entry_in_page (page_in written t) i ≡ entry_of word
  unfolding entry_in_page
  entry_now = ap (λ (p : List ℕ). entry_of (word_of_page p i)) now ∙ ap entry_of (word_of_page-page_with_word_same (page_in m t) i word whole index fits)

  pub entry_beside : (j : ℕ) → j < 512 → j ≢ i → entry_in_page (page_in written t) j ≡ entry_in_page (page_in m t) j
  unfolding entry_in_page
  entry_beside j lt other = ap (λ (p : List ℕ). entry_of (word_of_page p j)) now ∙ ap entry_of (word_of_page-page_with_word_other (page_in m t) i word whole index j other lt)

-- writing an entry that satisfies `Fits` at its index of a table keeps `HasHalves`
pub entry_halved : (m : Machine) (t i : ℕ) (e : RmmRttEntry) → t < length m.pages → length (page_in m t) ≡ 4096 → i < 512 → (granule_at m t).state ≡ Rtt → (halves : HasHalves m)
    → Fits m halves.level halves.place t i (entry_of (entry_word e)) → HasHalves (with_word m t i (entry_word e))
entry_halved m t i e inside whole index table halves fits =
    let page : List ℕ = page_with_word (page_in m t) i (entry_word e) in
    record {
      level = halves.level;
      place = halves.place;
      is = page_halved m t page halves.level halves.place halves.is (λ j lt.
          ⊎_elim
          (λ (here : j ≡ i).
          subst (λ (k : ℕ). Fits m halves.level halves.place t k (entry_in_page (page_in (with_page m t page) t) k)) (sym here)
          (subst (Fits m halves.level halves.place t i) (sym (entry_now m t i (entry_word e) inside whole index (entry_word-fits e))) fits))
          (λ (other : j ≢ i).
          subst (Fits m halves.level halves.place t j) (sym (entry_beside m t i (entry_word e) inside whole index (entry_word-fits e) j lt other))
          (fits_before m halves.level halves.place halves.is t j table lt))
          (cases_eq j i));
    }

-- writing an entry that is no TABLE keeps `HasHalves`, if it satisfies `IsPlaced` and is allowed in its half
pub leaf_halved : (m : Machine) (t i : ℕ) (e : RmmRttEntry) → t < length m.pages → length (page_in m t) ≡ 4096 → i < 512 → (granule_at m t).state ≡ Rtt → is_table e ≡ false → (halves : HasHalves m)
    → descriptor_of e < 2 ^ 48 → IsPlaced m.settings (halves.level t) e
    → ((rd ipa : ℕ) (realm : RmmRealm) → (granule_at m rd).state ≡ Rd realm → granule_at m t ≡ of_realm rd Rtt → ipa / entry_size (halves.level t) ≡ halves.place t * 512 + i → IsOfHalf realm ipa e)
    → HasHalves (with_word m t i (entry_word e))
leaf_halved m t i e inside whole index table leaf halves few block half =
    entry_halved m t i e inside whole index table halves (
      λ rd ipa realm is owned covers. half_alike realm ipa e (entry_of (entry_word e)) (sym (word_kind e)) (half rd ipa realm is owned covers),
      λ child leads. (let none = none_below m (entry_of (entry_word e)) e (word_kind e) leaf in absurd (cc)),
      placed_word m.settings (halves.level t) e few block,
    )

-- writing an entry that is no TABLE keeps `HasHalves`, if it satisfies `IsPlaced` and is allowed in each half in which
-- the old entry was
pub alike_halved : (m : Machine) (t i : ℕ) (e : RmmRttEntry) → t < length m.pages → length (page_in m t) ≡ 4096 → i < 512 → (granule_at m t).state ≡ Rtt → is_table e ≡ false → (halves : HasHalves m)
    → descriptor_of e < 2 ^ 48 → IsPlaced m.settings (halves.level t) e → ((ipa : ℕ) (realm : RmmRealm) → IsOfHalf realm ipa (entry_in_page (page_in m t) i) → IsOfHalf realm ipa e) → HasHalves (with_word m t i (entry_word e))
alike_halved m t i e inside whole index table leaf halves few block same =
    leaf_halved m t i e inside whole index table leaf halves few block (λ rd ipa realm is owned covers. same ipa realm (halves.is.half rd t i ipa realm is owned index covers))
