-- Proofs that calls, stores, fills, interrupts and the queueing of guest steps change a property of protected
-- addresses, such as RIPAS, only as a given relation allows.
use Rattle.std.proofs.Common.{◌≡◌, ℕ, ◌/◌, ◌%◌, ◌<◌, ◌⊎◌, ◌==◌, inl, Bool, true, false, List, length, Option, Some, None, refl, sym, ap, subst, ◌∙◌, ⊎_elim, arith}
use Rattle.std.proofs.lemmas.Bool.{cond_both, and_parts}
use Rattle.std.proofs.lemmas.List.{length-set}
use Rattle.granule_addr.specs.Page.{page_of}
use Rattle.rmi_abi.specs.declared.call.Call.{Call}
use Rattle.rmi_abi.specs.declared.call.Call.TheVariants.{Version, Features, GranuleDelegate, GranuleUndelegate, RealmCreate, RealmActivate, RealmDestroy, RecAuxCount, RecCreate, RecDestroy, RecEnter, PsciComplete}
use Rattle.rmi_abi.specs.declared.call.Call.TheVariants.{RttReadEntry, RttCreate, RttDestroy, RttFold, RttMapUnprotected, RttUnmapUnprotected, RttInitRipas, RttSetRipas, DataCreate, DataCreateUnknown, DataDestroy}
use Rattle.rmi_abi.specs.declared.registers.Registers.{Registers}
use Rattle.rmm_model.specs.declared.entry.RmmRttEntry.{RmmRttEntry}
use Rattle.rmm_model.specs.declared.granule.RmmGranule.{RmmGranule}
use Rattle.rmm_model.specs.declared.granule.RmmGranuleState.TheVariants.{Delegated, Rd}
use Rattle.rmm_model.specs.declared.realm.RmmRealm.{RmmRealm}
use Rattle.rmm_model.specs.Call.{command_of, performed, rmi_at}
use Rattle.rmm_model.specs.declared.step.StepWords.{StepWords}
use Rattle.rmm_model.specs.Granule.{of_no_realm}
use Rattle.rmm_model.specs.Guest.{queued}
use Rattle.rmm_model.specs.Host.{is_host_page, can_access, can_fill, after_store, after_fill}
use Rattle.rmm_model.specs.Machine.{Machine, granule_at, is_aligned, is_inside, number_of, with_page, with_word}
use Rattle.rmm_model.specs.Realm.{is_protected}
use Rattle.rmm_model.specs.Command.Operand.{realm_at}
use Rattle.rmm_model.specs.Command.RealmActivate.{realm_activate}
use Rattle.rmm_model.specs.Command.RealmDestroy.{realm_destroy, without_tables}
use Rattle.rmm_model.specs.Command.RecAuxCount.{rec_aux_count}
use Rattle.rmm_model.specs.Command.RecEnter.{interrupted}
use Rattle.rmm_model.specs.Command.RttReadEntry.{rtt_read_entry}
use Rattle.rmm_laws.specs.Apart.{named_realm, rd_named}
use Rattle.rmm_laws.specs.Proper.{IsProper}
use Rattle.rmm_laws.specs.State.{fixed, IsLasting, IsDestroyed}
use Rattle.rmm_laws.proofs.Entries.{number_inside}
use Rattle.rmm_laws.proofs.Guests.{entered_tables, completed_tables, given_then, interrupted_then}
use Rattle.rmm_laws.proofs.KeptTables.{same_read, tables_of}
use Rattle.rmm_laws.proofs.Lasting.{Lasts, lasts_all}
use Rattle.rmm_laws.proofs.LastingCalls.{realms_after}
use Rattle.rmm_laws.proofs.LeftAlone.{touches_host, touches_of}
use Rattle.rmm_laws.proofs.Passed.{Passed, kept, yes_from}
use Rattle.rmm_laws.proofs.Plain.{host_plain}
use Rattle.rmm_laws.proofs.RecLives.{rec_created_tables}
use Rattle.rmm_laws.proofs.Recs.{IsGoing}
use Rattle.rmm_laws.proofs.RecsGone.{destroyed_tables}
use Rattle.rmm_laws.proofs.SameTables.{KeepsTables, tables_all, tables_page}
use Rattle.rmm_laws.proofs.States.{same_realm}
use Rattle.rmm_laws.proofs.Touching.{Touches}
use Rattle.rmm_laws.proofs.Writes.{granule_at-same}
use Rattle.rmm_laws.proofs.KeptTables.{read_at, IsRead}
use Rattle.rmm_laws.proofs.ReadCalls.{ReadsSo, tables_read, none_read, rd_read}

-- a call is an RMI_RTT or RMI_DATA command, except RMI_RTT_READ_ENTRY; these change entries or tables of a realm
abbrev pub is_acting : Call → Bool
is_acting (RttCreate of rtt ipa level) = true
is_acting (RttDestroy of ipa level) = true
is_acting (RttFold of ipa level) = true
is_acting (RttMapUnprotected of ipa level desc) = true
is_acting (RttUnmapUnprotected of ipa level) = true
is_acting (RttInitRipas of base top) = true
is_acting (RttSetRipas of rec base top) = true
is_acting (DataCreate of page ipa source flags) = true
is_acting (DataCreateUnknown of page ipa) = true
is_acting (DataDestroy of ipa) = true
is_acting _ = false

-- the address of the RD that a call names, if `is_acting` holds of the call; 0 for any other call
abbrev pub target_of : Call → ℕ
target_of (RttCreate of rtt ipa level) = of
target_of (RttDestroy of ipa level) = of
target_of (RttFold of ipa level) = of
target_of (RttMapUnprotected of ipa level desc) = of
target_of (RttUnmapUnprotected of ipa level) = of
target_of (RttInitRipas of base top) = of
target_of (RttSetRipas of rec base top) = of
target_of (DataCreate of page ipa source flags) = of
target_of (DataCreateUnknown of page ipa) = of
target_of (DataDestroy of ipa) = of
target_of _ = 0

-- the RD of a realm that is destroyed is no RD any more
pub no_rd_left : (of : ℕ) (m : Machine) (after : RmmRealm) → length (realm_destroy of m).machine.granules ≡ length m.granules → Passed (realm_destroy of m).checks
    → (granule_at (realm_destroy of m).machine (number_of m of)).state ≡ Rd after → ⊥
unfolding realm_destroy
no_rd_left of m after count ok is =
    let realm : RmmRealm = realm_at m of in
    let k : Machine = without_tables m realm realm.table_count in
    let same = length-set k.granules (number_of m of) (of_no_realm Delegated) in
    let inside : number_of m of < length k.granules = (let lt = number_inside m of (yes_from (is_inside m of) ok.1.0) in omega arith) in
    let now = ap (λ (c : RmmGranule). c.state) (granule_at-same k (number_of m of) (of_no_realm Delegated) inside) in
    cc

pub destroyed_no_rd : (call : Call) (m : Machine) (rd : ℕ) (after : RmmRealm) → length (command_of call m).machine.granules ≡ length m.granules → Passed (command_of call m).checks → IsDestroyed m (Some call) rd
    → (granule_at (command_of call m).machine rd).state ≡ Rd after → ⊥
destroyed_no_rd (RealmDestroy of) m rd after count ok gone is = no_rd_left of m after count ok (subst (λ (g : ℕ). (granule_at (realm_destroy of m).machine g).state ≡ Rd after) gone is)
destroyed_no_rd _ m rd after count ok gone is = gone

-- `F` gives the value that is read at an address, from the entry and its level; `G` relates the values before and after
-- a call that may change them
module _ (x : ℕ) (A : Type 0) (F : RmmRttEntry → ℕ → A) (G : Machine → Option Call → ℕ → A → A → Type 0) where
  -- In each realm that exists before and after a call, the value read at a protected address is the same, or `G` allows
  -- the new one for the call.
  abbrev pub KeepsRead : Machine → Option Call → Machine → Type 0
  KeepsRead m call n =
      (rd : ℕ) (before after : RmmRealm) → (granule_at m rd).state ≡ Rd before → (granule_at n rd).state ≡ Rd after → is_protected before x ≡ true
      → IsRead A F m n before after x ⊎ G m call rd (read_at A F m before x) (read_at A F n after x)

  same_read_so : (m : Machine) (call : Option Call) → KeepsRead m call m
  same_read_so m call rd before after is then protected = inl (ap (λ (realm : RmmRealm). read_at A F m realm x) (same_realm (sym then ∙ is)))

  -- ---- each call

  module _ (own : (call : Call) (m : Machine) → is_acting call ≡ true → IsProper m → Passed (command_of call m).checks → length (command_of call m).machine.granules ≡ length m.granules → (after : RmmRealm)
      → ReadsSo x A F (G m (Some call)) m (command_of call m).machine (number_of m (target_of call)) (realm_at m (target_of call)) after) where
    by_kept : (call : Call) (m : Machine) (rd : ℕ) (before after : RmmRealm) → IsProper m → Touches (touches_host call) m (command_of call m).machine (named_realm m call) → (granule_at m rd).state ≡ Rd before
        → KeepsTables m (command_of call m).machine → ReadsSo x A F (G m (Some call)) m (command_of call m).machine rd before after
    by_kept call m rd before after proper touches is kept =
        tables_read x A F (G m (Some call)) m (command_of call m).machine rd before after proper touches.settings touches.count is (tables_of m (command_of call m).machine rd kept)

    by_own : (call : Call) (m : Machine) → is_acting call ≡ true → IsProper m → Passed (command_of call m).checks → Touches false m (command_of call m).machine (rd_named m (target_of call)) → (rd : ℕ) (before after : RmmRealm)
        → (granule_at m rd).state ≡ Rd before → ReadsSo x A F (G m (Some call)) m (command_of call m).machine rd before after
    by_own call m acts proper ok touches rd before after is = rd_read x A F (G m (Some call)) m (command_of call m).machine (target_of call) proper touches (own call m acts proper ok touches.count) rd before after is

    passed_read : (call : Call) (m : Machine) → IsProper m → (ok : Passed (command_of call m).checks) → Touches (touches_host call) m (command_of call m).machine (named_realm m call) → (rd : ℕ) (before after : RmmRealm)
        → (granule_at m rd).state ≡ Rd before → ReadsSo x A F (G m (Some call)) m (command_of call m).machine rd before after
    unfolding realm_activate rec_aux_count rtt_read_entry
    passed_read (Version requested) m proper ok touches rd before after is = none_read x A F (G m (Some (Version requested))) false m _ rd before after proper touches is
    passed_read (Features index) m proper ok touches rd before after is = none_read x A F (G m (Some (Features index))) false m _ rd before after proper touches is
    passed_read (GranuleDelegate address) m proper ok touches rd before after is = none_read x A F (G m (Some (GranuleDelegate address))) true m _ rd before after proper touches is
    passed_read (GranuleUndelegate address) m proper ok touches rd before after is = none_read x A F (G m (Some (GranuleUndelegate address))) false m _ rd before after proper touches is
    passed_read (RealmCreate of params) m proper ok touches rd before after is = none_read x A F (G m (Some (RealmCreate of params))) false m _ rd before after proper touches is
    passed_read (RealmActivate of) m proper ok touches rd before after is = tables_read x A F (G m (Some (RealmActivate of))) m _ rd before after proper touches.settings touches.count is (λ g table. refl)
    passed_read (RecAuxCount of) m proper ok touches rd before after is = tables_read x A F (G m (Some (RecAuxCount of))) m _ rd before after proper touches.settings touches.count is (λ g table. refl)
    passed_read (RttReadEntry of ipa level) m proper ok touches rd before after is = tables_read x A F (G m (Some (RttReadEntry of ipa level))) m _ rd before after proper touches.settings touches.count is (λ g table. refl)
    passed_read (RecCreate of rec params) m proper ok touches rd before after is = by_kept (RecCreate of rec params) m rd before after proper touches is (rec_created_tables of rec params m proper ok)
    passed_read (RecDestroy rec) m proper ok touches rd before after is = by_kept (RecDestroy rec) m rd before after proper touches is (destroyed_tables rec m proper ok)
    passed_read (RecEnter rec run) m proper ok touches rd before after is = by_kept (RecEnter rec run) m rd before after proper touches is (entered_tables rec run m proper ok)
    passed_read (PsciComplete calling target status) m proper ok touches rd before after is = by_kept (PsciComplete calling target status) m rd before after proper touches is (completed_tables calling target status m proper ok)
    passed_read (RealmDestroy of) m proper ok touches rd before after is =
        rd_read x A F (G m (Some (RealmDestroy of))) m _ of proper touches (λ later then start first protected. absurd (no_rd_left of m later touches.count ok then)) rd before after is
    passed_read (RttCreate of rtt ipa level) m proper ok touches rd before after is = by_own (RttCreate of rtt ipa level) m refl proper ok touches rd before after is
    passed_read (RttDestroy of ipa level) m proper ok touches rd before after is = by_own (RttDestroy of ipa level) m refl proper ok touches rd before after is
    passed_read (RttFold of ipa level) m proper ok touches rd before after is = by_own (RttFold of ipa level) m refl proper ok touches rd before after is
    passed_read (RttMapUnprotected of ipa level desc) m proper ok touches rd before after is = by_own (RttMapUnprotected of ipa level desc) m refl proper ok touches rd before after is
    passed_read (RttUnmapUnprotected of ipa level) m proper ok touches rd before after is = by_own (RttUnmapUnprotected of ipa level) m refl proper ok touches rd before after is
    passed_read (DataCreate of page ipa source flags) m proper ok touches rd before after is = by_own (DataCreate of page ipa source flags) m refl proper ok touches rd before after is
    passed_read (DataCreateUnknown of page ipa) m proper ok touches rd before after is = by_own (DataCreateUnknown of page ipa) m refl proper ok touches rd before after is
    passed_read (DataDestroy of ipa) m proper ok touches rd before after is = by_own (DataDestroy of ipa) m refl proper ok touches rd before after is
    passed_read (RttInitRipas of base top) m proper ok touches rd before after is = by_own (RttInitRipas of base top) m refl proper ok touches rd before after is
    passed_read (RttSetRipas of rec base top) m proper ok touches rd before after is = by_own (RttSetRipas of rec base top) m refl proper ok touches rd before after is

    pub ok_read : (call : Call) (m : Machine) → IsProper m → Passed (command_of call m).checks → KeepsRead m (Some call) (command_of call m).machine
    ok_read call m proper ok rd before after is then protected =
        let n : Machine = (command_of call m).machine in
        let touches = touches_of call m proper ok in
        ⊎_elim
        (λ (lasting : IsLasting n rd before).
        let it : lasting.0 ≡ after = same_realm (sym lasting.1 ∙ then) in
        let same : fixed after ≡ fixed before = ap fixed (sym it) ∙ lasting.2 in
        passed_read call m proper ok touches rd before after is then (ap (λ (r : RmmRealm). r.start_level) same) (ap (λ (r : RmmRealm). r.first_table) same) protected)
        (λ (gone : IsDestroyed m (Some call) rd). absurd (destroyed_no_rd call m rd after touches.count ok gone then))
        (realms_after call m proper ok rd before is)

    pub call_read : (o : Option Call) (r : Registers) (m : Machine) → IsProper m → KeepsRead m o (rmi_at o r m).1
    unfolding performed
    call_read None r m proper = same_read_so m None
    call_read (Some call) r m proper = kept (KeepsRead m (Some call)) (command_of call m) m (same_read_so m (Some call)) (ok_read call m proper)

  -- ---- stores, fills, steps and interrupts

  kept_read : (m n : Machine) → IsProper m → n.settings ≡ m.settings → length n.granules ≡ length m.granules → KeepsTables m n → Lasts m n → KeepsRead m None n
  kept_read m n proper settings count tables lasts rd before after is then protected =
      let lasting = lasts rd before is in
      let same : fixed after ≡ fixed before = ap fixed (same_realm (sym then ∙ lasting.1)) ∙ lasting.2 in
      inl (same_read m n proper settings count rd x before A F after (ap (λ (r : RmmRealm). r.start_level) same) (ap (λ (r : RmmRealm). r.first_table) same) is protected (tables_of m n rd tables))

  host_read : (m : Machine) (address : ℕ) (page : List ℕ) → IsProper m → is_host_page m address ≡ true → KeepsRead m None (with_page m (number_of m address) page)
  host_read m address page proper host =
      kept_read m (with_page m (number_of m address) page) proper refl refl (tables_page m m (number_of m address) page (λ table. (let free = host_plain m address host in cc)) (tables_all m)) (lasts_all m)

  pub stored_read : (m : Machine) (address word : ℕ) → IsProper m → KeepsRead m None (after_store m address word)
  stored_read m address word proper =
      cond_both (can_access m address) (with_word m (number_of m address) (address % 4096 / 8) word) m (KeepsRead m None)
      (λ can. host_read m address _ proper (and_parts (address % 8 == 0) (is_host_page m address) can).1)
      (λ cannot. same_read_so m None)

  pub filled_read : (m : Machine) (address value : ℕ) → IsProper m → KeepsRead m None (after_fill m address value)
  filled_read m address value proper =
      cond_both (can_fill m address) (with_page m (number_of m address) (page_of value)) m (KeepsRead m None)
      (λ can. host_read m address _ proper (and_parts (is_aligned address) (is_host_page m address) can).1)
      (λ cannot. same_read_so m None)

  pub going_read : (m : Machine) → IsProper m → (w g : ℕ) (n : Machine) → IsGoing m w g n → KeepsRead m None n
  going_read m proper w g n going = kept_read m n proper going.touches.settings going.touches.count going.tables going.lasts

  pub given_read : (m : Machine) (rec : ℕ) (w : StepWords) → IsProper m → KeepsRead m None (queued m rec w).1
  given_read m rec w proper = given_then (KeepsRead m None) m rec w proper (same_read_so m None) (going_read m proper)

  pub interrupted_read : (m : Machine) (rec : ℕ) → IsProper m → KeepsRead m None (interrupted m rec).1
  interrupted_read m rec proper = interrupted_then (KeepsRead m None) m rec proper (same_read_so m None) (going_read m proper)
