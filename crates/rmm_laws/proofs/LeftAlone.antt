-- Proofs that a call leaves the granules of other realms unchanged, and changes pages of the host only as
-- `IsHostChanged` allows.
use Rattle.std.proofs.Common.{◌≡◌, ◌≢◌, ℕ, ◌+◌, ◌*◌, ◌&&◌, ◌⊎◌, inl, inr, Bool, true, false, Option, Some, None, refl, sym, ap, subst, ◌∙◌, ⊎_elim, arith}
use Rattle.std.specs.Prelude.{is_some}
use Rattle.std.proofs.lemmas.Bool.{cases_Bool, cases_eq, and_parts, both_ways, cond-true, cond-false, eqb-true}
use Rattle.granule_addr.specs.Page.{zero_page}
use Rattle.rmi_abi.specs.declared.call.Call.{Call}
use Rattle.rmi_abi.specs.declared.call.Call.TheVariants.{Version, GranuleDelegate, GranuleUndelegate, DataCreateUnknown, DataDestroy, RealmActivate, RealmCreate, RealmDestroy, RecCreate, RecDestroy, RecEnter, PsciComplete, RttCreate, RttDestroy, RttMapUnprotected, RttReadEntry, RttUnmapUnprotected, Features, RttFold, RecAuxCount, DataCreate, RttInitRipas, RttSetRipas}
use Rattle.rmm_model.specs.declared.granule.RmmGranuleState.{RmmGranuleState}
use Rattle.rmm_model.specs.declared.granule.RmmGranuleState.TheVariants.{Undelegated, Delegated, Rd, Rec as IsRec}
use Rattle.rmm_model.specs.declared.rec.PsciRequest.{PsciRequest}
use Rattle.rmm_model.specs.declared.rec.PsciRequest.TheVariants.{CpuOn}
use Rattle.rmm_model.specs.declared.rec.RmmRec.{RmmRec}
use Rattle.rmm_model.specs.Call.{command_of, performed}
use Rattle.rmm_model.specs.Granule.{of_no_realm, realm_of, rec_of}
use Rattle.rmm_model.specs.Guest.{rec_in, is_rec_named}
use Rattle.rmm_model.specs.Machine.{Machine, granule_at, page_in, is_aligned, is_inside, is_secure, number_of, state_at, with_granule, with_page, with_word}
use Rattle.rmm_model.specs.Command.GranuleDelegate.{granule_delegate}
use Rattle.rmm_model.specs.Command.Operand.{rec_at}
use Rattle.rmm_model.specs.Command.PsciComplete.{psci_complete, with_rec, with_target}
use Rattle.rmm_model.specs.Command.Features.{features}
use Rattle.rmm_model.specs.Command.RecAuxCount.{rec_aux_count}
use Rattle.rmm_model.specs.Command.RttReadEntry.{rtt_read_entry}
use Rattle.rmm_model.specs.Command.RecEnter.{rec_enter, interrupted}
use Rattle.rmm_model.specs.Command.Version.{version}
use Rattle.rmm_laws.specs.Apart.{rd_named, realm_of_rec, named_realm, IsHostChanged, IsRunPage, IsOfRealm, IsSpare, IsSameAt}
use Rattle.rmm_laws.specs.Owner.{is_rd, IsOrderly, IsOwner}
use Rattle.rmm_laws.specs.Proper.{IsProper}
use Rattle.rmm_laws.proofs.Accesses.{secure_page}
use Rattle.rmm_laws.proofs.Aside.{same_granule, same_page, interrupt_beside}
use Rattle.rmm_laws.proofs.Entries.{begins, number_inside}
use Rattle.rmm_laws.proofs.Guests.{entered_hosts, entered_secure, entered_touches, completed_touches, interrupted_then}
use Rattle.rmm_laws.proofs.Passed.{Passed, kept, yes_from, rec_of-some, rec_of-there, some_same}
use Rattle.rmm_laws.proofs.RecLives.{rec_created_touches}
use Rattle.rmm_laws.proofs.Recs.{IsSecureHost}
use Rattle.rmm_laws.proofs.RecsGone.{destroyed_touches}
use Rattle.rmm_laws.proofs.Touching.{Touches, IsMine, free_spare, untouched}
use Rattle.rmm_laws.proofs.TouchingCalls.{delegate_touches, undelegate_touches, activate_touches, realm_create_touches, realm_destroy_touches, rtt_create_touches, rtt_destroy_touches, rtt_fold_touches, map_touches, unmap_touches, init_ripas_touches, set_ripas_touches, data_create_touches, data_create_unknown_touches, data_destroy_touches}
use Rattle.rmm_laws.proofs.Writes.{granule_at-same, granule_at-other, page_in-same, page_in-other}

-- a call is one of those for which `Touches` allows changes to pages of the host
abbrev pub touches_host : Call → Bool
touches_host (GranuleDelegate address) = true
touches_host (RecEnter rec run) = true
touches_host (PsciComplete calling target status) = true
touches_host call = false

pub touches_of : (call : Call) (m : Machine) → IsProper m → Passed (command_of call m).checks → Touches (touches_host call) m (command_of call m).machine (named_realm m call)
unfolding version features rec_aux_count rtt_read_entry
touches_of (Version requested) m proper ok = untouched false m None
touches_of (Features index) m proper ok = untouched false m None
touches_of (GranuleDelegate address) m proper ok = delegate_touches address m ok
touches_of (GranuleUndelegate address) m proper ok = undelegate_touches address m ok
touches_of (RealmCreate rd params) m proper ok = realm_create_touches rd params m ok
touches_of (RealmActivate rd) m proper ok = activate_touches rd m ok
touches_of (RecAuxCount rd) m proper ok = untouched false m (rd_named m rd)
touches_of (RttReadEntry rd ipa level) m proper ok = untouched false m (rd_named m rd)
touches_of (RttCreate rd rtt ipa level) m proper ok = rtt_create_touches rd rtt ipa level m proper.linked ok
touches_of (RttDestroy rd ipa level) m proper ok = rtt_destroy_touches rd ipa level m proper.linked ok
touches_of (RealmDestroy rd) m proper ok = realm_destroy_touches rd m proper.linked ok
touches_of (RttFold rd ipa level) m proper ok = rtt_fold_touches rd ipa level m proper.linked ok
touches_of (RttMapUnprotected rd ipa level descriptor) m proper ok = map_touches rd ipa level descriptor m proper.linked ok
touches_of (RttUnmapUnprotected rd ipa level) m proper ok = unmap_touches rd ipa level m proper.linked ok
touches_of (DataCreate rd page ipa source flags) m proper ok = data_create_touches rd page ipa source flags m proper.linked ok
touches_of (DataCreateUnknown rd page ipa) m proper ok = data_create_unknown_touches rd page ipa m proper.linked ok
touches_of (DataDestroy rd ipa) m proper ok = data_destroy_touches rd ipa m proper.linked ok
touches_of (RttInitRipas rd base top) m proper ok = init_ripas_touches rd base top m proper.linked ok
touches_of (RttSetRipas rd rec base top) m proper ok = set_ripas_touches rd rec base top m proper.linked ok
touches_of (RecCreate rd rec params) m proper ok = rec_created_touches rd rec params m proper ok
touches_of (RecDestroy rec) m proper ok = destroyed_touches rec m proper ok
touches_of (RecEnter rec run) m proper ok = entered_touches rec run m proper ok
touches_of (PsciComplete calling target status) m proper ok = completed_touches calling target status m proper ok

pub left_alone : (call : Call) (m : Machine) (g : ℕ) → IsProper m → (IsOfRealm m (named_realm m call) g → ⊥) → (IsSpare m g → ⊥) → IsSameAt m (performed call m).1 g
unfolding performed
left_alone call m g proper not_ours not_spare =
    let touches = kept (λ (n : Machine). Touches (touches_host call) m n (named_realm m call)) (command_of call m) m (untouched (touches_host call) m (named_realm m call)) (touches_of call m proper) in
    ⊎_elim
    (λ (same : IsSameAt m (performed call m).1 g). same)
    (λ (mine : IsMine (touches_host call) m (named_realm m call) g). absurd (⊎_elim not_ours (λ free. not_spare (free_spare (touches_host call) m g free)) mine))
    (touches.each g)

-- ---- pages of the host

rd_some : (s : RmmGranuleState) → is_some (realm_of s) ≡ true → is_rd s ≡ true
rd_some (Rd realm) is = refl
rd_some _ is = absurd (cc)

rd_by_rd : (m : Machine) (rd r : ℕ) → rd_named m rd ≡ Some r → is_rd (granule_at m r).state ≡ true
rd_by_rd m rd r is =
    let named : Bool = is_aligned rd && is_inside m rd && is_some (realm_of (state_at m rd)) in
    ⊎_elim
    (λ (sure : named ≡ true).
    let it : number_of m rd ≡ r = some_same (sym (cond-true named (Some (number_of m rd)) None sure) ∙ is) in
    ap (λ (g : ℕ). is_rd (granule_at m g).state) (sym it) ∙ rd_some (state_at m rd) (and_parts (is_aligned rd && is_inside m rd) (is_some (realm_of (state_at m rd))) sure).1)
    (λ (never : named ≡ false). (let none : None ≡ Some r = sym (cond-false named (Some (number_of m rd)) None never) ∙ is in absurd (cc)))
    (cases_Bool named)

rd_by_rec : (m : Machine) (rec r : ℕ) → IsProper m → realm_of_rec m rec ≡ Some r → is_rd (granule_at m r).state ≡ true
rd_by_rec m rec r proper is =
    let g : ℕ = number_of m rec in
    ⊎_elim
    (λ (sure : is_rec_named m rec ≡ true).
    let owned : (granule_at m g).owner ≡ Some r = sym (cond-true (is_rec_named m rec) (granule_at m g).owner None sure) ∙ is in
    let there = rec_of-there (state_at m rec) (and_parts (is_aligned rec && is_inside m rec) (is_some (rec_of (state_at m rec))) sure).1 in
    let orderly = subst (λ (s : RmmGranuleState). IsOrderly m s (granule_at m g).owner (page_in m g)) there (proper.ordered.each g) in
    subst (IsOwner m) owned orderly.0)
    (λ (never : is_rec_named m rec ≡ false). (let none : None ≡ Some r = sym (cond-false (is_rec_named m rec) (granule_at m g).owner None never) ∙ is in absurd (cc)))
    (cases_Bool (is_rec_named m rec))

-- the granule that `named_realm` gives for a call is an RD
named_rd : (m : Machine) (call : Call) (r : ℕ) → IsProper m → named_realm m call ≡ Some r → is_rd (granule_at m r).state ≡ true
named_rd m (RealmActivate rd) r proper is = rd_by_rd m rd r is
named_rd m (RealmDestroy rd) r proper is = rd_by_rd m rd r is
named_rd m (RecAuxCount rd) r proper is = rd_by_rd m rd r is
named_rd m (RecCreate rd rec params) r proper is = rd_by_rd m rd r is
named_rd m (RecDestroy rec) r proper is = rd_by_rec m rec r proper is
named_rd m (RecEnter rec run) r proper is = rd_by_rec m rec r proper is
named_rd m (PsciComplete calling target status) r proper is = rd_by_rec m calling r proper is
named_rd m (RttCreate rd rtt ipa level) r proper is = rd_by_rd m rd r is
named_rd m (RttDestroy rd ipa level) r proper is = rd_by_rd m rd r is
named_rd m (RttFold rd ipa level) r proper is = rd_by_rd m rd r is
named_rd m (RttReadEntry rd ipa level) r proper is = rd_by_rd m rd r is
named_rd m (RttMapUnprotected rd ipa level descriptor) r proper is = rd_by_rd m rd r is
named_rd m (RttUnmapUnprotected rd ipa level) r proper is = rd_by_rd m rd r is
named_rd m (RttInitRipas rd base top) r proper is = rd_by_rd m rd r is
named_rd m (RttSetRipas rd rec base top) r proper is = rd_by_rd m rd r is
named_rd m (DataCreate rd page ipa source flags) r proper is = rd_by_rd m rd r is
named_rd m (DataCreateUnknown rd page ipa) r proper is = rd_by_rd m rd r is
named_rd m (DataDestroy rd ipa) r proper is = rd_by_rd m rd r is
named_rd m _ r proper is = absurd (cc)

-- an UNDELEGATED granule does not belong to the realm that a call names
host_apart : (m : Machine) (named : Option ℕ) (g : ℕ) → IsProper m → ((r : ℕ) → named ≡ Some r → is_rd (granule_at m r).state ≡ true) → (granule_at m g).state ≡ Undelegated → IsOfRealm m named g → ⊥
host_apart m (Some r) g proper rds free (inl here) = both_ways (is_rd (granule_at m r).state) (ap (λ (y : ℕ). is_rd (granule_at m y).state) (sym here) ∙ ap is_rd free) (rds r refl)
host_apart m (Some r) g proper rds free (inr owned) =
    let none : (granule_at m g).owner ≡ None = subst (λ (s : RmmGranuleState). IsOrderly m s (granule_at m g).owner (page_in m g)) free (proper.ordered.each g) in
    cc
host_apart m None g proper rds free ours = ours

quiet : (call : Call) (m : Machine) (g : ℕ) → IsProper m → Passed (command_of call m).checks → (granule_at m g).state ≡ Undelegated → Touches false m (command_of call m).machine (named_realm m call)
    → IsSameAt m (command_of call m).machine g
quiet call m g proper ok free touches =
    ⊎_elim
    (λ (same : IsSameAt m (command_of call m).machine g). same)
    (λ (mine : IsMine false m (named_realm m call) g). absurd (⊎_elim
    (λ (ours : IsOfRealm m (named_realm m call) g). host_apart m (named_realm m call) g proper (λ r is. named_rd m call r proper is) free ours)
    (λ (blank : (granule_at m g).state ≡ Delegated). cc)
    mine))
    (touches.each g)

target_same : (m k : Machine) (g t : ℕ) (rec : RmmRec) (request : PsciRequest) (begins : Bool) → g ≢ t → IsSameAt m k g → IsSameAt m (with_target k t rec request begins) g
target_same m k g t rec (CpuOn target entry_point context) true other same =
    let on : Machine = with_rec k t (record rec { is_runnable = true }) in
    let first : Machine = with_word on t 31 entry_point in
    same_page m g first t _ other (same_page m g on t _ other (same_granule m g k t _ other same))
target_same m k g t rec request begins other same = same

-- RMI_PSCI_COMPLETE leaves each granule that is no REC as it was
pub completed_beside : (calling target status : ℕ) (m : Machine) (g : ℕ) → Passed (psci_complete calling target status m).checks → ((rec : RmmRec) → (granule_at m g).state ≡ IsRec rec → ⊥) → IsSameAt m (psci_complete calling target status m).machine g
unfolding psci_complete
completed_beside calling target status m g ok plain =
    let caller = rec_of-some (state_at m calling) ok.1.1.1.0 in
    let also = rec_of-some (state_at m target) ok.1.1.1.1.1.1.0 in
    let not_caller : g ≢ number_of m calling = λ same. plain (rec_at m calling) (ap (λ (x : ℕ). (granule_at m x).state) same ∙ caller) in
    let not_target : g ≢ number_of m target = λ same. plain (rec_at m target) (ap (λ (x : ℕ). (granule_at m x).state) same ∙ also) in
    target_same m _ g (number_of m target) (rec_at m target) (rec_at m calling).psci _ not_target (same_granule m g m (number_of m calling) _ not_caller (refl, refl))

delegated_same : (address : ℕ) (m : Machine) (g : ℕ) → g ≢ number_of m address → IsSameAt m (granule_delegate address m).machine g
unfolding granule_delegate
delegated_same address m g other =
    let x : ℕ = number_of m address in
    (granule_at-other m x g (of_no_realm Delegated) other, page_in-other (with_granule m x (of_no_realm Delegated)) x g zero_page other)

-- RMI_GRANULE_DELEGATE changes the granule at its address as `IsHostChanged` allows
delegated_now : (address : ℕ) (m : Machine) (g : ℕ) → IsProper m → Passed (granule_delegate address m).checks → g ≡ number_of m address → IsHostChanged m (granule_delegate address m).machine (Some (GranuleDelegate address)) g
unfolding granule_delegate
delegated_now address m g proper ok here =
    let x : ℕ = number_of m address in
    let sound = proper.linked.sound in
    let pages = sound.pages in
    let inside : is_inside m address ≡ true = yes_from (is_inside m address) ok.1.0 in
    let lt = number_inside m address inside in
    let marked : Machine = with_granule m x (of_no_realm Delegated) in (
      begins m address sound inside (eqb-true _ _ (yes_from (is_aligned address) ok.0)),
      here,
      ap (λ (y : ℕ). is_secure m (m.settings.base + y * 4096)) here ∙ secure_page m address sound inside ∙ ok.1.1.1.0,
      ap (granule_at marked) here ∙ granule_at-same m x (of_no_realm Delegated) lt,
      ap (page_in (with_page marked x zero_page)) here ∙ page_in-same marked x zero_page (omega arith),
    )

-- RMI_REC_ENTER leaves a page of the host as it was, or changes it as `IsHostChanged` allows
entered_page : (rec run : ℕ) (m : Machine) (g : ℕ) → IsProper m → Passed (rec_enter rec run m).checks → (granule_at m g).state ≡ Undelegated
    → IsSameAt m (rec_enter rec run m).machine g ⊎ IsHostChanged m (rec_enter rec run m).machine (Some (RecEnter rec run)) g
entered_page rec run m g proper ok free =
    let attributes = entered_hosts rec run m proper ok g free in
    ⊎_elim
    (λ (secure : is_secure m (m.settings.base + g * 4096) ≡ true). inl (attributes, entered_secure rec run m proper ok g (free, secure)))
    (λ (normal : is_secure m (m.settings.base + g * 4096) ≡ false). inr (normal, attributes))
    (cases_Bool (is_secure m (m.settings.base + g * 4096)))

host_after : (call : Call) (m : Machine) (g : ℕ) → IsProper m → (granule_at m g).state ≡ Undelegated → (ok : Passed (command_of call m).checks) → Touches (touches_host call) m (command_of call m).machine (named_realm m call)
    → IsSameAt m (command_of call m).machine g ⊎ IsHostChanged m (command_of call m).machine (Some call) g
host_after (GranuleDelegate address) m g proper free ok touches =
    ⊎_elim (λ (here : g ≡ number_of m address). inr (delegated_now address m g proper ok here)) (λ (other : g ≢ number_of m address). inl (delegated_same address m g other)) (cases_eq g (number_of m address))
host_after (RecEnter rec run) m g proper free ok touches = entered_page rec run m g proper ok free
host_after (PsciComplete calling target status) m g proper free ok touches = inl (completed_beside calling target status m g ok (λ rec is. cc))
host_after call m g proper free ok touches = inl (quiet call m g proper ok free touches)

-- a call leaves each page of the host as it was, or changes it as `IsHostChanged` allows
pub host_left : (call : Call) (m : Machine) (g : ℕ) → IsProper m → (granule_at m g).state ≡ Undelegated → IsSameAt m (performed call m).1 g ⊎ IsHostChanged m (performed call m).1 (Some call) g
unfolding performed
host_left call m g proper free =
    kept (λ (n : Machine). IsSameAt m n g ⊎ IsHostChanged m n (Some call) g) (command_of call m) m (inl (refl, refl)) (λ ok. host_after call m g proper free ok (touches_of call m proper ok))

-- an interrupt leaves each page of the host as it was, except the REC's run page if that is outside the secure world
pub interrupt_host : (m : Machine) (rec g : ℕ) → IsProper m → (granule_at m g).state ≡ Undelegated → IsSameAt m (interrupted m rec).1 g ⊎ IsRunPage m (interrupted m rec).1 rec g
interrupt_host m rec g proper free =
    let kept = interrupted_then (λ (k : Machine). (granule_at k g ≡ granule_at m g) × (IsSecureHost m g → page_in k g ≡ page_in m g)) m rec proper (refl, λ it. refl) (λ w h k going. (going.hosts g free, going.secure g)) in
    ⊎_elim
    (λ (same : IsSameAt m (interrupted m rec).1 g). inl same)
    (λ (here : g ≡ number_of m (rec_in m (number_of m rec)).run).
    ⊎_elim
    (λ (secure : is_secure m (m.settings.base + g * 4096) ≡ true). inl (kept.0, kept.1 (free, secure)))
    (λ (normal : is_secure m (m.settings.base + g * 4096) ≡ false). inr (here, normal, kept.0))
    (cases_Bool (is_secure m (m.settings.base + g * 4096))))
    (interrupt_beside m rec g free)
