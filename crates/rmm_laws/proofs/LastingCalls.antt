-- Proofs that after a call each realm still exists with the same fixed attributes, unless the call destroys the realm.
use Rattle.std.proofs.Common.{◌≡◌, ◌≢◌, ℕ, ◌<◌, ◌⊎◌, inl, inr, false, List, length, Option, Some, None, refl, sym, ap, subst, ◌∙◌, ⊎_elim}
use Rattle.std.proofs.lemmas.Bool.{both_ways}
use Rattle.std.proofs.lemmas.List.{length-set}
use Rattle.rmi_abi.specs.declared.call.Call.{Call}
use Rattle.rmi_abi.specs.declared.call.Call.TheVariants.{GranuleDelegate, GranuleUndelegate, DataCreateUnknown, DataDestroy, RealmActivate, RealmCreate, RealmDestroy, RecCreate, RecDestroy, RecEnter, PsciComplete, RttCreate, RttDestroy, RttFold, DataCreate, RttInitRipas, RttSetRipas}
use Rattle.rmi_abi.specs.declared.registers.Registers.{Registers}
use Rattle.rmi_abi.specs.declared.registers.SmcResult.{SmcResult}
use Rattle.rmi_abi.specs.declared.word.Word.TheVariants.{Success}
use Rattle.rmi_abi.specs.RecParams.{is_runnable_in, mpidr_in}
use Rattle.rmm_model.specs.declared.granule.RmmGranule.{RmmGranule}
use Rattle.rmm_model.specs.declared.granule.RmmGranuleState.{RmmGranuleState}
use Rattle.rmm_model.specs.declared.granule.RmmGranuleState.TheVariants.{Undelegated, Delegated, Data, Rd, Rtt, RecAux, Rec as IsRec}
use Rattle.rmm_model.specs.declared.realm.RmmRealm.{RmmRealm}
use Rattle.rmm_model.specs.declared.realm.RmmRealmState.TheVariants.{Active}
use Rattle.rmm_model.specs.Call.{command_of, performed, rmi_at}
use Rattle.rmm_model.specs.Granule.{of_no_realm, of_realm, is_delegated, is_undelegated}
use Rattle.rmm_model.specs.Machine.{Machine, granule_at, page_in, number_of, state_at, with_granule}
use Rattle.rmm_model.specs.Realm.{with_rim}
use Rattle.rmm_model.specs.Rec.{new_rec}
use Rattle.rmm_model.specs.Command.Auxiliary.{with_aux}
use Rattle.rmm_model.specs.Command.DataCreate.{data_create, source_checks, target_checks, rim_with_data}
use Rattle.rmm_model.specs.Command.DataCreateUnknown.{data_create_unknown}
use Rattle.rmm_model.specs.Command.DataDestroy.{data_destroy}
use Rattle.rmm_model.specs.Command.Features.{features}
use Rattle.rmm_model.specs.Command.GranuleDelegate.{granule_delegate}
use Rattle.rmm_model.specs.Command.GranuleUndelegate.{granule_undelegate}
use Rattle.rmm_model.specs.Command.Operand.{realm_at}
use Rattle.rmm_model.specs.Command.RealmActivate.{realm_activate}
use Rattle.rmm_model.specs.Command.RealmDestroy.{realm_destroy}
use Rattle.rmm_model.specs.Command.RecAuxCount.{rec_aux_count}
use Rattle.rmm_model.specs.Command.RecCreate.{rec_create, aux_checks, number_checks, with_created_rec, with_one_more}
use Rattle.rmm_model.specs.Command.RecDestroy.{rec_destroy}
use Rattle.rmm_model.specs.Command.RipasRange.{with_ripas_from}
use Rattle.rmm_model.specs.Command.RttCreate.{rtt_create}
use Rattle.rmm_model.specs.Command.RttDestroy.{rtt_destroy}
use Rattle.rmm_model.specs.Command.RttFold.{rtt_fold}
use Rattle.rmm_model.specs.Command.RttInitRipas.{rtt_init_ripas, range_checks}
use Rattle.rmm_model.specs.Command.RttMapUnprotected.{rtt_map_unprotected}
use Rattle.rmm_model.specs.Command.RttReadEntry.{rtt_read_entry}
use Rattle.rmm_model.specs.Command.RttSetRipas.{rtt_set_ripas}
use Rattle.rmm_model.specs.Command.RttUnmapUnprotected.{rtt_unmap_unprotected}
use Rattle.rmm_model.specs.Command.Version.{version}
use Rattle.rmm_laws.specs.Apart.{named_realm, IsOfRealm, IsSameAt, IsSpare}
use Rattle.rmm_laws.specs.Back.{ComesBack}
use Rattle.rmm_laws.specs.Owner.{is_rd, IsOrderly}
use Rattle.rmm_laws.specs.Proper.{IsProper}
use Rattle.rmm_laws.specs.State.{fixed, IsLasting, KeepsRealms}
use Rattle.rmm_laws.proofs.Effects.{aux_length}
use Rattle.rmm_laws.proofs.Fold.{own_result}
use Rattle.rmm_laws.proofs.Freed.{rtt_destroy_back, rtt_fold_back, data_destroy_back}
use Rattle.rmm_laws.proofs.Guests.{entered_lasts, completed_lasts}
use Rattle.rmm_laws.proofs.LeftAlone.{touches_host, touches_of}
use Rattle.rmm_laws.proofs.Orders.{rd_is}
use Rattle.rmm_laws.proofs.Passed.{Passed, kept, yes_from, is_delegated-true, is_undelegated-true, realm_of-some, rec_of-some, rd_named-is, some_same}
use Rattle.rmm_laws.proofs.RecsGone.{fixed_of, destroyed_changed}
use Rattle.rmm_laws.proofs.Lasting.{Lasts, lasts_all, lasts_plain, lasts_realm}
use Rattle.rmm_laws.proofs.States.{same_realm}
use Rattle.rmm_laws.proofs.Teardown.{own_word}
use Rattle.rmm_laws.proofs.Touching.{Touches, IsFree, IsMine, free_spare}
use Rattle.rmm_laws.proofs.Writes.{granule_at-same, taken_inside}

-- ---- RDs that a call does not name

named_by : (m : Machine) (named : Option ℕ) (g : ℕ) (realm : RmmRealm) → IsProper m → (granule_at m g).state ≡ Rd realm → IsOfRealm m named g → named ≡ Some g
named_by m (Some rd) g realm proper is (inl it) = ap (λ (x : ℕ). Some x) (sym it)
named_by m (Some rd) g realm proper is (inr owned) =
    let none : (granule_at m g).owner ≡ None = subst (λ (s : RmmGranuleState). IsOrderly m s (granule_at m g).owner (page_in m g)) is (proper.ordered.each g) in
    absurd (cc)
named_by m None g realm proper is ours = absurd ours

not_spare : (m : Machine) (g : ℕ) (realm : RmmRealm) → (granule_at m g).state ≡ Rd realm → IsSpare m g → ⊥
not_spare m g realm is (inl host) = cc
not_spare m g realm is (inr free) = cc

-- a realm still exists with the same fixed attributes, or the call names it
rd_or : (call : Call) (m : Machine) (g : ℕ) (realm : RmmRealm) → IsProper m → Passed (command_of call m).checks → (granule_at m g).state ≡ Rd realm
    → IsLasting (command_of call m).machine g realm ⊎ (named_realm m call ≡ Some g)
rd_or call m g realm proper ok is =
    let touches : Touches (touches_host call) m (command_of call m).machine (named_realm m call) = touches_of call m proper ok in
    ⊎_elim
    (λ (same : IsSameAt m (command_of call m).machine g). inl (realm, ap (λ (r : RmmGranule). r.state) same.0 ∙ is, refl))
    (λ (mine : IsMine (touches_host call) m (named_realm m call) g). ⊎_elim
    (λ (ours : IsOfRealm m (named_realm m call) g). inr (named_by m (named_realm m call) g realm proper is ours))
    (λ (free : IsFree (touches_host call) m g). absurd (not_spare m g realm is (free_spare (touches_host call) m g free)))
    mine)
    (touches.each g)

-- ---- calls

lasts_back : (m n : Machine) (r address : ℕ) (s : RmmGranuleState) → is_rd s ≡ false → ComesBack m n r s address → Lasts m n
lasts_back m n r address s plain back g realm is =
    let x : ℕ = number_of m address in
    let other : g ≢ x = λ same. both_ways (is_rd (granule_at m x).state) (ap (λ (c : RmmGranule). is_rd c.state) back.was ∙ plain) (ap (λ (y : ℕ). is_rd (granule_at m y).state) (sym same) ∙ ap is_rd is) in
    (realm, ap (λ (c : RmmGranule). c.state) (back.others g other) ∙ is, refl)

abbrev Keeps : Machine → Call → Machine → Type 0
Keeps m call n = KeepsRealms m (Some call) n

by_lasts : (call : Call) (m n : Machine) → Lasts m n → Keeps m call n
by_lasts call m n lasts g realm is = inl (lasts g realm is)

table_word : (rd ipa level : ℕ) (m : Machine) → Passed (rtt_destroy rd ipa level m).checks → (performed (RttDestroy rd ipa level) m).0.word ≡ Success
unfolding rtt_destroy
table_word rd ipa level m ok = own_word (RttDestroy rd ipa level) m ok

fold_word : (rd ipa level : ℕ) (m : Machine) → Passed (rtt_fold rd ipa level m).checks → (performed (RttFold rd ipa level) m).0.word ≡ Success
unfolding rtt_fold
fold_word rd ipa level m ok = own_word (RttFold rd ipa level) m ok

data_word : (rd ipa : ℕ) (m : Machine) → Passed (data_destroy rd ipa m).checks → (performed (DataDestroy rd ipa) m).0.word ≡ Success
unfolding data_destroy
data_word rd ipa m ok = own_word (DataDestroy rd ipa) m ok

data_destroyed : (rd ipa : ℕ) (m : Machine) → IsProper m → Passed (data_destroy rd ipa m).checks → Lasts m (data_destroy rd ipa m).machine
data_destroyed rd ipa m proper ok =
    let result = own_result (DataDestroy rd ipa) m ok in
    subst (λ (p : SmcResult × Machine). Lasts m p.1) result
    (lasts_back m (performed (DataDestroy rd ipa) m).1 (number_of m rd) (performed (DataDestroy rd ipa) m).0.x1 Data refl (data_destroy_back m rd ipa proper (data_word rd ipa m ok)))

table_destroyed : (rd ipa level : ℕ) (m : Machine) → IsProper m → Passed (rtt_destroy rd ipa level m).checks → Lasts m (rtt_destroy rd ipa level m).machine
table_destroyed rd ipa level m proper ok =
    let result = own_result (RttDestroy rd ipa level) m ok in
    subst (λ (p : SmcResult × Machine). Lasts m p.1) result
    (lasts_back m (performed (RttDestroy rd ipa level) m).1 (number_of m rd) (performed (RttDestroy rd ipa level) m).0.x1 Rtt refl (rtt_destroy_back m rd ipa level proper (table_word rd ipa level m ok)))

table_folded : (rd ipa level : ℕ) (m : Machine) → IsProper m → Passed (rtt_fold rd ipa level m).checks → Lasts m (rtt_fold rd ipa level m).machine
table_folded rd ipa level m proper ok =
    let result = own_result (RttFold rd ipa level) m ok in
    subst (λ (p : SmcResult × Machine). Lasts m p.1) result
    (lasts_back m (performed (RttFold rd ipa level) m).1 (number_of m rd) (performed (RttFold rd ipa level) m).0.x1 Rtt refl (rtt_fold_back m rd ipa level proper (fold_word rd ipa level m ok)))

destroyed_is : (rd : ℕ) (m : Machine) → Passed (realm_destroy rd m).checks → (g : ℕ) → named_realm m (RealmDestroy rd) ≡ Some g → g ≡ number_of m rd
unfolding realm_destroy
destroyed_is rd m ok g named = some_same (sym named ∙ rd_named-is m rd ok.0 ok.1.0 ok.1.1.0)

rec_made : (rd rec params : ℕ) (m : Machine) → IsProper m → Passed (rec_create rd rec params m).checks → Keeps m (RecCreate rd rec params) (rec_create rd rec params m).machine
unfolding rec_create aux_checks number_checks
rec_made rd rec params m proper ok g realm is =
    ⊎_elim
    (λ (same : IsLasting (rec_create rd rec params m).machine g realm). inl same)
    (λ (named : named_realm m (RecCreate rd rec params) ≡ Some g).
    let x : ℕ = number_of m rec in
    let r : ℕ = number_of m rd in
    let old : RmmRealm = realm_at m rd in
    let page : List ℕ = page_in m (number_of m params) in
    let new : RmmRealm = with_one_more m.settings old page in
    let made : Machine = with_created_rec m r x page in
    let all : Machine = with_aux made x (of_realm r RecAux) m.settings.aux in
    let here : g ≡ r = some_same (sym named ∙ rd_named-is m rd ok.1.1.1.1.1.1.0 ok.1.1.1.1.1.1.1.0 ok.1.1.1.1.1.1.1.1.0) in
    let there = realm_of-some (state_at m rd) ok.1.1.1.1.1.1.1.1.0 in
    let inside : r < length m.granules = taken_inside m r (λ none. cc) in
    let count : length all.granules ≡ length m.granules =
    aux_length made x (of_realm r RecAux) m.settings.aux ∙ length-set m.granules x (of_realm r (IsRec (new_rec (is_runnable_in page) (mpidr_in page)))) in
    let now = granule_at-same all r (of_no_realm (Rd new)) (subst (λ (c : ℕ). r < c) (sym count) inside) in
    let it : realm ≡ old = same_realm (sym is ∙ ap (λ (y : ℕ). (granule_at m y).state) here ∙ there) in
    inl (new, ap (λ (y : ℕ). (granule_at (with_granule all r (of_no_realm (Rd new))) y).state) here ∙ ap (λ (c : RmmGranule). c.state) now, ap fixed (sym it)))
    (rd_or (RecCreate rd rec params) m g realm proper ok is)

rec_gone : (rec : ℕ) (m : Machine) → IsProper m → Passed (rec_destroy rec m).checks → Lasts m (rec_destroy rec m).machine
rec_gone rec m proper ok g realm is =
    let n : Machine = (rec_destroy rec m).machine in
    ⊎_elim
    (λ (same : granule_at n g ≡ granule_at m g). (realm, ap (λ (c : RmmGranule). c.state) same ∙ is, refl))
    (λ changed. ⊎_elim
    (λ (gone : (is_rd (granule_at m g).state ≡ false) × (granule_at n g ≡ of_no_realm Delegated)). absurd (both_ways (is_rd (granule_at m g).state) gone.0 (ap is_rd is)))
    (λ rd.
    let now = rd_is (granule_at n g).state rd.1 in
    (now.0, now.1, sym (ap fixed_of now.1) ∙ rd.3 ∙ ap fixed_of is))
    changed)
    ((destroyed_changed rec m proper ok).2 g)

pub realms_after : (call : Call) (m : Machine) → IsProper m → Passed (command_of call m).checks → Keeps m call (command_of call m).machine
unfolding version features granule_delegate granule_undelegate realm_activate rec_aux_count rtt_read_entry rtt_create rtt_map_unprotected rtt_unmap_unprotected data_create source_checks target_checks data_create_unknown rtt_init_ripas range_checks rtt_set_ripas with_ripas_from
realms_after (RealmCreate rd params) m proper ok g realm is =
    ⊎_elim (λ (same : IsLasting (command_of (RealmCreate rd params) m).machine g realm). inl same) (λ (never : named_realm m (RealmCreate rd params) ≡ Some g). absurd (cc)) (rd_or (RealmCreate rd params) m g realm proper ok is)
realms_after (RealmDestroy rd) m proper ok g realm is =
    ⊎_elim
    (λ (same : IsLasting (command_of (RealmDestroy rd) m).machine g realm). inl same)
    (λ (named : named_realm m (RealmDestroy rd) ≡ Some g). inr (destroyed_is rd m ok g named))
    (rd_or (RealmDestroy rd) m g realm proper ok is)
realms_after (RecCreate rd rec params) m proper ok g realm is = rec_made rd rec params m proper ok g realm is
realms_after (RecDestroy rec) m proper ok g realm is = inl (rec_gone rec m proper ok g realm is)
realms_after (RecEnter rec run) m proper ok g realm is = inl (entered_lasts rec run m proper ok g realm is)
realms_after (PsciComplete calling target status) m proper ok g realm is = inl (completed_lasts calling target status m proper ok g realm is)
realms_after (DataDestroy rd ipa) m proper ok g realm is = inl (data_destroyed rd ipa m proper ok g realm is)
realms_after (RttDestroy rd ipa level) m proper ok g realm is = inl (table_destroyed rd ipa level m proper ok g realm is)
realms_after (RttFold rd ipa level) m proper ok g realm is = inl (table_folded rd ipa level m proper ok g realm is)
realms_after (RealmActivate rd) m proper ok g realm is =
    let old : RmmRealm = realm_at m rd in
    inl (lasts_realm m m (number_of m rd) old (record old { state = Active }) (realm_of-some (state_at m rd) ok.1.1.0) refl (lasts_all m) g realm is)
realms_after (RttInitRipas rd base top) m proper ok g realm is =
    inl (lasts_realm m m (number_of m rd) (realm_at m rd) _ (realm_of-some (state_at m rd) ok.1.1.1.0) refl (lasts_all m) g realm is)
realms_after (DataCreate rd page ipa source flags) m proper ok g realm is =
    let old : RmmRealm = realm_at m rd in
    let r : ℕ = number_of m rd in
    let new : RmmRealm = with_rim old (rim_with_data old ipa flags (page_in m (number_of m source))) in
    let marked : Machine = with_granule m (number_of m page) (of_realm r Data) in
    let free = is_delegated-true (state_at m page) (yes_from (is_delegated (state_at m page)) ok.1.1.1.1.1.1.0) in
    let lasts : Lasts m marked = lasts_plain m m (number_of m page) (of_realm r Data) (ap is_rd free) (lasts_all m) in
    let there = lasts r old (realm_of-some (state_at m rd) ok.1.1.1.1.1.1.1.1.1.0) in
    inl (lasts_realm m marked r there.0 new there.1 (sym there.2) lasts g realm is)
realms_after (GranuleDelegate address) m proper ok g realm is =
    inl (lasts_plain m m (number_of m address) (of_no_realm Delegated) (ap is_rd (is_undelegated-true (state_at m address) (yes_from (is_undelegated (state_at m address)) ok.1.1.0))) (lasts_all m) g realm is)
realms_after (GranuleUndelegate address) m proper ok g realm is =
    inl (lasts_plain m m (number_of m address) (of_no_realm Undelegated) (ap is_rd (is_delegated-true (state_at m address) (yes_from (is_delegated (state_at m address)) ok.1.1.0))) (lasts_all m) g realm is)
realms_after (RttCreate rd rtt ipa level) m proper ok g realm is =
    inl (lasts_plain m m (number_of m rtt) (of_realm (number_of m rd) Rtt) (ap is_rd (is_delegated-true (state_at m rtt) (yes_from (is_delegated (state_at m rtt)) ok.1.1.0))) (lasts_all m) g realm is)
realms_after (DataCreateUnknown rd page ipa) m proper ok g realm is =
    inl (lasts_plain m m (number_of m page) (of_realm (number_of m rd) Data) (ap is_rd (is_delegated-true (state_at m page) (yes_from (is_delegated (state_at m page)) ok.1.1.0))) (lasts_all m) g realm is)
realms_after (RttSetRipas rd rec base top) m proper ok g realm is =
    inl (lasts_plain m m (number_of m rec) _ (ap is_rd (rec_of-some (state_at m rec) ok.1.1.1.1.1.1.0)) (lasts_all m) g realm is)
realms_after _ m proper ok g realm is = inl (realm, is, refl)

pub call_realms : (o : Option Call) (r : Registers) (m : Machine) → IsProper m → KeepsRealms m o (rmi_at o r m).1
unfolding performed
call_realms None r m proper = λ rd realm is. inl (realm, is, refl)
call_realms (Some call) r m proper = kept (KeepsRealms m (Some call)) (command_of call m) m (λ rd realm is. inl (realm, is, refl)) (realms_after call m proper)
