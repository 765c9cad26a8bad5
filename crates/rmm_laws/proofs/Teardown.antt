-- Proofs that each call of a realm's teardown succeeds if its preconditions hold, and that nothing is left of a
-- destroyed realm.
use Rattle.std.proofs.Common.{◌≡◌, ℕ, ◌+◌, ◌-◌, ◌%◌, ◌^◌, ◌<◌, ◌≤◌, ◌⊎◌, inl, inr, ◌==◌, ◌&&◌, ◌||◌, List, [], ◌∷◌, Bool, true, false, not, Option, Some, None, unwrap_or, refl, sym, ap, subst, ◌∙◌, ⊎_elim, arith}
use Rattle.std.specs.Prelude.{nat_le, nat_lt, is_none, is_some}
use Rattle.std.proofs.lemmas.Bool.{cases_Bool, and_parts, and_from, cond-false, eq-eqb, le-leb, lt-ltb}
use Rattle.granule_addr.specs.Page.{zero_page}
use Rattle.rmi_abi.specs.declared.registers.SmcResult.{SmcResult}
use Rattle.rmi_abi.specs.declared.word.Word.TheVariants.{Success}
use Rattle.rmi_abi.specs.declared.call.Call.{Call}
use Rattle.rmi_abi.specs.declared.call.Call.TheVariants.{GranuleDelegate, GranuleUndelegate, RealmDestroy, RecDestroy, RttDestroy, RttUnmapUnprotected, DataDestroy}
use Rattle.rmm_model.specs.declared.entry.RmmRipas.{RmmRipas}
use Rattle.rmm_model.specs.declared.entry.RmmRttEntry.{RmmRttEntry}
use Rattle.rmm_model.specs.declared.entry.RmmRttEntry.TheVariants.{Assigned, AssignedNs}
use Rattle.rmm_model.specs.declared.granule.RmmGranuleState.TheVariants.{Delegated, Undelegated}
use Rattle.rmm_model.specs.declared.realm.RmmRealm.{RmmRealm}
use Rattle.rmm_model.specs.declared.realm.RttWalk.{RttWalk}
use Rattle.rmm_model.specs.Call.{command_of, performed}
use Rattle.rmm_model.specs.Check.{Check, first_failing, decided}
use Rattle.rmm_model.specs.Entry.{is_assigned_ns}
use Rattle.rmm_model.specs.Granule.{of_no_realm, is_delegated, realm_of, rec_of}
use Rattle.rmm_model.specs.Guest.{is_rec_named}
use Rattle.rmm_model.specs.Level.{entry_size}
use Rattle.rmm_model.specs.Machine.{Machine, granule_at, page_in, is_aligned, is_inside, number_of, state_at, with_granule}
use Rattle.rmm_model.specs.Realm.{is_in_space, is_protected, is_unprotected}
use Rattle.rmm_model.specs.Rec.{is_running}
use Rattle.rmm_model.specs.Table.{has_live}
use Rattle.rmm_model.specs.Walk.{entry_at, table_below, memory_below, walk}
use Rattle.rmm_model.specs.Command.DataDestroy.{data_destroy}
use Rattle.rmm_model.specs.Command.GranuleDelegate.{granule_delegate}
use Rattle.rmm_model.specs.Command.GranuleUndelegate.{granule_undelegate}
use Rattle.rmm_model.specs.Command.Operand.{realm_at, rec_at, is_level}
use Rattle.rmm_model.specs.Command.RealmDestroy.{realm_destroy, has_live_table, is_realm_live}
use Rattle.rmm_model.specs.Command.RecDestroy.{rec_destroy}
use Rattle.rmm_model.specs.Command.RttDestroy.{rtt_destroy}
use Rattle.rmm_model.specs.Command.RttUnmapUnprotected.{rtt_unmap_unprotected}
use Rattle.rmm_laws.specs.Apart.{rd_named, IsOfRealm}
use Rattle.rmm_laws.specs.Owner.{is_rec_in}
use Rattle.rmm_laws.specs.Proper.{IsProper}
use Rattle.rmm_laws.specs.Role.{LeadsInside}
use Rattle.rmm_laws.proofs.Entries.{named_inside, number_inside}
use Rattle.rmm_laws.proofs.Freed.{leads_at, succeeded}
use Rattle.rmm_laws.proofs.Mappings.{served, protected_within}
use Rattle.rmm_laws.proofs.Orders.{none_counted}
use Rattle.rmm_laws.proofs.Passed.{Passed, realm_of-some, yes_from}
use Rattle.rmm_laws.proofs.RealmOrders.{not_owned, rd_gone, rd_zero, start_gone, none_if}
use Rattle.rmm_laws.proofs.Realms.{IsStart, NoStart, start_or_none, or_none}
use Rattle.rmm_laws.proofs.Writes.{granule_at-same, page_in-same}

-- ---- commands whose checks pass

pub none_failing : (cs : List Check) → Passed cs → first_failing cs ≡ None
none_failing [] ok = refl
none_failing (c ∷ cs) ok = cond-false c.fails (Some c.refusal) (first_failing cs) ok.0 ∙ none_failing cs ok.1

-- if all checks of a call pass, its result word is the word of its command's answer
pub own_word : (call : Call) (m : Machine) → Passed (command_of call m).checks → (performed call m).0.word ≡ (command_of call m).answer.word
unfolding performed
own_word call m ok = ap (λ f. (decided f (command_of call m) m).0.word) (none_failing (command_of call m).checks ok)

pub no_more : (b : Bool) → b ≡ true → not b ≡ false
no_more true is = refl
no_more false is = sym is

neither : (a b : Bool) → a ≡ false → b ≡ false → (a || b) ≡ false
neither true b one two = one
neither false b one two = two

-- An RD begins at the address `rd`.
module _ (m : Machine) (rd : ℕ) (named : rd_named m rd ≡ Some (number_of m rd)) where
  named_tests : (is_aligned rd && is_inside m rd && is_some (realm_of (state_at m rd))) ≡ true
  named_tests =
      ⊎_elim
      (λ (sure : (is_aligned rd && is_inside m rd && is_some (realm_of (state_at m rd))) ≡ true). sure)
      (λ (never : (is_aligned rd && is_inside m rd && is_some (realm_of (state_at m rd))) ≡ false).
      let none : None ≡ Some (number_of m rd) = sym (cond-false (is_aligned rd && is_inside m rd && is_some (realm_of (state_at m rd))) (Some (number_of m rd)) None never) ∙ named in
      absurd (cc))
      (cases_Bool (is_aligned rd && is_inside m rd && is_some (realm_of (state_at m rd))))

  pub rd_tests : (not (is_aligned rd) ≡ false) × (not (is_inside m rd) ≡ false) × (is_none (realm_of (state_at m rd)) ≡ false)
  rd_tests =
      let both = and_parts (is_aligned rd && is_inside m rd) (is_some (realm_of (state_at m rd))) named_tests in
      let two = and_parts (is_aligned rd) (is_inside m rd) both.0 in
      (no_more (is_aligned rd) two.0, no_more (is_inside m rd) two.1, no_more (is_some (realm_of (state_at m rd))) both.1)

-- ---- steps

pub rec_step : (m : Machine) (rec : ℕ) → is_rec_named m rec ≡ true → is_running (rec_at m rec).state ≡ false → (performed (RecDestroy rec) m).0.word ≡ Success
unfolding rec_destroy
rec_step m rec named ready =
    let both = and_parts (is_aligned rec && is_inside m rec) (is_some (rec_of (state_at m rec))) named in
    let two = and_parts (is_aligned rec) (is_inside m rec) both.0 in
    own_word (RecDestroy rec) m (no_more (is_aligned rec) two.0, (no_more (is_inside m rec) two.1, (no_more (is_some (rec_of (state_at m rec))) both.1, (ready, tt))))

leads_to_memory : (m : Machine) (entry : RmmRttEntry) (ripas : RmmRipas) (address : ℕ) → entry ≡ Assigned ripas address → LeadsInside m entry → is_some (memory_below m entry) ≡ true
leads_to_memory m entry ripas address is leads =
    let begin = subst (LeadsInside m) is leads in
    ap (λ (e : RmmRttEntry). is_some (memory_below m e)) is ∙ ap (λ (o : Option ℕ). is_some o) (named_inside m address begin.0)

pub page_step : (m : Machine) (rd ipa address : ℕ) (ripas : RmmRipas) → IsProper m → rd_named m rd ≡ Some (number_of m rd) → ipa % 4096 ≡ 0 → is_protected (realm_at m rd) ipa ≡ true
    → (walk m (realm_at m rd) ipa 3).level ≡ 3 → entry_at m (walk m (realm_at m rd) ipa 3) ipa ≡ Assigned ripas address → (performed (DataDestroy rd ipa) m).0.word ≡ Success
unfolding data_destroy
page_step m rd ipa address ripas proper named aligned protected reaches entry =
    let tests = rd_tests m rd named in
    let is = realm_of-some (state_at m rd) tests.2 in
    let within = protected_within (realm_at m rd) ipa protected in
    let least = (served m (number_of m rd) (realm_at m rd) proper.linked is).level in
    let leads = leads_at m proper rd ipa 3 is within least [] in
    own_word (DataDestroy rd ipa) m (
      tests.0,
      (
        tests.1,
        (
          tests.2,
          (
            no_more (ipa % 4096 == 0) (eq-eqb (ipa % 4096) 0 aligned),
            (
              no_more (is_protected (realm_at m rd) ipa) protected,
              (
                no_more ((walk m (realm_at m rd) ipa 3).level == 3) (eq-eqb (walk m (realm_at m rd) ipa 3).level 3 reaches),
                (no_more (is_some (memory_below m (entry_at m (walk m (realm_at m rd) ipa 3) ipa))) (leads_to_memory m (entry_at m (walk m (realm_at m rd) ipa 3) ipa) ripas address entry leads), tt),
              ),
            ),
          ),
        ),
      ),
    )

pub mapping_step : (m : Machine) (rd ipa level desc : ℕ) → rd_named m rd ≡ Some (number_of m rd) → m.settings.block_level ≤ level → (realm_at m rd).start_level ≤ level → level ≤ 3 → ipa % entry_size level ≡ 0
    → is_unprotected (realm_at m rd) ipa ≡ true → (walk m (realm_at m rd) ipa level).level ≡ level → entry_at m (walk m (realm_at m rd) ipa level) ipa ≡ AssignedNs desc
    → (performed (RttUnmapUnprotected rd ipa level) m).0.word ≡ Success
unfolding rtt_unmap_unprotected
mapping_step m rd ipa level desc named block least most aligned unprotected reaches entry =
    let tests = rd_tests m rd named in
    let realm : RmmRealm = realm_at m rd in
    let levels : (nat_le m.settings.block_level level && is_level realm.start_level level) ≡ true =
    and_from (nat_le m.settings.block_level level) (is_level realm.start_level level) (le-leb m.settings.block_level level block)
    (and_from (nat_le realm.start_level level) (nat_le level 3) (le-leb realm.start_level level least) (le-leb level 3 most)) in
    own_word (RttUnmapUnprotected rd ipa level) m (
      tests.0,
      (
        tests.1,
        (
          tests.2,
          (
            no_more _ levels,
            (
              no_more (ipa % entry_size level == 0) (eq-eqb (ipa % entry_size level) 0 aligned),
              (
                no_more (is_unprotected realm ipa) unprotected,
                (
                  no_more ((walk m realm ipa level).level == level) (eq-eqb (walk m realm ipa level).level level reaches),
                  (no_more (is_assigned_ns (entry_at m (walk m realm ipa level) ipa)) (ap is_assigned_ns entry), tt),
                ),
              ),
            ),
          ),
        ),
      ),
    )

pub table_step : (m : Machine) (rd ipa level table : ℕ) → rd_named m rd ≡ Some (number_of m rd) → (realm_at m rd).start_level + 1 ≤ level → level ≤ 3 → ipa % entry_size (level - 1) ≡ 0
    → ipa < 2 ^ (realm_at m rd).s2sz → (walk m (realm_at m rd) ipa (level - 1)).level ≡ level - 1 → table_below m (entry_at m (walk m (realm_at m rd) ipa (level - 1)) ipa) ≡ Some table
    → has_live (page_in m table) ≡ false → (performed (RttDestroy rd ipa level) m).0.word ≡ Success
unfolding rtt_destroy
table_step m rd ipa level table named least most aligned within reaches leads dead =
    let tests = rd_tests m rd named in
    let realm : RmmRealm = realm_at m rd in
    let found : RttWalk = walk m realm ipa (level - 1) in
    let below : Option ℕ = table_below m (entry_at m found ipa) in
    let levels : is_level (realm.start_level + 1) level ≡ true = and_from (nat_le (realm.start_level + 1) level) (nat_le level 3) (le-leb (realm.start_level + 1) level least) (le-leb level 3 most) in
    own_word (RttDestroy rd ipa level) m (
      tests.0,
      (
        tests.1,
        (
          tests.2,
          (
            no_more _ levels,
            (
              no_more (ipa % entry_size (level - 1) == 0) (eq-eqb (ipa % entry_size (level - 1)) 0 aligned),
              (
                no_more (is_in_space realm ipa) (lt-ltb ipa (2 ^ realm.s2sz) within),
                (
                  no_more (found.level == level - 1) (eq-eqb found.level (level - 1) reaches),
                  (no_more (is_some below) (ap (λ (o : Option ℕ). is_some o) leads), (ap (λ (o : Option ℕ). has_live (page_in m (unwrap_or o 0))) leads ∙ dead, tt)),
                ),
              ),
            ),
          ),
        ),
      ),
    )

none_below : (n : ℕ) → n ≡ 0 → nat_lt 0 n ≡ false
none_below n is = ap (nat_lt 0) is

pub realm_step : (m : Machine) (rd : ℕ) → IsProper m → rd_named m rd ≡ Some (number_of m rd) → ((g : ℕ) → is_rec_in (number_of m rd) (granule_at m g) ≡ false)
    → has_live_table m (realm_at m rd).first_table (realm_at m rd).table_count ≡ false → (performed (RealmDestroy rd) m).0.word ≡ Success
unfolding realm_destroy is_realm_live
realm_step m rd proper named no_rec dead =
    let tests = rd_tests m rd named in
    let realm : RmmRealm = realm_at m rd in
    let is = realm_of-some (state_at m rd) tests.2 in
    let count = proper.ordered.recs (number_of m rd) realm is ∙ none_counted m (number_of m rd) no_rec in
    own_word (RealmDestroy rd) m
    (tests.0, (tests.1, (tests.2, (neither (nat_lt 0 realm.rec_count) (has_live_table m realm.first_table realm.table_count) (none_below realm.rec_count count) dead, tt))))

pub granule_step : (m : Machine) (address : ℕ) → address % 4096 ≡ 0 → is_inside m address ≡ true → (granule_at m (number_of m address)).state ≡ Delegated → (performed (GranuleUndelegate address) m).0.word ≡ Success
unfolding granule_undelegate
granule_step m address aligned inside free =
    own_word (GranuleUndelegate address) m
    (no_more (address % 4096 == 0) (eq-eqb (address % 4096) 0 aligned), (no_more (is_inside m address) inside, (no_more (is_delegated (state_at m address)) (ap is_delegated free), tt)))

-- after an RMI_GRANULE_UNDELEGATE that succeeds, the granule at its address is UNDELEGATED and zero
pub undelegated : (m : Machine) (address : ℕ) → IsProper m → (performed (GranuleUndelegate address) m).0.word ≡ Success
    → (granule_at (performed (GranuleUndelegate address) m).1 (number_of m address) ≡ of_no_realm Undelegated) × (page_in (performed (GranuleUndelegate address) m).1 (number_of m address) ≡ zero_page)
unfolding granule_undelegate
undelegated m address proper success =
    let g : ℕ = number_of m address in
    succeeded ((granule_at (performed (GranuleUndelegate address) m).1 g ≡ of_no_realm Undelegated) × (page_in (performed (GranuleUndelegate address) m).1 g ≡ zero_page)) (GranuleUndelegate address) m refl success
    (λ ok now.
    let inside = number_inside m address (yes_from (is_inside m address) ok.1.0) in
    let pages = proper.linked.sound.pages in
    subst (λ (p : SmcResult × Machine). (granule_at p.1 g ≡ of_no_realm Undelegated) × (page_in p.1 g ≡ zero_page)) (sym now)
    (granule_at-same m g (of_no_realm Undelegated) inside, page_in-same (with_granule m g (of_no_realm Undelegated)) g zero_page (omega arith)))

-- after an RMI_GRANULE_DELEGATE that succeeds, the granule at its address is DELEGATED and zero
pub delegated : (m : Machine) (address : ℕ) → IsProper m → (performed (GranuleDelegate address) m).0.word ≡ Success
    → (granule_at (performed (GranuleDelegate address) m).1 (number_of m address) ≡ of_no_realm Delegated) × (page_in (performed (GranuleDelegate address) m).1 (number_of m address) ≡ zero_page)
unfolding granule_delegate
delegated m address proper success =
    let g : ℕ = number_of m address in
    succeeded ((granule_at (performed (GranuleDelegate address) m).1 g ≡ of_no_realm Delegated) × (page_in (performed (GranuleDelegate address) m).1 g ≡ zero_page)) (GranuleDelegate address) m refl success
    (λ ok now.
    let inside = number_inside m address (yes_from (is_inside m address) ok.1.0) in
    let pages = proper.linked.sound.pages in
    subst (λ (p : SmcResult × Machine). (granule_at p.1 g ≡ of_no_realm Delegated) × (page_in p.1 g ≡ zero_page)) (sym now)
    (granule_at-same m g (of_no_realm Delegated) inside, page_in-same (with_granule m g (of_no_realm Delegated)) g zero_page (omega arith)))

-- ---- what is left of a realm

pub nothing_left : (m : Machine) (rd g : ℕ) → IsProper m → (performed (RealmDestroy rd) m).0.word ≡ Success → IsOfRealm m (Some (number_of m rd)) g
    → (granule_at (performed (RealmDestroy rd) m).1 g ≡ of_no_realm Delegated) × (page_in (performed (RealmDestroy rd) m).1 g ≡ zero_page)
unfolding realm_destroy is_realm_live
nothing_left m rd g proper success ours =
    succeeded ((granule_at (performed (RealmDestroy rd) m).1 g ≡ of_no_realm Delegated) × (page_in (performed (RealmDestroy rd) m).1 g ≡ zero_page)) (RealmDestroy rd) m refl success
    (λ ok now.
    let n : ℕ = number_of m rd in
    let realm : RmmRealm = realm_at m rd in
    let is = realm_of-some (state_at m rd) ok.1.1.0 in
    let parts = or_none (nat_lt 0 realm.rec_count) (has_live_table m realm.first_table realm.table_count) ok.1.1.1.0 in
    let dead = parts.1 in
    let none = none_if realm.rec_count parts.0 in
    subst (λ (p : SmcResult × Machine). (granule_at p.1 g ≡ of_no_realm Delegated) × (page_in p.1 g ≡ zero_page)) (sym now)
    (⊎_elim
    (λ (it : g ≡ n).
    subst (λ (x : ℕ). (granule_at (realm_destroy rd m).machine x ≡ of_no_realm Delegated) × (page_in (realm_destroy rd m).machine x ≡ zero_page)) (sym it)
    (rd_gone m proper n realm is dead none, rd_zero m proper n realm is dead none))
    (λ (owned : (granule_at m g).owner ≡ Some n).
    ⊎_elim
    (λ (start : IsStart realm g).
    subst (λ (x : ℕ). (granule_at (realm_destroy rd m).machine x ≡ of_no_realm Delegated) × (page_in (realm_destroy rd m).machine x ≡ zero_page)) (sym start.2)
    (start_gone m proper n realm is dead none start.0 start.1))
    (λ (no_start : NoStart realm g). absurd (not_owned m proper n realm is dead none g (granule_at m g).state no_start refl (proper.ordered.each g) owned))
    (start_or_none realm g))
    ours))

-- before an RMI_REALM_DESTROY that succeeds, the realm has no granules except its RD and its starting tables
pub nothing_else : (m : Machine) (rd g : ℕ) → IsProper m → (performed (RealmDestroy rd) m).0.word ≡ Success → IsOfRealm m (Some (number_of m rd)) g
    → (g ≡ number_of m rd) ⊎ (((realm_at m rd).first_table ≤ g) × (g < (realm_at m rd).first_table + (realm_at m rd).table_count))
unfolding realm_destroy is_realm_live
nothing_else m rd g proper success ours =
    let n : ℕ = number_of m rd in
    let realm : RmmRealm = realm_at m rd in
    succeeded ((g ≡ n) ⊎ ((realm.first_table ≤ g) × (g < realm.first_table + realm.table_count))) (RealmDestroy rd) m refl success
    (λ ok now.
    let is = realm_of-some (state_at m rd) ok.1.1.0 in
    let parts = or_none (nat_lt 0 realm.rec_count) (has_live_table m realm.first_table realm.table_count) ok.1.1.1.0 in
    ⊎_elim
    (λ (it : g ≡ n). inl it)
    (λ (owned : (granule_at m g).owner ≡ Some n).
    ⊎_elim
    (λ (start : IsStart realm g). let lt = start.1 in let at = start.2 in inr (omega arith, omega arith))
    (λ (no_start : NoStart realm g). absurd (not_owned m proper n realm is parts.1 (none_if realm.rec_count parts.0) g (granule_at m g).state no_start refl (proper.ordered.each g) owned))
    (start_or_none realm g))
    ours)
