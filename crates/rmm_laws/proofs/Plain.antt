-- Proofs that GRANULE_DELEGATE, GRANULE_UNDELEGATE, and the host's stores and fills keep the invariant that each
-- granule has one role.
use Rattle.std.proofs.Common.{◌≡◌, ℕ, ◌/◌, ◌%◌, ◌<◌, ◌==◌, true, false, List, length, IfSome, refl, sym, ap, ◌∙◌, arith}
use Rattle.std.proofs.lemmas.Bool.{and_parts, cond_both}
use Rattle.std.proofs.lemmas.List.{length-set}
use Rattle.granule_addr.specs.Page.{page_of, zero_page}
use Rattle.page_arena.specs.Pages.{length-page_of}
use Rattle.page_arena.specs.Word.{page_with_word}
use Rattle.rmm_model.specs.declared.granule.RmmGranule.{RmmGranule}
use Rattle.rmm_model.specs.declared.granule.RmmGranuleState.{RmmGranuleState}
use Rattle.rmm_model.specs.declared.granule.RmmGranuleState.TheVariants.{Undelegated, Delegated}
use Rattle.rmm_model.specs.Granule.{of_no_realm, realm_of, is_undelegated, is_delegated}
use Rattle.rmm_model.specs.Host.{is_host_page, can_access, can_fill, after_store, after_fill}
use Rattle.rmm_model.specs.Machine.{Machine, granule_at, page_in, number_of, state_at, is_inside, is_aligned, with_granule, with_page, with_word, with_blank}
use Rattle.rmm_model.specs.Realm.{IsServed}
use Rattle.rmm_model.specs.Command.GranuleDelegate.{granule_delegate}
use Rattle.rmm_model.specs.Command.GranuleUndelegate.{granule_undelegate}
use Rattle.rmm_model.specs.Command.Operand.{is_host_s}
use Rattle.rmm_laws.specs.Role.{has_user, IsLinked}
use Rattle.rmm_laws.proofs.Entries.{number_inside}
use Rattle.rmm_laws.proofs.Keeping.{keep_page, keep_granule}
use Rattle.rmm_laws.proofs.PageWords.{length-page_with_word}
use Rattle.rmm_laws.proofs.Passed.{Passed, yes_from, is_delegated-true, is_undelegated-true}
use Rattle.rmm_laws.proofs.Writes.{is_user, plain_uses, granule_at-same}

-- writing the page of a granule that uses nothing keeps `IsLinked`
pub keep_plain_page : (m : Machine) (g : ℕ) (page : List ℕ) → IsLinked m → g < length m.granules → length page ≡ 4096 → is_user (granule_at m g).state ≡ false → IsLinked (with_page m g page)
keep_plain_page m g page proper inside whole plain =
    keep_page m g page proper inside whole
    (λ owner level i part. plain_uses m (granule_at m g).state owner level page g i part plain ∙ sym (plain_uses m (granule_at m g).state owner level (page_in m g) g i part plain))
    (λ is. let table : is_user (granule_at m g).state ≡ true = ap is_user is in absurd (cc))

pub keep_plain_word : (m : Machine) (g i word : ℕ) → IsLinked m → g < length m.granules → i < 512 → is_user (granule_at m g).state ≡ false → IsLinked (with_word m g i word)
keep_plain_word m g i word proper inside index plain =
    keep_plain_page m g (page_with_word (page_in m g) i word) proper inside (length-page_with_word (page_in m g) i word (proper.sound.whole g inside) index) plain

-- changing the attributes of a granule keeps `IsLinked`, if it uses nothing and is not used, before and after
pub keep_plain_granule : (m : Machine) (g : ℕ) (kept : RmmGranule) → IsLinked m → g < length m.granules → has_user (granule_at m g).state ≡ false → is_user (granule_at m g).state ≡ false
    → has_user kept.state ≡ false → is_user kept.state ≡ false → IfSome (realm_of kept.state) (IsServed (length m.granules)) → IsLinked (with_granule m g kept)
keep_plain_granule m g kept proper inside unused plain unused_then plain_then served =
    keep_granule m g kept proper inside unused unused_then
    (λ level page i part. plain_uses m kept.state kept.owner level page g i part plain_then ∙ sym (plain_uses m (granule_at m g).state (granule_at m g).owner level page g i part plain))
    served

-- wiping a granule keeps `IsLinked`, if it uses nothing and is not used, before and after
blank : (m : Machine) (g : ℕ) (state : RmmGranuleState) → IsLinked m → g < length m.granules → has_user (granule_at m g).state ≡ false → is_user (granule_at m g).state ≡ false
    → has_user state ≡ false → is_user state ≡ false → IfSome (realm_of state) (IsServed (length m.granules)) → IsLinked (with_blank m g state)
blank m g state proper inside unused plain unused_then plain_then served =
    let marked : Machine = with_granule m g (of_no_realm state) in
    let kept : IsLinked marked = keep_plain_granule m g (of_no_realm state) proper inside unused plain unused_then plain_then served in
    let count : length marked.granules ≡ length m.granules = length-set m.granules g (of_no_realm state) in
    let there : g < length marked.granules = omega arith in
    keep_plain_page marked g zero_page kept there (length-page_of 0) (ap (λ (r : RmmGranule). is_user r.state) (granule_at-same m g (of_no_realm state) inside) ∙ plain_then)

pub delegated : (address : ℕ) (m : Machine) → IsLinked m → Passed (granule_delegate address m).checks → IsLinked (granule_delegate address m).machine
unfolding granule_delegate
delegated address m proper ok =
    let was = is_undelegated-true (state_at m address) (yes_from (is_undelegated (state_at m address)) ok.1.1.0) in
    blank m (number_of m address) Delegated proper (number_inside m address (yes_from (is_inside m address) ok.1.0)) (ap has_user was) (ap is_user was) refl refl tt

pub undelegated : (address : ℕ) (m : Machine) → IsLinked m → Passed (granule_undelegate address m).checks → IsLinked (granule_undelegate address m).machine
unfolding granule_undelegate
undelegated address m proper ok =
    let was = is_delegated-true (state_at m address) (yes_from (is_delegated (state_at m address)) ok.1.1.0) in
    blank m (number_of m address) Undelegated proper (number_inside m address (yes_from (is_inside m address) ok.1.0)) (ap has_user was) (ap is_user was) refl refl tt

-- ---- the host's memory

pub host_inside : (m : Machine) (address : ℕ) → is_host_page m address ≡ true → number_of m address < length m.granules
host_inside m address is = number_inside m address (and_parts (is_inside m address) (is_host_s m address) is).0

pub host_plain : (m : Machine) (address : ℕ) → is_host_page m address ≡ true → state_at m address ≡ Undelegated
host_plain m address is =
    let host = (and_parts (is_inside m address) (is_host_s m address) is).1 in
    is_undelegated-true (state_at m address) (and_parts (is_undelegated (state_at m address)) _ host).0

pub stored : (m : Machine) (address word : ℕ) → IsLinked m → IsLinked (after_store m address word)
stored m address word proper =
    cond_both (can_access m address) (with_word m (number_of m address) (address % 4096 / 8) word) m IsLinked
    (λ can.
    let host = (and_parts (address % 8 == 0) (is_host_page m address) can).1 in
    keep_plain_word m (number_of m address) (address % 4096 / 8) word proper (host_inside m address host) (omega arith) (ap is_user (host_plain m address host)))
    (λ cannot. proper)

pub filled : (m : Machine) (address value : ℕ) → IsLinked m → IsLinked (after_fill m address value)
filled m address value proper =
    cond_both (can_fill m address) (with_page m (number_of m address) (page_of value)) m IsLinked
    (λ can.
    let host = (and_parts (is_aligned address) (is_host_page m address) can).1 in
    keep_plain_page m (number_of m address) (page_of value) proper (host_inside m address host) (length-page_of value) (ap is_user (host_plain m address host)))
    (λ cannot. proper)
