-- Proofs that a booted host satisfies its invariant, and that a host counts as free the granules that no build leases.
use Rattle.std.proofs.Common.{◌≡◌, ℕ, suc, ◌+◌, Bool, true, false, cond, List, [], ◌∷◌, length, map, Option, Some, None, refl, sym, ap, ◌∙◌, subst, arith, add-zero, zero-add}
use Rattle.std.specs.Prelude.{filter, is_none, slice_get}
use Rattle.std.specs.List.{range_with_len, flat_map}
use Rattle.std.specs.Option.{option_eq}
use Rattle.realm_model.specs.declared.act.Event.{Event}
use Rattle.realm_model.specs.World.{World, opening, same_lease, is_leased_to, free_set}
use Rattle.realm_model.specs.History.{open_entries, unmatched, pages_of, pages_held, acts_of}
use Rattle.rmi_monitor.specs.View.{MonitorView, fresh}
use Rattle.rmi_monitor.specs.Mirror.{IsMirror}
use Rattle.rmi_monitor.proofs.FreshMirror.{fresh_is_mirror}
use Rattle.host_ledger.specs.View.{HostView}
use Rattle.host_ledger.specs.Booted.{booted}
use Rattle.host_ledger.proofs.Worlds.{world_of-replay}
use Rattle.host_ledger.proofs.Empty.{replay-nil}
use Rattle.realm_host.specs.Host.{IsInRange, IsWhole}

pub whole_booted : (ledger : HostView) (monitor : MonitorView) (pages count vmids aux builds capacity : ℕ) → pages ≡ count → ledger ≡ booted pages vmids aux builds capacity
    → monitor ≡ fresh vmids aux count → IsInRange (record { pages = pages; vmids = vmids; aux = aux; builds = builds }) capacity → IsWhole ledger monitor
whole_booted ledger monitor pages count vmids aux builds capacity same ledger_is monitor_is in_range =
    let start : HostView = booted pages vmids aux builds capacity in
    let made : monitor ≡ fresh vmids aux pages = monitor_is ∙ ap (fresh vmids aux) (sym same) in
    subst (λ (h : HostView). IsWhole h monitor) (sym ledger_is) (subst (IsWhole start) (sym made) (record {
      mirror = subst (λ (w : World). IsMirror start.limits [] w (fresh vmids aux pages)) (sym (world_of-replay start (opening start.limits) (replay-nil start.limits)))
          (fresh_is_mirror start.limits);
      in_range = in_range;
    }))

-- ---- the free set

one_more : (s t : Bool) (flags : List Bool) (place : ℕ) (places : List ℕ) → t ≡ s → length flags ≡ length places
    → length (cond s (s ∷ flags) flags) ≡ length (cond t (place ∷ places) places)
one_more true t flags place places e same = ap suc same ∙ sym (ap (λ b. length (cond b (place ∷ places) places)) e)
one_more false t flags place places e same = same ∙ sym (ap (λ b. length (cond b (place ∷ places) places)) e)

same_count : (leases : List (Option ℕ)) (first : ℕ) (test : ℕ → Bool) → ((i : ℕ) (lease : Option ℕ) → slice_get leases i ≡ Some lease → test (first + i) ≡ is_none lease)
    → length (filter (λ (flag : Bool). flag) (map is_none leases)) ≡ length (filter test (range_with_len first (length leases)))
same_count [] first test same = refl
same_count (lease ∷ leases) first test same =
    let here : test first ≡ is_none lease = ap test (sym (add-zero first)) ∙ same 0 lease refl in
    one_more (is_none lease) (test first) _ first _ here
    (same_count leases (first + 1) test (λ i l e. ap test (omega arith) ∙ same (suc i) l e))

pub length-free_set : (world : World) → length (filter (λ (flag : Bool). flag) (map is_none world.leases)) ≡ length (free_set world)
length-free_set world = same_count world.leases 0 (is_leased_to None world.leases) (λ i lease e.
    ap (λ n. option_eq same_lease (slice_get world.leases n) (Some None)) (zero-add i) ∙ ap (λ o. option_eq same_lease o (Some None)) e ∙ nobody lease)
  where
    nobody : (lease : Option ℕ) → same_lease lease None ≡ is_none lease
    nobody None = refl
    nobody (Some b) = refl

-- a build with no events has no pages
pub no_pages : (build : ℕ) (history : List Event) → acts_of build history ≡ [] → pages_of build history ≡ []
unfolding open_entries
no_pages build history none = ap (λ acts. flat_map pages_held (unmatched acts)) none
