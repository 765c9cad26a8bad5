-- Proofs that the empty ledger satisfies the ledger's invariant, and has the view of a booted host.
use Rattle.std.proofs.Common.{◌≡◌, ℕ, zero, suc, ◌*◌, ◌<◌, ◌≤◌, false, List, [], ◌∷◌, length, map, take, replicate, Option, Some, None, refl, sym, ap, ◌∙◌, subst, arith, vec_capacity}
use Rattle.std.specs.Prelude.{slice_get}
use Rattle.std.specs.Global.{Vec}
use Rattle.std.specs.List.{list_any, filter_map}
use Rattle.std.proofs.lemmas.Option.{same_Some, slice_get-get_or, slice_get_within}
use Rattle.std.proofs.lemmas.List.{get_or-replicate, length-replicate}
use Rattle.std.proofs.lemmas.List.Elements.{All-nil}
use Rattle.build_journal.specs.Stacks.{Stacks, stack_of}
use Rattle.granule_addr.specs.Vmids.{is_used}
use Rattle.build_journal.specs.Vmids.{Vmids}
use Rattle.realm_model.specs.declared.act.Event.{Event}
use Rattle.realm_model.specs.Machine.{Limits, blank}
use Rattle.realm_model.specs.World.{World, opening, realm_of}
use Rattle.realm_model.specs.Step.{used_vmids}
use Rattle.realm_model.specs.History.{after, open_entries, pages_of, IsLegal}
use Rattle.realm_model.specs.Running.{running_count}
use Rattle.realm_model.specs.VmidsUsed.{is_vmid_used}
use Rattle.host_ledger.specs.declared.build.Build.{Build}
use Rattle.host_ledger.specs.declared.mark.Mark.{Mark}
use Rattle.host_ledger.specs.View.{HostView, world_of, is_aborting, mark_of}
use Rattle.host_ledger.specs.Booted.{booted}
use Rattle.host_ledger.specs.Kept.{new_build, ledger_of, IsBuildOf, IsKept}
use Rattle.host_ledger.proofs.RealmFollows.{no_realm}
use Rattle.host_ledger.proofs.Worlds.{world_of-replay}

legal-nil : (limits : Limits) → IsLegal limits []
unfolding after
legal-nil limits = record { steps = refl; in_turn = tt }

pub replay-nil : (limits : Limits) → Rattle.realm_model.specs.History.replay limits [] ≡ Some (opening limits)
unfolding after
replay-nil limits = refl

pub none_open : (build : ℕ) → open_entries build [] ≡ []
unfolding open_entries
none_open build = refl

none_taken : (build n : ℕ) → open_entries build (take n []) ≡ []
none_taken build zero = none_open build
none_taken build (suc n) = none_open build

no_pages : (build : ℕ) → pages_of build [] ≡ []
unfolding open_entries
no_pages build = refl

no_vmids : (n : ℕ) → used_vmids (replicate n blank) ≡ []
no_vmids zero = refl
no_vmids (suc n) = no_vmids n

no_runs : running_count None ≡ 0
unfolding running_count
no_runs = refl

map-replicate : {X Y : Type 0} (f : X → Y) (n : ℕ) (x : X) → map f (replicate n x) ≡ replicate n (f x)
map-replicate f zero x = refl
map-replicate f (suc n) x = ap (λ ys. f x ∷ ys) (map-replicate f n x)

no_realm_yet : (limits : Limits) (build : ℕ) → realm_of build (opening limits) ≡ None
no_realm_yet limits build = no_realm limits [] (opening limits) (legal-nil limits) (replay-nil limits) build (none_open build)

new_is : (limits : Limits) (build : ℕ) → IsBuildOf [] (opening limits) build new_build
new_is limits build =
    let none = no_realm_yet limits build in
    record {
      journal = sym (none_open build);
      events = refl;
      realm = sym (ap (Rattle.std.specs.Prelude.option_map (λ (rd : Rattle.realm_model.specs.Machine.Seen). rd.number)) none);
      recs = sym (ap (Rattle.std.specs.List.flat_map Rattle.realm_model.specs.RecsOpen.rec_made) (none_open build));
      running = sym (ap running_count none ∙ no_runs);
    }

abbrev no_stack : List ℕ
no_stack = []

abbrev no_mark : Option Mark
no_mark = None

module _ (pages vmids aux count capacity : ℕ) (builds : List Build) (leases : Stacks) (holders : List (Option ℕ)) (pool : Vmids) (events : Vec Event)
    (builds_are : builds ≡ replicate count new_build) (leases_are : leases ≡ record { stacks = replicate count []; room = pages }) (holders_are : holders ≡ replicate pages None)
    (range : pool.vmids ≡ vmids) (none_used : (vmid : ℕ) → is_used pool.used vmid ≡ false) (none : events.items ≡ []) where
  long : length builds ≡ count
  long = ap length builds_are ∙ length-replicate count new_build

  pub view_is_booted : ledger_of builds leases pool aux capacity events.items ≡ booted pages vmids aux count capacity
  view_is_booted = λ i. record {
    limits = record { pages = ap (λ (l : Stacks). l.room) leases_are i; vmids = range i; aux = aux; builds = long i };
    capacity = capacity;
    history = none i;
    aborting = (ap (map (λ (b : Build). b.aborting)) builds_are ∙ map-replicate (λ (b : Build). b.aborting) count new_build) i;
    marks = (ap (map (λ (b : Build). b.mark)) builds_are ∙ map-replicate (λ (b : Build). b.mark) count new_build) i;
  }

  abbrev limits : Limits
  limits = record { pages = pages; vmids = vmids; aux = aux; builds = count }

  pub kept_empty : count ≤ 8 → pages ≤ 4096 → capacity ≤ 16384 → count * capacity ≤ vec_capacity events
      → IsKept (ledger_of builds leases pool aux capacity events.items) builds leases holders pool events
  kept_empty few few_pages small memory =
      subst (λ (h : HostView). IsKept h builds leases holders pool events) (sym view_is_booted) (record {
        legal = legal-nil limits;
        few_builds = few;
        few_pages = few_pages;
        few_events = small;
        as_many_stacks = ap (λ (l : Stacks). length l.stacks) leases_are ∙ length-replicate count no_stack;
        builds_are = λ b build at.
            let at_new : slice_get (replicate count new_build) b ≡ Some build = ap (λ (bs : List Build). slice_get bs b) (sym builds_are) ∙ at in
            let within : b < length (replicate count new_build) = slice_get_within (replicate count new_build) b build at_new in
            let below : b < count = subst (λ n. b < n) (length-replicate count new_build) within in
            let same : new_build ≡ build = same_Some _ _ (sym (slice_get-get_or (replicate count new_build) b new_build within
            ∙ ap Some (get_or-replicate count b new_build new_build below)) ∙ at_new) in
            subst (λ (w : World). IsBuildOf [] w b build) (sym world_is_opening) (subst (IsBuildOf [] (opening limits) b) same (new_is limits b));
        stacks_are = λ b below. ap (λ (l : Stacks). stack_of l b) leases_are ∙ get_or-replicate count b no_stack [] below ∙ sym (no_pages b);
        holders_are = holders_are ∙ ap (λ (w : World). w.leases) (sym world_is_opening);
        vmids_are = λ vmid. none_used vmid ∙ sym (ap (λ (w : World). is_vmid_used w.machine vmid) world_is_opening
            ∙ ap (list_any (λ used. Rattle.std.specs.Prelude.nat_eq vmid used)) (no_vmids pages));
        room = λ b below.
            let opened = ap length (none_open b) in
            let realm = ap (λ (w : World). running_count (realm_of b w)) world_is_opening ∙ ap running_count (no_realm_yet limits b) ∙ no_runs in
            record { used = omega (arith, opened, realm); few_open = λ n. let none = ap length (none_taken b n) in omega (arith, none) };
        points = λ b below. record {
          in_abort = λ is. absurd (let not : is_aborting (booted pages vmids aux count capacity) b ≡ false = get_or-replicate count b false false below in cc);
          marked = λ mark is. absurd (let not : mark_of (booted pages vmids aux count capacity) b ≡ None = get_or-replicate count b no_mark None below in cc);
        };
        of_builds = All-nil (λ (e : Event). e.build < count);
        memory = memory;
      })
    where
      world_is_opening : world_of (booted pages vmids aux count capacity) ≡ opening limits
      world_is_opening = world_of-replay (booted pages vmids aux count capacity) (opening limits) (replay-nil limits)
