-- Proofs that the ledger keeps its invariant when one more event is recorded.
use Rattle.std.proofs.Common.{◌≡◌, ◌≢◌, ℕ, zero, suc, ◌+◌, ◌-◌, ◌*◌, ◌<◌, ◌≤◌, Bool, true, false, ◌&&◌, cond, take, List, [], ◌∷◌, ◌++◌}
use Rattle.std.proofs.Common.{length, map, set, get_or, Option, Some, None, refl, sym, ap, ◌∙◌, subst, arith, ⊎_elim, vec_len, vec_capacity}
use Rattle.std.specs.Prelude.{nat_lt, slice_get, option_map}
use Rattle.std.specs.Global.{Vec}
use Rattle.std.specs.List.{All}
use Rattle.std.proofs.lemmas.Bool.{cases_eq, eq-eqb, ne_eqb}
use Rattle.std.proofs.lemmas.Option.{same_Some, slice_get-get_or}
use Rattle.std.proofs.lemmas.List.{map-set, length-map, length-set, length-append, length-take, get_or-set_same, get_or-set_other}
use Rattle.std.proofs.lemmas.List.Elements.{All-push}
use Rattle.build_journal.specs.Stacks.{Stacks, stack_of, with_stack}
use Rattle.build_journal.specs.Vmids.{Vmids}
use Rattle.realm_model.specs.declared.act.Act.{Act}
use Rattle.realm_model.specs.declared.act.Act.TheVariants.{Rec, Exit}
use Rattle.realm_model.specs.declared.act.Event.{Event}
use Rattle.realm_model.specs.Machine.{Seen}
use Rattle.realm_model.specs.World.{World, realm_of}
use Rattle.realm_model.specs.Act.{is_paired, is_reverse, reverse_of}
use Rattle.realm_model.specs.Stack.{pushed}
use Rattle.realm_model.specs.History.{acts_of, open_entries, pages_of, replay}
use Rattle.realm_model.specs.Pages.{PagesAreLeased}
use Rattle.realm_model.specs.Room.{used_room, room_taken}
use Rattle.realm_model.specs.Running.{running_count}
use Rattle.realm_model.specs.StepLaw.{leases_after}
use Rattle.realm_model.specs.Undoing.{by}
use Rattle.realm_model.proofs.Growth.{Grows, grows, acts_of-other, open_entries-own, open_entries-other}
use Rattle.realm_model.proofs.Lists.{slice_get-set}
use Rattle.realm_model.proofs.Pages.{pages_of-other, pages_are_leased}
use Rattle.realm_model.proofs.RealmOf.{realm_of-other_step}
use Rattle.realm_model.proofs.ZeroPages.{kept_reached}
use Rattle.realm_model.specs.Places.{rd_of}
use Rattle.realm_model.specs.RecsOpen.{recs_open, IsRising}
use Rattle.realm_model.proofs.RecsOpen.{recs_are_open}
use Rattle.realm_model.proofs.VmidsFollow.{vmids_follow}
use Rattle.host_ledger.specs.declared.build.Build.{Build}
use Rattle.host_ledger.specs.Marks.{mark_while}
use Rattle.host_ledger.specs.View.{HostView, world_of, with_event, used, is_aborting, mark_of}
use Rattle.host_ledger.specs.Vmids.{CanFollowVmids, IsVmidsAfter}
use Rattle.host_ledger.specs.Kept.{ledger_of, build_after, pages_after, CanFollow, CanFollowRec, CanFollowPages, CanFollowHolders, CanRecord, IsBuildOf, HasRoom, IsKept}
use Rattle.host_ledger.proofs.Summaries.{said_of}
use Rattle.host_ledger.proofs.HoldersFollow.{leases_follow, can_follow_holders}
use Rattle.host_ledger.proofs.PagesFollow.{pages_follow, can_follow_pages}
use Rattle.host_ledger.proofs.PointsFollow.{few_now, few_later, points_follow}
use Rattle.host_ledger.proofs.RealmFollows.{rd_follows}
use Rattle.host_ledger.proofs.RecsFollow.{recs_follow, few_recs, above_others}
use Rattle.host_ledger.proofs.RoomFollows.{running_follows, room_follows, more_acts, one_runs}
use Rattle.host_ledger.proofs.Totals.{length-le_rooms}
use Rattle.host_ledger.proofs.VmidsFollow.{can_follow_vmids, vmids_are_after, same_range}
use Rattle.host_ledger.proofs.Worlds.{world_is, world_of-replay}

-- if at most 512 operations are open, and fewer than 512 if `act` has a reverse, then at most 512 are open after `act`
entries_fit_after : (stack : List Act) (act : Act) → length stack ≤ 512 → (is_paired act ≡ true → length stack < 512) → length (pushed stack act) ≤ 512
unfolding pushed
entries_fit_after stack act few room = at (is_paired act) room (is_reverse act)
  where
    at : (p : Bool) → (p ≡ true → length stack < 512) → (r : Bool) → length (cond p (stack ++ act ∷ []) (cond r (take (length stack - 1) stack) stack)) ≤ 512
    at true h r = let one = length-append stack (act ∷ []) in let lt = h refl in omega arith
    at false h true = let shorter = length-take (length stack - 1) stack in omega arith
    at false h false = few

rec_paired : (granule : ℕ) (aux : _) (number : ℕ) → is_paired (Rec granule aux number) ≡ true
unfolding reverse_of
rec_paired granule aux number = refl

-- if `used ≤ capacity`, it suffices to prove `used + taken ≤ capacity` in the case that some room is taken
room_fits : (used taken capacity : ℕ) → used ≤ capacity → (0 < taken → used + taken ≤ capacity) → used + taken ≤ capacity
room_fits used zero capacity fits room = omega arith
room_fits used (suc taken) capacity fits room = room (omega arith)

module _ (builds : List Build) (leases : Stacks) (holders : List (Option ℕ)) (vmids : Vmids) (aux capacity : ℕ) (events : Vec Event) (now : HostView)
    (view_is : ledger_of builds leases vmids aux capacity events.items ≡ now)
    (kept : IsKept (ledger_of builds leases vmids aux capacity events.items) builds leases holders vmids events)
    (build : ℕ) (act : Act) (there_now : build < now.limits.builds) (can_now : CanRecord now build act) where
  abbrev host : HostView
  host = ledger_of builds leases vmids aux capacity events.items

  abbrev world : World
  world = world_of host

  abbrev event : Event
  event = by build act

  abbrev later : List Event
  later = events.items ++ event ∷ []

  there : build < length builds
  there = subst (λ (h : HostView). build < h.limits.builds) (sym view_is) there_now

  can : CanRecord host build act
  can = subst (λ (h : HostView). CanRecord h build act) (sym view_is) can_now

  at_world : replay host.limits host.history ≡ Some world
  at_world = world_is host kept.legal

  grown : Grows host.limits events.items event can.next
  grown = grows host.limits events.items event world can.next kept.legal at_world can.stepped can.turn

  abbrev new_host : HostView
  new_host = with_event host build act

  world_after : world_of new_host ≡ can.next
  world_after = world_of-replay new_host can.next grown.world_is

  pages_after_are : PagesAreLeased host.limits later build can.next
  pages_after_are = pages_are_leased host.limits build later can.next grown.legal grown.world_is

  -- ---- the room of the build

  used_after : used_room build later can.next ≤ capacity
  used_after = subst (λ n. n ≤ capacity) (sym (room_follows host.limits events.items world can.next kept.legal at_world build act can.turn can.stepped))
      (room_fits (used host build) (room_taken act) capacity (kept.room build there).used can.room)

  entries_after : open_entries build later ≡ pushed (open_entries build events.items) act
  entries_after = open_entries-own events.items event

  few_after : length (open_entries build later) ≤ 512
  few_after =
      subst (λ (stack : List Act). length stack ≤ 512) (sym entries_after)
      (entries_fit_after (open_entries build events.items) act (few_now build events.items (kept.room build there).few_open) can.few_open)

  counted : length (acts_of build events.items) < 16384
  counted =
      let more = more_acts host.limits events.items world can.next kept.legal at_world build act can.turn can.stepped in
      let fits = used_after in
      let few = kept.few_events in
      omega arith

  -- ---- what is followed

  pub can_pages : CanFollowPages leases build act
  can_pages =
      can_follow_pages events.items leases build act (kept.stacks_are build there) can.turn pages_after_are.count pages_after_are.inside kept.few_pages

  pub can_holders : CanFollowHolders holders act
  can_holders = can_follow_holders host.limits world can.next build act can.stepped holders kept.holders_are

  pub can_vmids : CanFollowVmids vmids act
  can_vmids = can_follow_vmids host.limits world vmids refl kept.vmids_are build act can.next can.stepped

  can_rec : (old : Build) → IsBuildOf events.items world build old → (a : Act) → act ≡ a → CanFollowRec old a
  can_rec old is (Rec granule aux number) same =
      let recs = recs_follow events.items build act can.turn ∙ ap (λ (a : Act). Rattle.host_ledger.specs.Kept.recs_after (recs_open build events.items) a) same in
      let rising : IsRising (recs_open build later) = (recs_are_open host.limits later can.next build grown.legal grown.world_is).rising in
      let long = ap length recs ∙ length-append (recs_open build events.items) ((number, granule) ∷ []) in
      let few = few_recs (open_entries build later) in
      let most = few_after in
      let here = ap length is.recs in (
        omega (arith, long, few, most, here),
        subst (λ (rs : List (ℕ × ℕ)). Rattle.host_ledger.specs.Recs.IsAbove rs number) (sym is.recs) (above_others (recs_open build events.items) number granule (subst IsRising recs rising)),
      )
  can_rec old is (Exit number) same =
      let one = one_runs host.limits events.items world can.next kept.legal at_world build number
      (subst (λ (a : Act). Rattle.realm_model.specs.History.IsInTurn events.items (by build a)) same can.turn)
      (ap (λ (a : Act). Rattle.realm_model.specs.Step.step host.limits world (by build a)) (sym same) ∙ can.stepped) in
      let here = is.running in
      omega (arith, one, here)
  can_rec old is _ same = tt

  of_builds : All (λ (e : Event). e.build < length builds) later
  of_builds = All-push (λ (e : Event). e.build < length builds) events.items event kept.of_builds there

  rooms : (b : ℕ) → b < length builds → HasRoom new_host b
  rooms b below = ⊎_elim
      (λ same. subst (HasRoom new_host) (sym same) (record {
        used = subst (λ (w : World). used_room build later w ≤ capacity) (sym world_after) used_after;
        few_open = few_later build events.items event (kept.room build there).few_open few_after;
      }))
      (λ other.
      let apart : build ≢ b = λ e. other (sym e) in
      let was = kept.room b below in
      let realm : realm_of b (world_of new_host) ≡ realm_of b world =
      ap (realm_of b) world_after
      ∙ realm_of-other_step host.limits b world can.next event apart (kept_reached host.limits b events.items world at_world).sound.clean can.stepped in
      let acts = ap length (acts_of-other b events.items event apart) in
      let entries = ap length (open_entries-other b events.items event apart) in
      let runs = ap running_count realm in
      record {
        used = let room = was.used in omega (arith, room, acts, entries, runs);
        few_open = few_later b events.items event was.few_open
            (let few = few_now b events.items was.few_open in omega (arith, few, entries));
      })
      (cases_eq b build)

  within : (b : ℕ) → b < length builds → length (acts_of b later) ≤ capacity
  within b below = let room = (rooms b below).used in omega (arith, room)

  module _ (number : ℕ) (old : Build) (number_is : number ≡ build) (read : old ≡ get_or builds number old) where
    stands : slice_get builds build ≡ Some old
    stands = slice_get-get_or builds build old there ∙ ap Some (ap (λ n. get_or builds n old) (sym number_is) ∙ sym read)

    old_is : IsBuildOf events.items world build old
    old_is = kept.builds_are build old stands

    pub can_follow : CanFollow old act
    can_follow = record {
      entries = subst (λ n. n ≤ 512) (ap length (entries_after ∙ ap (λ (stack : List Act). pushed stack act) (sym old_is.journal))) few_after;
      events = subst (λ n. n < 16384) (sym old_is.events) counted;
      running =
          let room = (kept.room build there).used in
          let few = kept.few_events in
          let here = old_is.running in
          omega arith;
      rec = can_rec old old_is act refl;
    }

    pub memory_fits : vec_len events < vec_capacity events
    memory_fits =
        let fits = length-le_rooms (length builds) capacity later of_builds (λ b below. within b below) in
        let more = length-append events.items (event ∷ []) in
        let memory = kept.memory in
        let len = events.ok.0 in
        omega (arith, fits, more, memory, len)

    -- ---- what is kept after it

    module _ (new : Build) (new_leases : Stacks) (new_holders : List (Option ℕ)) (new_vmids : Vmids) (after : Vec Event) (followed : new ≡ build_after old act)
        (leases_are : new_leases ≡ with_stack leases build (pages_after (stack_of leases build) act))
        (holders_are : new_holders ≡ leases_after build act holders) (vmids_after : IsVmidsAfter act vmids new_vmids)
        (items : after.items ≡ later) (memory : vec_capacity after ≡ vec_capacity events) where
      abbrev new_builds : List Build
      new_builds = set builds number new

      pub view_grows : ledger_of new_builds new_leases new_vmids aux capacity after.items ≡ with_event now build act
      view_grows =
          (λ i. record {
            limits = record {
              pages = ap (λ (l : Stacks). l.room) leases_are i;
              vmids = same_range act vmids new_vmids vmids_after i;
              aux = aux;
              builds = length-set builds number new i;
            };
            capacity = capacity;
            history = items i;
            aborting = aborting_grows i;
            marks = marks_grow i;
          })
          ∙ ap (λ (h : HostView). with_event h build act) view_is
        where
          opened : length (pushed old.journal act) ≡ length (open_entries build later)
          opened = ap length (ap (λ (stack : List Act). pushed stack act) old_is.journal ∙ sym entries_after)

          aborting_grows : map (λ (b : Build). b.aborting) new_builds ≡ new_host.aborting
          aborting_grows =
              map-set (λ (b : Build). b.aborting) builds number new
              ∙ (λ i. set host.aborting (number_is i) ((ap (λ (b : Build). b.aborting) followed ∙ (λ j. aborting_was j && nat_lt 0 (opened j))) i))
            where
              aborting_was : old.aborting ≡ is_aborting host build
              aborting_was = said_of (λ (b : Build). b.aborting) builds build old false stands

          marks_grow : map (λ (b : Build). b.mark) new_builds ≡ new_host.marks
          marks_grow =
              map-set (λ (b : Build). b.mark) builds number new
              ∙ (λ i. set host.marks (number_is i) ((ap (λ (b : Build). b.mark) followed ∙ (λ j. mark_while (opened j) (mark_was j))) i))
            where
              mark_was : old.mark ≡ mark_of host build
              mark_was = said_of (λ (b : Build). b.mark) builds build old None stands

      new_is : IsBuildOf later (world_of new_host) build new
      new_is =
          let next = world_after in
          record {
            journal = ap (λ (b : Build). b.journal) followed ∙ ap (λ (stack : List Act). pushed stack act) old_is.journal ∙ sym entries_after;
            events = ap (λ (b : Build). b.events) followed ∙ ap (λ n. n + 1) old_is.events
                ∙ sym (more_acts host.limits events.items world can.next kept.legal at_world build act can.turn can.stepped);
            realm = ap (λ (b : Build). b.realm) followed ∙ ap (λ (rd : Option ℕ). Rattle.host_ledger.specs.Kept.rd_after rd act) old_is.realm
                ∙ sym (rd_follows host.limits events.items world can.next kept.legal at_world build act can.turn can.stepped)
                ∙ ap (rd_of build) (sym next);
            recs = ap (λ (b : Build). b.recs) followed ∙ ap (λ (rs : List (ℕ × ℕ)). Rattle.host_ledger.specs.Kept.recs_after rs act) old_is.recs
                ∙ sym (recs_follow events.items build act can.turn);
            running = ap (λ (b : Build). b.running) followed ∙ ap (λ n. Rattle.host_ledger.specs.Kept.running_after n act) old_is.running
                ∙ sym (running_follows host.limits events.items world can.next kept.legal at_world build act can.turn can.stepped)
                ∙ ap (λ (w : World). running_count (realm_of build w)) (sym next);
          }

      other_is : (b : ℕ) (other : Build) → (build ≢ b) → IsBuildOf events.items world b other → IsBuildOf later (world_of new_host) b other
      other_is b other apart is =
          let realm : realm_of b can.next ≡ realm_of b world =
          realm_of-other_step host.limits b world can.next event apart (kept_reached host.limits b events.items world at_world).sound.clean can.stepped in
          let same : realm_of b (world_of new_host) ≡ realm_of b world = ap (realm_of b) world_after ∙ realm in
          let entries = open_entries-other b events.items event apart in
          record {
            journal = is.journal ∙ sym entries;
            events = is.events ∙ sym (ap length (acts_of-other b events.items event apart));
            realm = is.realm ∙ ap (option_map (λ (rd : Seen). rd.number)) (sym same);
            recs = is.recs ∙ ap (Rattle.std.specs.List.flat_map Rattle.realm_model.specs.RecsOpen.rec_made) (sym entries);
            running = is.running ∙ ap running_count (sym same);
          }

      builds_are : (b : ℕ) (other : Build) → slice_get new_builds b ≡ Some other → IsBuildOf later (world_of new_host) b other
      builds_are b other at = ⊎_elim
          (λ same.
          let here : slice_get new_builds b ≡ Some new =
          slice_get-set builds number b new old (ap (slice_get builds) number_is ∙ stands)
          ∙ ap (λ t. cond t (Some new) (slice_get builds b)) (eq-eqb b number (same ∙ sym number_is)) in
          subst (λ n. IsBuildOf later (world_of new_host) n other) (sym same)
          (subst (IsBuildOf later (world_of new_host) build) (same_Some _ _ (sym here ∙ at)) new_is))
          (λ apart.
          let there_b : slice_get new_builds b ≡ slice_get builds b =
          slice_get-set builds number b new old (ap (slice_get builds) number_is ∙ stands)
          ∙ ap (λ t. cond t (Some new) (slice_get builds b)) (ne_eqb b number (λ e. apart (e ∙ number_is))) in
          other_is b other (λ e. apart (sym e)) (kept.builds_are b other (sym there_b ∙ at)))
          (cases_eq b build)

      stacks_are : (b : ℕ) → b < length builds → stack_of new_leases b ≡ pages_of b later
      stacks_are b below =
          ap (λ (l : Stacks). stack_of l b) leases_are
          ∙ ⊎_elim
          (λ same.
          ap (stack_of (with_stack leases build (pages_after (stack_of leases build) act))) same
          ∙ get_or-set_same leases.stacks build (pages_after (stack_of leases build) act) [] (subst (λ n. build < n) (sym kept.as_many_stacks) there)
          ∙ ap (λ (pages : List ℕ). pages_after pages act) (kept.stacks_are build there)
          ∙ sym (pages_follow build events.items act can.turn)
          ∙ ap (λ n. pages_of n later) (sym same))
          (λ other.
          get_or-set_other leases.stacks build b (pages_after (stack_of leases build) act) [] other
          ∙ kept.stacks_are b below
          ∙ sym (pages_of-other b events.items event (λ e. other (sym e))))
          (cases_eq b build)

      holders_grow : leases_after build act holders ≡ (world_of new_host).leases
      holders_grow =
          leases_follow host.limits world can.next build act can.stepped holders kept.holders_are
          ∙ ap (λ (w : World). w.leases) (sym world_after)

      pub kept_grows : IsKept (ledger_of new_builds new_leases new_vmids aux capacity after.items) new_builds new_leases new_holders new_vmids after
      kept_grows =
          subst (λ (h : HostView). IsKept h new_builds new_leases new_holders new_vmids after) (sym view_path) (record {
            legal = grown.legal;
            few_builds = kept.few_builds;
            few_pages = kept.few_pages;
            few_events = kept.few_events;
            as_many_stacks = ap (λ (l : Stacks). length l.stacks) leases_are ∙ length-set leases.stacks build _ ∙ kept.as_many_stacks;
            builds_are = builds_are;
            stacks_are = stacks_are;
            holders_are = holders_are ∙ holders_grow;
            vmids_are = λ vmid.
                vmids_are_after host.limits world vmids refl kept.vmids_are act new_vmids can.next.machine vmids_after
                (vmids_follow host.limits events.items world build act can.next kept.legal at_world can.turn can.stepped) vmid
                ∙ ap (λ (w : World). Rattle.realm_model.specs.VmidsUsed.is_vmid_used w.machine vmid) (sym world_after);
            room = λ b below. rooms b below;
            points = λ b below.
                points_follow host build act
                (subst (λ n. build < n) (sym (length-map builds (λ (b : Build). b.aborting))) there)
                (subst (λ n. build < n) (sym (length-map builds (λ (b : Build). b.mark))) there) b (kept.points b below);
            of_builds = of_builds;
            memory = subst (λ n. length builds * capacity ≤ n) (sym memory) kept.memory;
          })
        where
          view_path : ledger_of new_builds new_leases new_vmids aux capacity after.items ≡ new_host
          view_path = view_grows ∙ ap (λ (h : HostView). with_event h build act) (sym view_is)
