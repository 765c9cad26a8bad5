-- Proofs that the ledger keeps its invariant when a build's mark is set or its abort begins.
use Rattle.std.proofs.Common.{◌≡◌, ◌≢◌, ℕ, ◌*◌, ◌<◌, ◌≤◌, Bool, true, false, List, length, set, get_or, Option, Some, None, refl, sym, ap, ◌∙◌, subst, cond, arith, ⊎_elim}
use Rattle.std.specs.Prelude.{nat_lt, slice_get, IfSome}
use Rattle.std.specs.Global.{Vec}
use Rattle.std.proofs.lemmas.Bool.{cases_eq, eq-eqb, ne_eqb, ltb-true, le-leb}
use Rattle.std.proofs.lemmas.Option.{same_Some, slice_get-get_or}
use Rattle.std.proofs.lemmas.List.{map-set, length-map, length-set, set-get_or, get_or-set_same, get_or-set_other, take_all}
use Rattle.build_journal.specs.Stacks.{Stacks}
use Rattle.build_journal.specs.Vmids.{Vmids}
use Rattle.realm_model.specs.declared.act.Act.{Act}
use Rattle.realm_model.specs.declared.act.Event.{Event}
use Rattle.realm_model.specs.History.{open_entries}
use Rattle.realm_model.proofs.Lists.{slice_get-set}
use Rattle.realm_model.proofs.Marks.{valid_now}
use Rattle.host_ledger.specs.declared.build.Build.{Build}
use Rattle.host_ledger.specs.declared.mark.Mark.{Mark}
use Rattle.host_ledger.specs.Marks.{mark_while}
use Rattle.host_ledger.specs.View.{HostView, world_of, open_of, is_aborting, mark_of, mark_now, with_mark, begun}
use Rattle.host_ledger.specs.Kept.{ledger_of, IsBuildOf, IsMarkOf, PointsHold, IsKept}
use Rattle.host_ledger.proofs.Summaries.{said_of}
use Rattle.host_ledger.proofs.Totals.{length-le_rooms}

module _ (builds : List Build) (leases : Stacks) (holders : List (Option ℕ)) (vmids : Vmids) (aux capacity : ℕ) (events : Vec Event) (now : HostView)
    (view_is : ledger_of builds leases vmids aux capacity events.items ≡ now)
    (kept : IsKept (ledger_of builds leases vmids aux capacity events.items) builds leases holders vmids events)
    (build : ℕ) (there_now : build < now.limits.builds) where
  abbrev host : HostView
  host = ledger_of builds leases vmids aux capacity events.items

  there : build < length builds
  there = subst (λ (h : HostView). build < h.limits.builds) (sym view_is) there_now

  abort_there : build < length host.aborting
  abort_there = subst (λ n. build < n) (sym (length-map builds (λ (b : Build). b.aborting))) there

  mark_there : build < length host.marks
  mark_there = subst (λ n. build < n) (sym (length-map builds (λ (b : Build). b.mark))) there

  -- after the abort of a build begins, the build's abort flag is set exactly if the build has anything open
  pub flag_begun : is_aborting (begun now build) build ≡ nat_lt 0 (length (open_of now build))
  flag_begun = get_or-set_same now.aborting build (nat_lt 0 (length (open_of now build))) false (subst (λ (h : HostView). build < length h.aborting) view_is abort_there)

  -- after a mark is set for a build, the build has that mark
  pub mark_told : (mark : Mark) → mark_of (with_mark now build mark) build ≡ Some mark
  mark_told mark = get_or-set_same now.marks build (Some mark) None (subst (λ (h : HostView). build < length h.marks) view_is mark_there)

  -- the history has at most 131,072 events
  pub place_fits : length events.items ≤ 131072
  place_fits =
      let total = length-le_rooms (length builds) capacity events.items kept.of_builds
      (λ b below. let room = (kept.room b below).used in omega (arith, room)) in
      let few = kept.few_builds in
      let small = kept.few_events in
      nonlinear total few small
    where
      nonlinear : length events.items ≤ length builds * capacity → length builds ≤ 8 → capacity ≤ 16384 → length events.items ≤ 131072
      nonlinear total few small = grind (arith, total, few, small)

  module _ (number : ℕ) (old : Build) (number_is : number ≡ build) (read : old ≡ get_or builds number old) where
    stands : slice_get builds build ≡ Some old
    stands = slice_get-get_or builds build old there ∙ ap Some (ap (λ n. get_or builds n old) (sym number_is) ∙ sym read)

    -- the record of the build has the abort flag that the host has for the build
    aborting_was : old.aborting ≡ is_aborting host build
    aborting_was = said_of (λ (b : Build). b.aborting) builds build old false stands

    -- the record of the build has the mark that the host has for the build
    mark_was : old.mark ≡ mark_of host build
    mark_was = said_of (λ (b : Build). b.mark) builds build old None stands

    -- a build with nothing open is not in abort
    pub idle : length old.journal ≡ 0 → is_aborting now build ≡ false
    idle none = at (is_aborting now build) refl
      where
        at : (t : Bool) → is_aborting now build ≡ t → is_aborting now build ≡ false
        at false is = is
        at true is =
            let hold : PointsHold now build = subst (λ (h : HostView). PointsHold h build) view_is (kept.points build there) in
            let some = hold.in_abort is in
            let same : length old.journal ≡ length (open_of now build) =
            ap length (kept.builds_are build old stands).journal ∙ ap (λ (h : HostView). length (open_of h build)) view_is in
            absurd (omega (arith, none, some, same))

    -- `mark_while` keeps the build's mark, if there is one, as no fewer operations are open than at the mark
    pub low : mark_while (length old.journal) (mark_of now build) ≡ mark_of now build
    low = at (mark_of now build) refl
      where
        at : (o : Option Mark) → mark_of now build ≡ o → mark_while (length old.journal) o ≡ o
        at None is = refl
        at (Some mark) is =
            let hold : PointsHold now build = subst (λ (h : HostView). PointsHold h build) view_is (kept.points build there) in
            let point = (hold.marked mark is).stands in
            let since = point.since (length now.history) point.place in
            let here : mark.length ≤ length (open_of now build) =
            subst (λ b. mark.length ≤ length (open_entries b now.history)) (hold.marked mark is).of_build
            (subst (λ (es : List Event). mark.length ≤ length (open_entries mark.build es)) (take_all (length now.history) now.history (omega arith)) since) in
            let same : length old.journal ≡ length (open_of now build) =
            ap length (kept.builds_are build old stands).journal ∙ ap (λ (h : HostView). length (open_of h build)) view_is in
            ap (λ t. cond t (Some mark) None) (le-leb mark.length (length old.journal) (omega (arith, here, same)))

    pub mark_is : old.mark ≡ mark_of now build
    mark_is = mark_was ∙ ap (λ (h : HostView). mark_of h build) view_is

    pub mark_is_valid : (told : Option Mark) → told ≡ old.mark → IfSome told (IsMarkOf now build)
    mark_is_valid None is = tt
    mark_is_valid (Some mark) is =
        let hold : PointsHold now build = subst (λ (h : HostView). PointsHold h build) view_is (kept.points build there) in
        hold.marked mark (sym (is ∙ mark_is))

    module _ (new : Build) (rest : new ≡ record old { aborting = new.aborting; mark = new.mark }) where
      abbrev new_builds : List Build
      new_builds = set builds number new

      abbrev new_host : HostView
      new_host = record host { aborting = set host.aborting build new.aborting; marks = set host.marks build new.mark }

      pub view_pointed : ledger_of new_builds leases vmids aux capacity events.items ≡ new_host
      view_pointed = λ i. record {
        limits = record { pages = leases.room; vmids = vmids.vmids; aux = aux; builds = length-set builds number new i };
        capacity = capacity;
        history = events.items;
        aborting = (map-set (λ (b : Build). b.aborting) builds number new ∙ ap (λ n. set host.aborting n new.aborting) number_is) i;
        marks = (map-set (λ (b : Build). b.mark) builds number new ∙ ap (λ n. set host.marks n new.mark) number_is) i;
      }

      new_is : IsBuildOf events.items (world_of host) build new
      new_is = subst (IsBuildOf events.items (world_of host) build) (sym rest) (let was = kept.builds_are build old stands in record {
        journal = was.journal;
        events = was.events;
        realm = was.realm;
        recs = was.recs;
        running = was.running;
      })

      builds_are : (b : ℕ) (other : Build) → slice_get new_builds b ≡ Some other → IsBuildOf events.items (world_of host) b other
      builds_are b other at = ⊎_elim
          (λ same.
          let here : slice_get new_builds b ≡ Some new =
          slice_get-set builds number b new old (ap (slice_get builds) number_is ∙ stands)
          ∙ ap (λ t. cond t (Some new) (slice_get builds b)) (eq-eqb b number (same ∙ sym number_is)) in
          subst (λ n. IsBuildOf events.items (world_of host) n other) (sym same)
          (subst (IsBuildOf events.items (world_of host) build) (same_Some _ _ (sym here ∙ at)) new_is))
          (λ apart.
          let there_b : slice_get new_builds b ≡ slice_get builds b =
          slice_get-set builds number b new old (ap (slice_get builds) number_is ∙ stands)
          ∙ ap (λ t. cond t (Some new) (slice_get builds b)) (ne_eqb b number (λ e. apart (e ∙ number_is))) in
          kept.builds_are b other (sym there_b ∙ at))
          (cases_eq b build)

      others_hold : (b : ℕ) → b ≢ build → PointsHold host b → PointsHold new_host b
      others_hold b apart hold = record {
        in_abort = λ is. hold.in_abort (sym (get_or-set_other host.aborting build b new.aborting false apart) ∙ is);
        marked = λ mark is. let was = hold.marked mark (sym (get_or-set_other host.marks build b new.mark None apart) ∙ is) in record {
          of_build = was.of_build;
          stands = was.stands;
        };
      }

      pub kept_pointed : PointsHold new_host build → IsKept (ledger_of new_builds leases vmids aux capacity events.items) new_builds leases holders vmids events
      unfolding world_of
      kept_pointed own = subst (λ (h : HostView). IsKept h new_builds leases holders vmids events) (sym view_pointed) (record {
        legal = kept.legal;
        few_builds = kept.few_builds;
        few_pages = kept.few_pages;
        few_events = kept.few_events;
        as_many_stacks = kept.as_many_stacks;
        builds_are = builds_are;
        stacks_are = kept.stacks_are;
        holders_are = kept.holders_are;
        vmids_are = kept.vmids_are;
        room = λ b below. let room = kept.room b below in record { used = room.used; few_open = room.few_open };
        points = λ b below. ⊎_elim
            (λ same. subst (PointsHold new_host) (sym same) own)
            (λ apart. others_hold b apart (kept.points b below))
            (cases_eq b build);
        of_builds = kept.of_builds;
        memory = kept.memory;
      })

      -- ---- an abort begins

      module _ (marked : new.mark ≡ old.mark) (begins : new.aborting ≡ nat_lt 0 (length old.journal)) where
        opened : nat_lt 0 (length old.journal) ≡ nat_lt 0 (length (open_of host build))
        opened = ap (λ (acts : List Act). nat_lt 0 (length acts)) (kept.builds_are build old stands).journal

        pub view_begun : ledger_of new_builds leases vmids aux capacity events.items ≡ begun now build
        view_begun =
            view_pointed
            ∙ (λ i. record host {
              aborting = set host.aborting build ((begins ∙ opened) i);
              marks = (ap (set host.marks build) (marked ∙ mark_was) ∙ set-get_or host.marks build None) i;
            })
            ∙ ap (λ (h : HostView). begun h build) view_is

        pub kept_begun : IsKept (ledger_of new_builds leases vmids aux capacity events.items) new_builds leases holders vmids events
        kept_begun =
            let hold = kept.points build there in
            kept_pointed (record {
              in_abort = λ is. ltb-true 0 (length (open_of host build)) (sym (begins ∙ opened) ∙ sym (get_or-set_same host.aborting build new.aborting false abort_there) ∙ is);
              marked = λ mark is.
                  let was = hold.marked mark (sym (marked ∙ mark_was) ∙ sym (get_or-set_same host.marks build new.mark None mark_there) ∙ is) in
                  record { of_build = was.of_build; stands = was.stands };
            })

      -- ---- a mark is made

      module _ (goes_on : new.aborting ≡ old.aborting) (mark : Mark) (is_now : mark ≡ mark_now now build) (told : new.mark ≡ Some mark) where
        marked : new.mark ≡ Some (mark_now host build)
        marked = told ∙ ap Some (is_now ∙ ap (λ (h : HostView). mark_now h build) (sym view_is))

        pub view_marked : ledger_of new_builds leases vmids aux capacity events.items ≡ with_mark now build mark
        view_marked =
            view_pointed
            ∙ (λ i. record host {
              aborting = (ap (set host.aborting build) (goes_on ∙ aborting_was) ∙ set-get_or host.aborting build false) i;
              marks = set host.marks build (marked i);
            })
            ∙ ap (λ (h : HostView). with_mark h build (mark_now h build)) view_is
            ∙ ap (with_mark now build) (sym is_now)

        pub kept_marked : IsKept (ledger_of new_builds leases vmids aux capacity events.items) new_builds leases holders vmids events
        kept_marked =
            let hold = kept.points build there in
            kept_pointed (record {
              in_abort = λ is. hold.in_abort (sym (goes_on ∙ aborting_was) ∙ sym (get_or-set_same host.aborting build new.aborting false abort_there) ∙ is);
              marked = λ other is.
                  let same : mark_now host build ≡ other = same_Some _ _ (sym marked ∙ sym (get_or-set_same host.marks build new.mark None mark_there) ∙ is) in
                  subst (IsMarkOf new_host build) same (record { of_build = refl; stands = valid_now build events.items });
            })
