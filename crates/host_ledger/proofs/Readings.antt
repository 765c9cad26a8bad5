-- Proofs that the values read from the ledger agree with the ledger's history.
use Rattle.std.proofs.Common.{◌≡◌, ℕ, ◌+◌, ◌<◌, ◌≤◌, Bool, true, false, List, [], length, take, get_or, Option, Some, None, refl, sym, ap, ◌∙◌, subst, arith}
use Rattle.std.specs.Prelude.{nat_lt, slice_get, option_map, IfSome, IsSome}
use Rattle.std.specs.List.{sum_by}
use Rattle.std.proofs.lemmas.Bool.{ltb-false, ltb-true}
use Rattle.std.proofs.lemmas.Option.{slice_get_within, get_or_from_slice_get, slice_get-get_or}
use Rattle.std.proofs.lemmas.List.{get_or_past}
use Rattle.std.proofs.lemmas.List.Elements.{All-get_or, All-take}
use Rattle.build_journal.specs.Stacks.{Stacks, stack_of}
use Rattle.build_journal.specs.Vmids.{Vmids}
use Rattle.realm_model.specs.Machine.{Seen}
use Rattle.realm_model.specs.World.{World, realm_of}
use Rattle.realm_model.specs.History.{acts_of, open_entries, unmatched, pages_of}
use Rattle.realm_model.specs.Room.{room_taken}
use Rattle.realm_model.proofs.Leases.{leased}
use Rattle.realm_model.proofs.Pages.{pages_are_leased}
use Rattle.realm_model.proofs.RealmOf.{IsHeld, IsHeld-realm_of}
use Rattle.realm_model.proofs.Reached.{sized_reached}
use Rattle.realm_model.proofs.Room.{room_is_sum}
use Rattle.realm_model.specs.Places.{rd_of, rec_granule}
use Rattle.host_ledger.specs.declared.build.Build.{Build}
use Rattle.host_ledger.specs.View.{HostView, world_of, open_of, used, granule_of_page, is_aborting, mark_of}
use Rattle.realm_model.specs.RecsOpen.{granule_in}
use Rattle.realm_model.proofs.RecsOpen.{recs_are_open}
use Rattle.host_ledger.specs.Kept.{HasRoom, PointsHold, IsBuildOf, IsKept}
use Rattle.host_ledger.proofs.RealmFollows.{no_realm}
use Rattle.host_ledger.proofs.Totals.{acts_of-past}
use Rattle.host_ledger.proofs.Worlds.{world_is}
use Rattle.std.specs.Global.{Vec}
use Rattle.realm_model.specs.declared.act.Event.{Event}

-- a build with no events has nothing open
pub none_open : (build : ℕ) (history : List Event) → acts_of build history ≡ [] → open_entries build history ≡ []
unfolding open_entries
none_open build history none = ap unmatched none

-- if there are as many abort flags as builds, a build that does not exist is not in abort
pub no_abort : (host : HostView) (build : ℕ) → length host.aborting ≡ host.limits.builds → host.limits.builds ≤ build → is_aborting host build ≡ false
no_abort host build aborts past = get_or_past host.aborting build false (omega arith)

pub no_mark : (host : HostView) (build : ℕ) → length host.marks ≡ host.limits.builds → host.limits.builds ≤ build → mark_of host build ≡ None
no_mark host build marks past = get_or_past host.marks build None (omega arith)

if_some : (o : Option ℕ) (P : ℕ → Type 0) → ((x : ℕ) → o ≡ Some x → P x) → IfSome o P
if_some None P each = tt
if_some (Some x) P each = each x refl

some_within : (xs : List ℕ) (place : ℕ) → IsSome (slice_get xs place) → place < length xs
some_within xs place some = at (slice_get xs place) refl some
  where
    at : (o : Option ℕ) → slice_get xs place ≡ o → IsSome o → place < length xs
    at None is h = cc
    at (Some x) is h = slice_get_within xs place x is

module _ (host : HostView) (builds : List Build) (leases : Stacks) (holders : List (Option ℕ)) (vmids : Vmids) (events : Vec Event) (kept : IsKept host builds leases holders vmids events) where
  abbrev world : World
  world = world_of host

  pub no_acts : (build : ℕ) → host.limits.builds ≤ build → acts_of build host.history ≡ []
  no_acts build past = acts_of-past host.limits.builds build host.history kept.of_builds past

  pub realm_past : (build : ℕ) → host.limits.builds ≤ build → realm_of build world ≡ None
  realm_past build past =
      no_realm host.limits host.history world kept.legal (world_is host kept.legal) build (none_open build host.history (no_acts build past))

  -- `HasRoom` holds for any build number, even if the host has no such build
  pub has_room : (build : ℕ) → HasRoom host build
  has_room build = at (nat_lt build host.limits.builds) refl
    where
      at : (t : Bool) → nat_lt build host.limits.builds ≡ t → HasRoom host build
      at true is = kept.room build (ltb-true build host.limits.builds is)
      at false is =
          let past = ltb-false build host.limits.builds is in
          let none = no_acts build past in
          let sum = room_is_sum host.limits host.history world build kept.legal (world_is host kept.legal) in
          let zero : sum_by room_taken (acts_of build host.history) ≡ 0 = ap (sum_by room_taken) none in
          let opened = ap length (none_open build host.history none) in
          record {
            used = omega (arith, sum, zero);
            few_open =
                λ n. let early = ap length (none_open build (take n host.history) (acts_of-past host.limits.builds build (take n host.history)
                (All-take (λ (e : Event). e.build < host.limits.builds) n host.history kept.of_builds) past)) in omega (arith, early);
          }

  -- if the host has one abort flag and one optional mark for each build, `PointsHold` holds for any build number, even
  -- if the host has no such build
  pub points_hold : (build : ℕ) → length host.aborting ≡ host.limits.builds → length host.marks ≡ host.limits.builds → PointsHold host build
  points_hold build aborts marks = at (nat_lt build host.limits.builds) refl
    where
      at : (t : Bool) → nat_lt build host.limits.builds ≡ t → PointsHold host build
      at true is = kept.points build (ltb-true build host.limits.builds is)
      at false is =
          let past = ltb-false build host.limits.builds is in
          record {
            in_abort = λ aborts_now. absurd (let not = no_abort host build aborts past in cc);
            marked = λ mark marked_now. absurd (let not = no_mark host build marks past in cc);
          }

  -- each page of a build is a granule of the machine
  pub page_inside : (build page : ℕ) → IfSome (granule_of_page host build page) (λ granule. granule < host.limits.pages)
  page_inside build page = if_some (granule_of_page host build page) (λ granule. granule < host.limits.pages) (λ granule there.
      let pages = pages_are_leased host.limits build host.history world kept.legal (world_is host kept.legal) in
      let within : page < length (pages_of build host.history) = slice_get_within (pages_of build host.history) page granule there in
      subst (λ n. n < host.limits.pages) (get_or_from_slice_get (pages_of build host.history) page granule 0 there)
      (All-get_or (λ n. n < host.limits.pages) (pages_of build host.history) page 0 within pages.inside))

  -- the RD of each build's realm is a granule of the machine
  pub rd_inside : (build : ℕ) → IfSome (rd_of build world) (λ rd. rd < host.limits.pages)
  rd_inside build = at (realm_of build world) (IsHeld-realm_of build world)
    where
      at : (o : Option Seen) → IsHeld build world.leases o → IfSome (option_map (λ (rd : Seen). rd.number) o) (λ rd. rd < host.limits.pages)
      at None held = tt
      at (Some rd) held =
          let sized = sized_reached host.limits host.history world (world_is host kept.legal) in
          let within = slice_get_within world.leases rd.number (Some build) (leased (Some build) world.leases rd.number held) in
          omega (arith, within, sized.leases)

  -- ---- by what is kept of a build

  module _ (now : HostView) (view_is : host ≡ now) (build : ℕ) (there_now : build < now.limits.builds) (long : length builds ≡ host.limits.builds) where
    there : build < host.limits.builds
    there = subst (λ (h : HostView). build < h.limits.builds) (sym view_is) there_now

    pub page_told : (page : ℕ) (told : Option ℕ) → told ≡ slice_get (stack_of leases build) page → IfSome told (λ granule. granule < now.limits.pages)
    page_told page told is =
        subst (λ (h : HostView). IfSome told (λ granule. granule < h.limits.pages)) view_is
        (subst (λ (o : Option ℕ). IfSome o (λ granule. granule < host.limits.pages)) (sym (is ∙ ap (λ (pages : List ℕ). slice_get pages page) (kept.stacks_are build there))) (page_inside build page))

    -- the number of each page that a build has is below 4,096
    pub few_told : (page : ℕ) (told : Option ℕ) → told ≡ slice_get (stack_of leases build) page → IsSome told → page < 4096
    few_told page told is some =
        let pages = pages_are_leased host.limits build host.history world kept.legal (world_is host kept.legal) in
        let within : page < length (pages_of build host.history) =
        some_within (pages_of build host.history) page (subst (λ (o : Option ℕ). IsSome o) (is ∙ ap (λ (ps : List ℕ). slice_get ps page) (kept.stacks_are build there)) some) in
        let few = kept.few_pages in
        let count = pages.count in
        omega (arith, within, few, count)

    module _ (number : ℕ) (old : Build) (number_is : number ≡ build) (read : old ≡ get_or builds number old) where
      pub stands : IsBuildOf host.history world build old
      stands =
          kept.builds_are build old
          (slice_get-get_or builds build old (subst (λ n. build < n) (sym long) there) ∙ ap Some (ap (λ n. get_or builds n old) (sym number_is) ∙ sym read))

      pub journal_told : old.journal ≡ open_of now build
      journal_told = stands.journal ∙ ap (λ (h : HostView). open_of h build) view_is

      pub used_told : old.events + length old.journal + old.running ≡ used now build
      used_told = (λ i. stands.events i + length (stands.journal i) + stands.running i) ∙ ap (λ (h : HostView). used h build) view_is

      pub used_fits : old.events + length old.journal + old.running ≤ now.capacity
      used_fits =
          subst (λ n. n ≤ now.capacity) (sym used_told) (subst (λ (h : HostView). used h build ≤ h.capacity) view_is (kept.room build there).used)

      pub rd_told : IfSome old.realm (λ rd. rd < now.limits.pages)
      rd_told =
          subst (λ (h : HostView). IfSome old.realm (λ rd. rd < h.limits.pages)) view_is
          (subst (λ (o : Option ℕ). IfSome o (λ rd. rd < host.limits.pages)) (sym stands.realm) (rd_inside build))

      pub rec_told : (rec : ℕ) (told : Option ℕ) → told ≡ granule_in old.recs rec → told ≡ rec_granule (realm_of build (world_of now)) rec
      rec_told rec told is =
          is ∙ ap (λ (recs : List (ℕ × ℕ)). granule_in recs rec) stands.recs
          ∙ sym ((recs_are_open host.limits host.history world build kept.legal (world_is host kept.legal)).granules rec)
          ∙ ap (λ (h : HostView). rec_granule (realm_of build (world_of h)) rec) view_is
