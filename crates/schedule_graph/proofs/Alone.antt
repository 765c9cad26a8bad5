-- Proofs that other builds affect neither the refusal nor the operation of a call that needs no block and no VMID.
use Rattle.std.proofs.Common.{◌≡◌, ℕ, ◌+◌, ◌-◌, Bool, true, false, not, List, [], ◌∷◌, ◌++◌, map, length, Option, Some, None, refl, sym, ap, ◌∙◌, eq-eqb}
use Rattle.std.specs.Prelude.{nat_le, nat_lt, is_some, slice_get, slice_index, option_map, option_and_then}
use Rattle.std.specs.List.{last_or, list_all, cons_option, filter_map, flat_map}
use Rattle.std.proofs.lemmas.Bool.{and_from}
use Rattle.std.proofs.lemmas.Option.{same_Some}
use Rattle.realm_model.specs.declared.act.Act.{Act}
use Rattle.realm_model.specs.declared.act.Event.{Event}
use Rattle.realm_model.specs.Machine.{Limits, Seen, seen}
use Rattle.realm_model.specs.History.{events_of, acts_of, open_entries, unmatched, pages_held, replay, IsLegal}
use Rattle.realm_model.specs.Running.{next_number, running_count, is_running}
use Rattle.realm_model.specs.Command.Check.{is_in}
use Rattle.realm_model.specs.Outcome.{outcome_of}
use Rattle.realm_model.specs.Step.{used_vmids}
use Rattle.realm_model.specs.World.{is_leased_to, is_of_other, part_of, realm_of}
use Rattle.realm_model.proofs.HiddenSteps.{named_seen}
use Rattle.realm_model.proofs.Lists.{is_in_at}
use Rattle.realm_model.proofs.Pages.{is_in-pages_of}
use Rattle.realm_model.proofs.RealmOf.{realm_of-part_of}
use Rattle.realm_model.proofs.TakenAlone.{legal_alone}
use Rattle.host_commands.specs.declared.cmd.Cmd.{Cmd}
use Rattle.host_commands.specs.declared.cmd.Cmd.TheVariants.{Take, Fill, Peek, Delegate, Realm, Rtt, Ripas, Data, Unknown, Rec, Activate, Enter, Exit, Poke}
use Rattle.host_commands.specs.declared.refusal.Refusal.TheVariants.{NoBuild, NothingToUndo, RecRunning}
use Rattle.host_commands.specs.declared.reply.Allocated.{Allocated}
use Rattle.host_commands.specs.Acts.{of_granule, act_if, act_of}
use Rattle.host_commands.specs.BuildsSummary.{BuildsSummary}
use Rattle.host_commands.specs.Checks.{state_checks, checks_of, first_that_holds}
use Rattle.host_commands.specs.Laws.{outcome_of_act}
use Rattle.host_commands.specs.Needs.{operands, needs_of}
use Rattle.host_ledger.specs.Summary.{summary_of}
use Rattle.host_ledger.specs.View.{HostView, world_of, open_of, pages_of_build, used, is_aborting}
use Rattle.host_ledger.specs.Vmids.{lowest_vmid}
use Rattle.host_ledger.proofs.Worlds.{world_is}
use Rattle.realm_host.specs.Allocation.{granules_named, byte_read, allocated_for, act_asked, outcome_asked}
use Rattle.realm_host.specs.Call.{Call, Ask, Undo}
use Rattle.realm_host.specs.Refusals.{is_newest_running, refused_by, last_checks, refusal_of}
use Rattle.schedule_graph.specs.Alone.{DidTheSameAlone, NeedsNothingShared}

-- ---- the operation and its outcome do not depend on what is shared

module _ (P : Option Act → Type 0) (none : P None) where
  by_granule : (gs : List ℕ) (place : ℕ) (f : ℕ → Option Act) → ((g : ℕ) → P (f g)) → P (of_granule gs place f)
  by_granule gs place f h = elim (slice_get gs place) as (λ o. P (option_and_then f o)) [ Some g ↦ h g | None ↦ none ]

  by_test : (t : Bool) (act : Act) → P (Some act) → P (act_if t act)
  by_test true act h = h
  by_test false act h = none

-- the operation of a command that needs no block and no VMID depends on no allocated value but the REC number and the
-- byte that is read
act_alike : (cmd : Cmd) → NeedsNothingShared (Ask cmd) → (gs : List ℕ) (one other : Allocated) → other.number ≡ one.number → other.byte ≡ one.byte → act_of cmd gs other ≡ act_of cmd gs one
unfolding act_of
act_alike (Take order) none_such gs one other number byte = absurd none_such
act_alike (Realm rd root width) none_such gs one other number byte = absurd none_such
act_alike (Peek page offset) own gs one other number byte = λ i. act_of (Peek page offset) gs (record one { byte = byte i })
act_alike (Rec page auxiliaries) own gs one other number byte = λ i. act_of (Rec page auxiliaries) gs (record one { number = number i })
act_alike (Fill page value) own gs one other number byte = refl
act_alike (Delegate page) own gs one other number byte = refl
act_alike (Rtt page ipa level) own gs one other number byte = refl
act_alike (Ripas ipa count) own gs one other number byte = refl
act_alike (Data page ipa source) own gs one other number byte = refl
act_alike (Unknown page ipa) own gs one other number byte = refl
act_alike Activate own gs one other number byte = refl
act_alike (Enter n) own gs one other number byte = refl
act_alike (Exit n) own gs one other number byte = refl
act_alike (Poke n ipa offset value) own gs one other number byte = refl

module _ (limits : Limits) (used fewer : List ℕ) (realm : Option Seen) (cells : List Seen) where
  abbrev Alike : Option Act → Type 0
  Alike act = outcome_of_act limits used act realm cells ≡ outcome_of_act limits fewer act realm cells

  -- the outcome of a command that needs no block and no VMID does not depend on the VMIDs in use
  outcome_alike : (cmd : Cmd) → NeedsNothingShared (Ask cmd) → (gs : List ℕ) (allocated : Allocated) → Alike (act_of cmd gs allocated)
  unfolding act_of outcome_of
  outcome_alike (Take order) none_such gs allocated = absurd none_such
  outcome_alike (Realm rd root width) none_such gs allocated = absurd none_such
  outcome_alike (Fill page value) own gs allocated = by_granule Alike refl gs 0 _ (λ g. refl)
  outcome_alike (Peek page offset) own gs allocated = by_granule Alike refl gs 0 _ (λ g. refl)
  outcome_alike (Delegate page) own gs allocated = by_granule Alike refl gs 0 _ (λ g. refl)
  outcome_alike (Rtt page ipa level) own gs allocated = by_granule Alike refl gs 0 _ (λ g. by_test Alike refl _ _ refl)
  outcome_alike (Ripas ipa count) own gs allocated = by_test Alike refl _ _ refl
  outcome_alike (Data page ipa source) own gs allocated = by_granule Alike refl gs 0 _ (λ g. by_granule Alike refl gs 1 _ (λ from. by_test Alike refl _ _ refl))
  outcome_alike (Unknown page ipa) own gs allocated = by_granule Alike refl gs 0 _ (λ g. by_test Alike refl _ _ refl)
  outcome_alike (Rec page auxiliaries) own gs allocated = by_granule Alike refl gs 0 _ (λ g. refl)
  outcome_alike Activate own gs allocated = refl
  outcome_alike (Enter n) own gs allocated = refl
  outcome_alike (Exit n) own gs allocated = refl
  outcome_alike (Poke n ipa offset value) own gs allocated = by_test Alike refl _ _ refl

-- ---- the checks before

-- A `BuildsSummary` in which every build has the same given values. Of the builds' values, a call's checks read only
-- those of the calling build.
abbrev summary_alone : ℕ → Bool → List ℕ → Bool → ℕ → ℕ → Bool → BuildsSummary
summary_alone builds aborting pages realm opened room vmid = record {
  builds = builds;
  aborting = λ _. aborting;
  pages = λ _. pages;
  realm = λ _. realm;
  opened = λ _. opened;
  room_left = λ _. room;
  vmid = vmid;
}

abbrev summary_at : HostView → ℕ → Bool → BuildsSummary
summary_at host b vmid =
    summary_alone host.limits.builds (is_aborting host b) (pages_of_build host b) (is_some (option_map (λ (rd : Seen). rd.number) (realm_of b (world_of host)))) (length (open_of host b))
    (host.capacity - used host b) vmid

checks_at : (host : HostView) (b : ℕ) (cmd : Cmd) → checks_of (summary_of host) b cmd ≡ checks_of (summary_at host b (is_some (lowest_vmid host))) b cmd
unfolding checks_of state_checks
checks_at host b cmd = refl

-- the checks of a command that needs no block and no VMID do not depend on whether a VMID is free
any_vmid : (host : HostView) (b : ℕ) (cmd : Cmd) → NeedsNothingShared (Ask cmd) → (one other : Bool) → checks_of (summary_at host b one) b cmd ≡ checks_of (summary_at host b other) b cmd
unfolding checks_of state_checks needs_of
any_vmid host b (Take order) none_such one other = absurd none_such
any_vmid host b (Realm rd root width) none_such one other = absurd none_such
any_vmid host b (Fill page value) own one other = refl
any_vmid host b (Peek page offset) own one other = refl
any_vmid host b (Delegate page) own one other = refl
any_vmid host b (Rtt page ipa level) own one other = refl
any_vmid host b (Ripas ipa count) own one other = refl
any_vmid host b (Data page ipa source) own one other = refl
any_vmid host b (Unknown page ipa) own one other = refl
any_vmid host b (Rec page auxiliaries) own one other = refl
any_vmid host b Activate own one other = refl
any_vmid host b (Enter n) own one other = refl
any_vmid host b (Exit n) own one other = refl
any_vmid host b (Poke n ipa offset value) own one other = refl

-- ---- the byte that is read

abbrev byte_of : Cmd → List Seen → ℕ
byte_of (Peek page offset) (s ∷ rest) = slice_index s.cell.bytes offset
byte_of _ _ = 0

byte_seen : (h : HostView) (cmd : Cmd) (gs : List ℕ) → byte_of cmd (map (seen (world_of h).machine) gs) ≡ byte_read h cmd gs
byte_seen h (Peek page offset) (g ∷ gs) = refl
byte_seen h (Peek page offset) [] = refl
byte_seen h _ gs = refl

-- ---- a build on two hosts

-- if a build's pages are the granules that the build leases, then the build leases the granules of all its pages that a
-- command names
named_leased : (leases : List (Option ℕ)) (b : ℕ) (pages : List ℕ) → ((g : ℕ) → is_in g pages ≡ is_leased_to (Some b) leases g)
    → (named : List ℕ) → list_all (is_leased_to (Some b) leases) (filter_map (λ page. slice_get pages page) named) ≡ true
named_leased leases b pages are [] = refl
named_leased leases b pages are (page ∷ named) =
    let rest = named_leased leases b pages are named in
    elim (slice_get pages page) as (λ o. slice_get pages page ≡ o → list_all (is_leased_to (Some b) leases) (cons_option o (filter_map (λ page. slice_get pages page) named)) ≡ true) [
      | Some g ↦ λ is. and_from _ _ (sym (are g) ∙ is_in_at pages page g is) rest
      | None ↦ λ is. rest
    ] refl

module _ (b : ℕ) (host twin : HostView) (same : DidTheSameAlone b host twin) where
  acts : acts_of b twin.history ≡ acts_of b host.history
  acts = ap (map (λ (e : Event). e.act)) (sym same.events)

  opened : open_of twin b ≡ open_of host b
  unfolding open_entries
  opened = ap unmatched acts

  pages : pages_of_build twin b ≡ pages_of_build host b
  pages = ap (flat_map pages_held) opened

  part_is : (h : HostView) → IsLegal h.limits h.history → replay h.limits (events_of b h.history) ≡ Some (part_of (world_of h) b)
  part_is h legal = (legal_alone h.limits h.history b legal).1 ∙ ap (option_map (λ world. part_of world b)) (world_is h legal)

  part : part_of (world_of twin) b ≡ part_of (world_of host) b
  part = same_Some _ _ (
      sym (part_is twin same.twin_legal)
      ∙ ap (λ l. replay l (events_of b twin.history)) same.limits
      ∙ ap (replay host.limits) (sym same.events)
      ∙ part_is host same.legal
      )

  realm : realm_of b (world_of twin) ≡ realm_of b (world_of host)
  realm = sym (realm_of-part_of b (world_of twin)) ∙ ap (realm_of b) part ∙ realm_of-part_of b (world_of host)

  room : used twin b ≡ used host b
  room = λ i. length (acts i) + length (opened i) + running_count (realm i)

  named : (cmd : Cmd) → granules_named twin b cmd ≡ granules_named host b cmd
  named cmd = ap (λ ps. filter_map (λ page. slice_get ps page) (operands cmd)) pages

  -- in a legal history, each granule that a build's command names is the same in the whole world as in the build's part
  -- of the world
  seen_in_part : (h : HostView) → IsLegal h.limits h.history → (cmd : Cmd)
      → map (seen (part_of (world_of h) b).machine) (granules_named h b cmd) ≡ map (seen (world_of h).machine) (granules_named h b cmd)
  seen_in_part h legal cmd =
      named_seen (is_of_other b) (Some b) (own_shown b) (world_of h).leases (world_of h).machine (granules_named h b cmd)
      (named_leased (world_of h).leases b (pages_of_build h b) (is_in-pages_of h.limits b h.history (world_of h) legal (world_is h legal)) (operands cmd))
    where
      own_shown : (c : ℕ) → is_of_other c (Some c) ≡ false
      own_shown c = ap not (eq-eqb c c refl)

  cells : (cmd : Cmd) → map (seen (world_of twin).machine) (granules_named twin b cmd) ≡ map (seen (world_of host).machine) (granules_named host b cmd)
  cells cmd = sym (seen_in_part twin same.twin_legal cmd) ∙ (λ i. map (seen (part i).machine) (named cmd i)) ∙ seen_in_part host same.legal cmd

  byte : (cmd : Cmd) → byte_read twin cmd (granules_named twin b cmd) ≡ byte_read host cmd (granules_named host b cmd)
  byte cmd = sym (byte_seen twin cmd (granules_named twin b cmd)) ∙ ap (byte_of cmd) (cells cmd) ∙ byte_seen host cmd (granules_named host b cmd)

  module _ (cmd : Cmd) (own : NeedsNothingShared (Ask cmd)) where
    pub same_act : act_asked twin b cmd ≡ act_asked host b cmd
    same_act =
        ap (λ gs. act_of cmd gs (allocated_for twin b cmd gs)) (named cmd)
        ∙ act_alike cmd own (granules_named host b cmd) (allocated_for host b cmd (granules_named host b cmd)) (allocated_for twin b cmd (granules_named host b cmd))
        (ap next_number realm) (ap (byte_read twin cmd) (sym (named cmd)) ∙ byte cmd)

    outcome : outcome_asked twin b cmd ≡ outcome_asked host b cmd
    outcome =
        (λ i. outcome_of_act (same.limits i) (used_vmids (world_of twin).machine) (same_act i) (realm i) (cells cmd i))
        ∙ outcome_alike host.limits (used_vmids (world_of twin).machine) (used_vmids (world_of host).machine) (realm_of b (world_of host))
        (map (seen (world_of host).machine) (granules_named host b cmd)) cmd own (granules_named host b cmd) (allocated_for host b cmd (granules_named host b cmd))

    checks : checks_of (summary_of twin) b cmd ≡ checks_of (summary_of host) b cmd
    checks =
        checks_at twin b cmd
        ∙ (λ i. checks_of (summary_alone (same.limits i).builds (same.aborting i) (pages i) (is_some (option_map (λ (rd : Seen). rd.number) (realm i))) (length (opened i)) (same.capacity i - room i) (is_some (lowest_vmid twin))) b cmd)
        ∙ any_vmid host b cmd own (is_some (lowest_vmid twin)) (is_some (lowest_vmid host))
        ∙ sym (checks_at host b cmd)

  last : (cmd : Cmd) → NeedsNothingShared (Ask cmd) → last_checks twin b cmd ≡ last_checks host b cmd
  last (Take order) none_such = absurd none_such
  last cmd own = ap refused_by (outcome cmd own)

  newest_runs : is_newest_running twin b ≡ is_newest_running host b
  newest_runs = λ i. elim (last_or None (opened i)) [ Some act ↦ is_running (realm i) act | None ↦ false ]

  pub same_refusal : (call : Call) → NeedsNothingShared call → refusal_of twin b call ≡ refusal_of host b call
  unfolding refusal_of
  same_refusal (Ask cmd) own = λ i. first_that_holds (checks cmd own i ++ last cmd own i)
  same_refusal Undo own = λ i. first_that_holds ((nat_le (same.limits i).builds b, NoBuild) ∷ (nat_lt (length (opened i)) 1, NothingToUndo) ∷ (newest_runs i, RecRunning) ∷ [])
