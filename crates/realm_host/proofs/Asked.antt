-- Proofs that a command other than a Take, once it has passed the host's checks, is either performed or refused with
-- the RMM's answer.
use Rattle.std.proofs.Common.{◌≡◌, ℕ, ◌==◌, ◌<◌, Bool, true, false, List, [], ◌∷◌, ◌++◌, length, map, Option, Some, None, Ok, Err, refl, sym, ap, ◌∙◌, subst, arith}
use Rattle.std.specs.Prelude.{IsTrue, IsSome, option_map, is_some, slice_get, slice_index}
use Rattle.std.specs.List.{All}
use Rattle.std.proofs.lemmas.Bool.{eq-eqb}
use Rattle.std.proofs.lemmas.Option.{same_Some}
use Rattle.std.proofs.lemmas.List.Elements.{All-nil, All-cons}
use Rattle.realm_model.specs.declared.act.Act.{Act}
use Rattle.realm_model.specs.declared.rmi.Rmi.{Rmi}
use Rattle.realm_model.specs.Machine.{RealmRow, Seen, seen, cell_at}
use Rattle.realm_model.specs.Update.{Update}
use Rattle.realm_model.specs.Command.Check.{error_input}
use Rattle.realm_model.specs.Act.{named, is_reverse}
use Rattle.realm_model.specs.Outcome.{outcome_of, realm_is, is_in_range, fits}
use Rattle.realm_model.specs.World.{World, realm_of}
use Rattle.realm_model.specs.Step.{used_vmids, outcome_in}
use Rattle.realm_model.specs.History.{replay, pages_of, IsLegal, IsInTurn}
use Rattle.realm_model.proofs.HistoryParts.{split}
use Rattle.realm_model.proofs.StepSays.{step_is}
use Rattle.realm_model.specs.Running.{next_number}
use Rattle.realm_model.specs.Undoing.{by}
use Rattle.realm_model.proofs.Leases.{leased as leased_to}
use Rattle.realm_model.proofs.Lists.{is_in_at}
use Rattle.realm_model.proofs.Pages.{is_in-pages_of}
use Rattle.realm_model.proofs.PartRealm.{realm_from_some}
use Rattle.realm_model.specs.Places.{rd_of}
use Rattle.host_commands.specs.declared.cmd.Cmd.{Cmd}
use Rattle.host_commands.specs.declared.cmd.Cmd.TheVariants.{Take, Peek, Realm, Rec}
use Rattle.host_commands.specs.declared.refusal.Refusal.{Refusal}
use Rattle.host_commands.specs.declared.refusal.Refusal.TheVariants.{Rmi as RmiRefusal}
use Rattle.host_commands.specs.Needs.{operands, needs_of}
use Rattle.host_commands.specs.Acts.{act_of}
use Rattle.host_commands.specs.Checks.{AreFound, checks_of, first_that_holds}
use Rattle.host_commands.specs.Laws.{IsThere, outcome_of_act}
use Rattle.host_commands.proofs.ActOf.{of_command}
use Rattle.host_commands.proofs.Allocation.{act_fits}
use Rattle.host_ledger.specs.View.{HostView, world_of, granule_of_page}
use Rattle.host_ledger.specs.Summary.{summary_of}
use Rattle.host_ledger.proofs.Worlds.{world_is}
use Rattle.realm_host.specs.Call.{Ask}
use Rattle.host_commands.specs.Replies.{reply_of}
use Rattle.host_commands.proofs.Refused.{first_passes, first_stops}
use Rattle.host_ledger.specs.View.{pages_of_build}
use Rattle.realm_host.specs.Allocation.{granules_named, allocated_for, act_asked, outcome_asked, IsPeekRefused}
use Rattle.realm_host.specs.Refusals.{last_checks, refused_by, refusal_of}
use Rattle.realm_host.specs.Answer.{IsActOf, IsReplied}
use Rattle.realm_host.specs.Acting.{CanAct, IsRecorded}
use Rattle.realm_host.proofs.Checked.{IsWanted, realm_wanted, journal_fits, room_fits, named_are, as_many, all_found}
use Rattle.realm_host.proofs.Pairs.{one_step}

pub forward_turn : (history : _) (build : ℕ) (act : Act) → is_reverse act ≡ false → IsInTurn history (by build act)
forward_turn history build act forward = λ reverse. absurd (never (is_reverse act) forward reverse)
  where
    never : (t : Bool) → t ≡ false → IsTrue t → ⊥
    never true e h = cc
    never false e h = cc

-- ---- commands but a Take

abbrev pub is_take : Cmd → Bool
is_take (Take order) = true
is_take _ = false

pub plain_of : (cmd : Cmd) → ((order : ℕ) → cmd ≡ Take order → ⊥) → is_take cmd ≡ false
plain_of (Take order) other = absurd (other order refl)
plain_of _ other = refl

last_is : (host : HostView) (build : ℕ) (cmd : Cmd) → is_take cmd ≡ false → last_checks host build cmd ≡ refused_by (outcome_asked host build cmd)
last_is host build (Take order) plain = cc
last_is host build _ plain = refl

is_act_of : (host : HostView) (build : ℕ) (cmd : Cmd) (act : Act) → is_take cmd ≡ false → act_asked host build cmd ≡ Some act → IsActOf host build (Ask cmd) act
is_act_of host build (Take order) act plain is = cc
is_act_of host build _ act plain is = is

peek_outcome : (host : HostView) (build : ℕ) (cmd : Cmd) (granules : List ℕ) (rmi : Rmi) → IsPeekRefused host cmd granules rmi
    → outcome_of_act host.limits (used_vmids (world_of host).machine) (act_of cmd granules (allocated_for host build cmd granules)) (realm_of build (world_of host))
    (map (seen (world_of host).machine) granules) ≡ Err rmi
unfolding act_of outcome_of
peek_outcome host build (Peek page offset) (granule ∷ others) rmi e = e
peek_outcome host build (Peek page offset) [] rmi e = absurd e
peek_outcome host build _ granules rmi e = absurd e

-- ---- what was allocated is what is there

number_fits : (o : Option Seen) → ((rd : Seen) → o ≡ Some rd → is_some rd.cell.descriptor ≡ true) → is_some (option_map (λ (rd : Seen). rd.number) o) ≡ true
    → realm_is o (λ d r. next_number o == r.next) ≡ true
number_fits None row some = cc
number_fits (Some rd) row some = at rd.cell.descriptor (row rd refl) (next_number (Some rd)) refl
  where
    at : (d : Option RealmRow) → is_some d ≡ true → (n : ℕ) → n ≡ elim d [ Some realm ↦ realm.next | None ↦ 0 ] → elim d [ Some realm ↦ n == realm.next | None ↦ false ] ≡ true
    at None some n is = cc
    at (Some realm) some n is = eq-eqb n realm.next is

none_of : (o : Option Seen) → is_some (option_map (λ (rd : Seen). rd.number) o) ≡ false → o ≡ None
none_of None e = refl
none_of (Some rd) e = cc

there_is : (host : HostView) (build : ℕ) (cmd : Cmd) (gs : List ℕ) → length gs ≡ length (operands cmd) → IsWanted (needs_of cmd).realm (is_some (rd_of build (world_of host)))
    → IsThere cmd (allocated_for host build cmd gs) (realm_of build (world_of host)) (map (seen (world_of host).machine) gs)
unfolding operands needs_of
there_is host build (Peek page offset) [] long wanted = absurd (omega (arith, long))
there_is host build (Peek page offset) (g ∷ []) long wanted =
    All-cons (λ (x : Seen). slice_index x.cell.bytes offset ≡ slice_index (cell_at (world_of host).machine g).bytes offset) (seen (world_of host).machine g) [] refl
    (All-nil (λ (x : Seen). slice_index x.cell.bytes offset ≡ slice_index (cell_at (world_of host).machine g).bytes offset))
there_is host build (Peek page offset) (g ∷ h ∷ gs) long wanted = absurd (omega (arith, long))
there_is host build (Realm rd root width) gs long wanted = none_of (realm_of build (world_of host)) wanted
there_is host build (Rec page auxiliaries) gs long wanted =
    number_fits (realm_of build (world_of host)) (realm_from_some build 0 (world_of host).leases (world_of host).machine) wanted
there_is host build _ gs long wanted = tt

-- if the history with an operation is legal, the outcome of the operation is no error
done_of : (host : HostView) → IsLegal host.limits host.history → (build : ℕ) (act : Act) → IsLegal host.limits (host.history ++ by build act ∷ [])
    → (updates : List Update) × (outcome_in host.limits (world_of host) (by build act) ≡ Ok updates)
done_of host legal build act more = at (replay host.limits (host.history ++ by build act ∷ [])) refl more.steps
  where
    at : (o : Option World) → replay host.limits (host.history ++ by build act ∷ []) ≡ o → IsSome o
        → (updates : List Update) × (outcome_in host.limits (world_of host) (by build act) ≡ Ok updates)
    at None is some = cc
    at (Some next) is some =
        let parts = split host.limits host.history (by build act ∷ []) next more is in
        let base : parts.base ≡ world_of host = same_Some _ _ (sym parts.base_is ∙ world_is host legal) in
        let stepped = one_step host.limits (by build act) parts.base next parts.goes_on in
        let step = step_is host.limits parts.base next (by build act) stepped in
        (step.updates, ap (λ (w : World). outcome_in host.limits w (by build act)) (sym base) ∙ step.outcome)

module _ (host : HostView) (legal : IsLegal host.limits host.history) (build : ℕ) (cmd : Cmd) (granules : List ℕ) (there : build < host.limits.builds)
    (none : first_that_holds (checks_of (summary_of host) build cmd) ≡ None) (found : AreFound (summary_of host) build cmd granules) where
  abbrev world : World
  world = world_of host

  pub named_is : granules_named host build cmd ≡ granules
  named_is = named_are (granule_of_page host build) (operands cmd) granules found

  pub long : length granules ≡ length (operands cmd)
  long = as_many (granule_of_page host build) (operands cmd) granules found

  pub all_leased : All (λ g. slice_get world.leases g ≡ Some (Some build)) granules
  all_leased = all_found (granule_of_page host build) (λ g. slice_get world.leases g ≡ Some (Some build)) leased (operands cmd) granules found
    where
      leased : (page granule : ℕ) → slice_get (pages_of build host.history) page ≡ Some granule → slice_get world.leases granule ≡ Some (Some build)
      leased page granule at =
          leased_to (Some build) world.leases granule
          (sym (is_in-pages_of host.limits build host.history world legal (world_is host legal) granule) ∙ is_in_at (pages_of build host.history) page granule at)

  -- ---- what was allocated is what is there

  wanted : IsWanted (needs_of cmd).realm (is_some (rd_of build world))
  wanted = realm_wanted (summary_of host) build cmd none

  fitting : (act : Act) → act_of cmd granules (allocated_for host build cmd granules) ≡ Some act → fits act (realm_of build world) (map (seen world.machine) (named act)) ≡ true
  fitting act is =
      ap (λ (gs : List ℕ). fits act (realm_of build world) (map (seen world.machine) gs)) (of_command (allocated_for host build cmd granules) cmd granules act long is).names
      ∙ act_fits (allocated_for host build cmd granules) (realm_of build world) (map (seen world.machine) granules) cmd granules act is
      (there_is host build cmd granules long wanted)

  pub can_act : (act : Act) → act_of cmd granules (allocated_for host build cmd granules) ≡ Some act → is_in_range act ≡ true → CanAct host build act
  can_act act is in_range =
      let of = of_command (allocated_for host build cmd granules) cmd granules act long is in
      record {
        asked = record {
          command = of.command;
          there = there;
          granules = subst (All (λ g. slice_get world.leases g ≡ Some (Some build))) (sym of.names) all_leased;
          in_range = in_range;
          fitting = fitting act is;
        };
        turn = forward_turn host.history build act of.forward;
        room = record {
          room = λ some. let fits = room_fits (summary_of host) build cmd none in let taken = of.room in omega (arith, some, fits, taken);
          few_open = λ paired. journal_fits (summary_of host) build cmd none (sym of.paired ∙ paired);
        };
      }

  -- ---- the outcome

  outcome_is : outcome_asked host build cmd
      ≡ outcome_of_act host.limits (used_vmids world.machine) (act_of cmd granules (allocated_for host build cmd granules)) (realm_of build world) (map (seen world.machine) granules)
  outcome_is = ap (λ (gs : List ℕ). outcome_of_act host.limits (used_vmids world.machine) (act_of cmd gs (allocated_for host build cmd gs)) (realm_of build world) (map (seen world.machine) gs)) named_is

  module _ (plain : is_take cmd ≡ false) where
    refused_as : (rmi : Rmi) → outcome_asked host build cmd ≡ Err rmi → refusal_of host build (Ask cmd) ≡ Some (RmiRefusal rmi)
    unfolding refusal_of
    refused_as rmi e =
        first_passes (checks_of (summary_of host) build cmd) (last_checks host build cmd) none
        ∙ ap first_that_holds (last_is host build cmd plain ∙ ap refused_by e)

    pub no_act : act_of cmd granules (allocated_for host build cmd granules) ≡ None → refusal_of host build (Ask cmd) ≡ Some (RmiRefusal error_input)
    no_act e =
        refused_as error_input (outcome_is
        ∙ ap (λ (o : Option Act). outcome_of_act host.limits (used_vmids world.machine) o (realm_of build world) (map (seen world.machine) granules)) e)

    pub not_read : (rmi : Rmi) → IsPeekRefused host cmd granules rmi → refusal_of host build (Ask cmd) ≡ Some (RmiRefusal rmi)
    not_read rmi e = refused_as rmi (outcome_is ∙ peek_outcome host build cmd granules rmi e)

    module _ (act : Act) (is : act_of cmd granules (allocated_for host build cmd granules) ≡ Some act) where
      outcome_in_is : outcome_asked host build cmd ≡ outcome_in host.limits world (by build act)
      outcome_in_is =
          outcome_is
          ∙ ap (λ (o : Option Act). outcome_of_act host.limits (used_vmids world.machine) o (realm_of build world) (map (seen world.machine) granules)) is
          ∙ ap (λ (gs : List ℕ). outcome_of host.limits.vmids host.limits.aux (used_vmids world.machine) act (realm_of build world) (map (seen world.machine) gs))
          (sym (of_command (allocated_for host build cmd granules) cmd granules act long is).names)

      pub act_refused : (rmi : Rmi) → outcome_in host.limits world (by build act) ≡ Err rmi → refusal_of host build (Ask cmd) ≡ Some (RmiRefusal rmi)
      act_refused rmi e = refused_as rmi (outcome_in_is ∙ e)

      not_refused : (updates : List Update) → outcome_asked host build cmd ≡ Ok updates → refusal_of host build (Ask cmd) ≡ None
      unfolding refusal_of
      not_refused updates e =
          first_passes (checks_of (summary_of host) build cmd) (last_checks host build cmd) none
          ∙ ap first_that_holds (last_is host build cmd plain ∙ ap refused_by e)

      pub replied_to : (new : HostView) → IsRecorded host build act new → IsReplied host build cmd (reply_of (length (pages_of_build host build)) act) new
      replied_to new recorded =
          let done = done_of host legal build act recorded.legal in
          record {
            act = act;
            accepted = record {
              not_refused = not_refused done.0 (outcome_in_is ∙ done.1);
              act_of = is_act_of host build cmd act plain
                  (ap (λ (gs : List ℕ). act_of cmd gs (allocated_for host build cmd gs)) named_is ∙ is);
              legal = recorded.legal;
              grows = recorded.grows;
            };
            reply_is = refl;
          }

-- if a check in `checks_of` refuses a command, the command gets the refusal of the first such check
pub refused_by_needs : (host : HostView) (build : ℕ) (cmd : Cmd) (refusal : Refusal) → first_that_holds (checks_of (summary_of host) build cmd) ≡ Some refusal
    → refusal_of host build (Ask cmd) ≡ Some refusal
unfolding refusal_of
refused_by_needs host build cmd refusal some = first_stops (checks_of (summary_of host) build cmd) (last_checks host build cmd) refusal some
