-- Proofs that a host applies a recorded event, if the event's build has enough room, exactly when the history with the
-- event is legal.
use Rattle.std.proofs.Common.{◌≡◌, ℕ, ◌<◌, Bool, true, false, not, cond, List, [], ◌∷◌, ◌++◌, Option, Some, None, Result, Ok, Err, refl, sym, ap, ◌∙◌, subst}
use Rattle.std.specs.Prelude.{map, slice_get, option_and_then, IsSome}
use Rattle.std.specs.FinMap.{get, remove}
use Rattle.std.specs.List.{All, last_or, list_all}
use Rattle.std.specs.Result.{is_ok}
use Rattle.std.proofs.lemmas.Bool.{and_from}
use Rattle.std.proofs.lemmas.Option.{same_Some}
use Rattle.page_arena.specs.Block.{IsFreeBlock}
use Rattle.realm_model.specs.declared.act.Act.{Act}
use Rattle.realm_model.specs.declared.act.Act.TheVariants.{Take, UnTake, Rec, UnRec}
use Rattle.realm_model.specs.declared.rmi.Rmi.{Rmi}
use Rattle.realm_model.specs.Act.{is_command, block, named, is_reverse, reverse_of}
use Rattle.realm_model.specs.Command.Check.{error_input, error_rec, is_ready, check, with_realm, with_rec, put_realm}
use Rattle.realm_model.specs.Command.Rec.{rec_destroy}
use Rattle.realm_model.specs.History.{open_entries, replay, IsLegal, IsInTurn}
use Rattle.realm_model.specs.Machine.{RealmRow, RecRow, Seen, left}
use Rattle.realm_model.specs.Outcome.{on_realm, outcome_of, is_in_range, fits}
use Rattle.realm_model.specs.Running.{is_running, is_rec_running, rec_runs}
use Rattle.realm_model.specs.Step.{step, named_cells, outcome_in}
use Rattle.realm_model.specs.Undoing.{by}
use Rattle.realm_model.specs.Update.{Update, Put, Outcome}
use Rattle.realm_model.specs.World.{World, is_leased_to, realm_of}
use Rattle.realm_model.proofs.HistoryParts.{split}
use Rattle.realm_model.proofs.Leases.{leased_all, all_leased}
use Rattle.realm_model.proofs.StepSays.{step_is}
use Rattle.rmi_monitor.proofs.Forward.{holder_is}
use Rattle.rmi_monitor.specs.View.{MonitorView}
use Rattle.host_ledger.specs.View.{HostView, world_of}
use Rattle.host_ledger.proofs.Worlds.{world_is}
use Rattle.realm_host.specs.Host.{IsWhole}
use Rattle.realm_host.proofs.FreeBlocks.{block_free}
use Rattle.realm_host.specs.Acting.{HasRoomFor, CanAct, IsActed, IsApplied}
use Rattle.realm_host.proofs.Asked.{forward_turn}
use Rattle.realm_host.proofs.Pairs.{one_step}

-- an operation is possible in the host's world, and if it is a reverse, it undoes the build's newest open operation
pub record IsNext (host : HostView) (build : ℕ) (act : Act) : Type 0 where
  pub next : World
  pub stepped : step host.limits (world_of host) (by build act) ≡ Some next
  pub turn : IsInTurn host.history (by build act)

pub legal_next : (host : HostView) → IsLegal host.limits host.history → (build : ℕ) (act : Act) → IsLegal host.limits (host.history ++ by build act ∷ []) → IsNext host build act
legal_next host legal build act more = at (replay host.limits (host.history ++ by build act ∷ [])) refl more.steps
  where
    at : (o : Option World) → replay host.limits (host.history ++ by build act ∷ []) ≡ o → IsSome o → IsNext host build act
    at None is some = cc
    at (Some next) is some =
        let parts = split host.limits host.history (by build act ∷ []) next more is in
        let base : parts.base ≡ world_of host = same_Some _ _ (sym parts.base_is ∙ world_is host legal) in
        record {
          next = next;
          stepped = ap (λ (w : World). step host.limits w (by build act)) (sym base) ∙ one_step host.limits (by build act) parts.base next parts.goes_on;
          turn = parts.turns.0;
        }

-- ---- leases

-- ---- a block

module _ (ledger : HostView) (monitor : MonitorView) (whole : IsWhole ledger monitor) (build order first : ℕ) where
  -- if the history with a Take of a block is legal, the block is free
  pub legal_block : IsLegal ledger.limits (ledger.history ++ by build (Take order first) ∷ []) → IsFreeBlock monitor.free order first
  unfolding named
  legal_block more =
      let is = legal_next ledger whole.mirror.legal build (Take order first) more in
      let says = step_is ledger.limits (world_of ledger) is.next (by build (Take order first)) is.stepped in
      subst (λ flags. IsFreeBlock flags order first) (sym whole.mirror.free)
      (block_free (world_of ledger) order first
      (and_from _ _ says.in_range (leased_all None (world_of ledger).leases (block order first) says.granules)))

-- ---- a reverse

-- if `act` is a reverse, but not the reverse of the build's newest open operation, the history with `act` is not legal
pub out_of_turn : (host : HostView) → IsLegal host.limits host.history → (build : ℕ) (act : Act) → is_reverse act ≡ true
    → (option_and_then reverse_of (last_or None (open_entries build host.history)) ≡ Some act → ⊥) → IsLegal host.limits (host.history ++ by build act ∷ []) → ⊥
out_of_turn host legal build act kind other more = other ((legal_next host legal build act more).turn kind)

refused_rec : (o : Option RecRow) → is_rec_running o ≡ true → (f : RecRow → Outcome) (updates : List Update)
    → ◌≡◌ {A = Outcome} (elim o [ Some rec ↦ cond (is_ready rec.state) (f rec) (Err error_rec) | None ↦ Err error_input ]) (Ok updates) → ⊥
refused_rec None runs f updates e = cc
refused_rec (Some rec) runs f updates e = at (is_ready rec.state) runs e
  where
    at : (t : Bool) → not t ≡ true → ◌≡◌ {A = Outcome} (cond t (f rec) (Err error_rec)) (Ok updates) → ⊥
    at true runs e = cc
    at false runs e = cc

-- if a REC runs, the command that would destroy the REC is refused
rec_stays : (realm : Option Seen) (number : ℕ) → rec_runs realm number ≡ true → (updates : List Update) → ◌≡◌ {A = Outcome} (on_realm realm (λ rd. rec_destroy rd number)) (Ok updates) → ⊥
unfolding with_realm with_rec check
rec_stays None number runs updates e = cc
rec_stays (Some rd) number runs updates e = at rd.cell.descriptor refl
  where
    gone : RealmRow → RecRow → Outcome
    gone realm rec =
        Ok (Put rec.granule left ∷ map (λ a. Put a left) rec.auxiliaries ++ put_realm rd (record realm { recs = remove realm.recs number }) ∷ [])

    at : (o : Option RealmRow) → rd.cell.descriptor ≡ o → ⊥
    at None is = absurd (let bad : false ≡ true = sym (ap (λ d. elim d [ Some realm ↦ is_rec_running (get realm.recs number) | None ↦ false ]) is) ∙ runs in cc)
    at (Some realm) is =
        refused_rec (get realm.recs number)
        (sym (ap (λ d. elim d [ Some r ↦ is_rec_running (get r.recs number) | None ↦ false ]) is) ∙ runs) (gone realm) updates
        (sym (ap (λ (d : Option RealmRow). elim d [
          | Some r ↦ elim (get r.recs number) [ Some rec ↦ cond (is_ready rec.state) (gone r rec) (Err error_rec) | None ↦ Err error_input ]
          | None ↦ Err error_input
        ]) is) ∙ e)

-- the reverse of an operation that created a running REC is not possible in the host's world
pub runs_on : (host : HostView) (build : ℕ) (newest back : Act) → reverse_of newest ≡ Some back → is_running (realm_of build (world_of host)) newest ≡ true
    → (next : World) → step host.limits (world_of host) (by build back) ≡ Some next → ⊥
unfolding reverse_of outcome_of
runs_on host build (Rec granule aux number) back reverse runs next stepped =
    let says = step_is host.limits (world_of host) next (by build back) stepped in
    let same : UnRec granule aux number ≡ back = same_Some _ _ reverse in
    rec_stays (realm_of build (world_of host)) number runs says.updates
    (ap (λ (a : Act). outcome_in host.limits (world_of host) (by build a)) same ∙ says.outcome)
runs_on host build _ back reverse runs next stepped = cc

-- ---- any event

-- a build that does not exist has no legal event
pub there_next : (host : HostView) → IsLegal host.limits host.history → (build : ℕ) (act : Act) → IsLegal host.limits (host.history ++ by build act ∷ []) → build < host.limits.builds
there_next host legal build act more =
    let is = legal_next host legal build act more in
    (step_is host.limits (world_of host) is.next (by build act) is.stepped).build

-- an operation that is neither a reverse nor a take is a command
pub forward_command : (act : Act) → is_reverse act ≡ false → ((order first : ℕ) → act ≡ Take order first → ⊥) → is_command act ≡ true
unfolding is_reverse
forward_command (Take order first) forward other = absurd (other order first refl)
forward_command (UnTake order first) forward other = cc
forward_command _ forward other = refl

-- if an operation is not possible in the host's world, the history with its event is not legal
pub no_legal : (host : HostView) → IsLegal host.limits host.history → (build : ℕ) (act : Act)
    → ((next : World) → step host.limits (world_of host) (by build act) ≡ Some next → ⊥) → IsLegal host.limits (host.history ++ by build act ∷ []) → ⊥
no_legal host legal build act never more = let is = legal_next host legal build act more in never is.next is.stepped

pub refused_no_step : (host : HostView) (build : ℕ) (act : Act) (rmi : Rmi) → outcome_in host.limits (world_of host) (by build act) ≡ Err rmi
    → (next : World) → step host.limits (world_of host) (by build act) ≡ Some next → ⊥
refused_no_step host build act rmi refused next stepped =
    let says = step_is host.limits (world_of host) next (by build act) stepped in
    let bad : Ok says.updates ≡ Err rmi = sym says.outcome ∙ refused in cc

-- a command's operation is possible only if its build leases each granule that the operation names
pub unleased_no_step : (host : HostView) (build : ℕ) (act : Act) → is_command act ≡ true → list_all (is_leased_to (Some build) (world_of host).leases) (named act) ≡ false
    → (next : World) → step host.limits (world_of host) (by build act) ≡ Some next → ⊥
unleased_no_step host build act command unleased next stepped =
    let says = step_is host.limits (world_of host) next (by build act) stepped in
    let all = subst (λ o. All (λ granule. slice_get (world_of host).leases granule ≡ Some o) (named act)) (holder_is build act command) says.granules in
    let bad : false ≡ true = sym unleased ∙ leased_all (Some build) (world_of host).leases (named act) all in cc

-- ---- a command that can be asked for

pub can_apply_act : (host : HostView) (build : ℕ) (act : Act) → build < host.limits.builds → is_reverse act ≡ false → is_command act ≡ true → HasRoomFor host build act
    → list_all (is_leased_to (Some build) (world_of host).leases) (named act) ≡ true → is_in_range act ≡ true
    → fits act (realm_of build (world_of host)) (named_cells (world_of host) act) ≡ true → CanAct host build act
can_apply_act host build act there forward command room leased_named in_range fitting = record {
  asked = record {
    command = command;
    there = there;
    granules = all_leased (Some build) (world_of host).leases (named act) leased_named;
    in_range = in_range;
    fitting = fitting;
  };
  turn = forward_turn host.history build act forward;
  room = room;
}

-- if `IsActed` holds of an operation's result, `IsApplied` holds with `true` for a success and with `false` for an
-- error
pub is_applied : (host : HostView) → IsLegal host.limits host.history → (build : ℕ) (act : Act) (result : Result (Unit {0}) Rmi) (new : HostView)
    → IsActed host build act result new → IsApplied host build act (is_ok result) new
is_applied host legal build act (Ok done) new acted = acted
is_applied host legal build act (Err rmi) new acted = (no_legal host legal build act (refused_no_step host build act rmi acted.0), acted.1)
