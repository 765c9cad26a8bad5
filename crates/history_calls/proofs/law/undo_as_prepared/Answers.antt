use Rattle.std.proofs.Common.{◌≡◌, ℕ, Option, Some, None, Result, Ok, refl, ap, ◌∙◌}
use Rattle.arrayvec.specs.ArrayVec.{ArrayVec}
use Rattle.realm_model.specs.declared.act.Act.{Act}
use Rattle.history_calls.specs.declared.action.HostAction.{HostAction}
use Rattle.history_calls.specs.Frame.{Place}
use Rattle.host_commands.specs.declared.refusal.Refusal.{Refusal}
use Rattle.host_ledger.specs.View.{HostView}
use Rattle.realm_host.specs.Call.{Undo}
use Rattle.realm_host.specs.Refusals.{refusal_of}
use Rattle.history_calls.specs.Prepared.{IsUndoPrepared, unless_refused, actions_of_back, newest_back}
use Rattle.history_calls.proofs.law.undo_as_prepared.Goals as goal

-- if the result of `unless_refused` is a list of actions, its argument `refusal` is None
not_refused : (refusal : Option Refusal) (rest : Result (ArrayVec HostAction) Refusal) (actions : ArrayVec HostAction) → unless_refused refusal rest ≡ Ok actions → refusal ≡ None
not_refused None rest actions e = refl
not_refused (Some refusal) rest actions e = cc

prepared : (place : Place) (host : HostView) (build : ℕ) → IsUndoPrepared place host build
prepared place host build = record {
  refused = λ refusal e. ap (λ (o : Option Refusal). unless_refused o (actions_of_back place host build (newest_back host build))) e;
  performed = λ act none is.
      ap (λ (o : Option Refusal). unless_refused o (actions_of_back place host build (newest_back host build))) none
      ∙ ap (λ (o : Option Act). actions_of_back place host build o) is;
  decided = λ actions e. not_refused (refusal_of host build Undo) (actions_of_back place host build (newest_back host build)) actions e;
}

pub returns : goal.returns
returns c = λ place host build. prepared place host build
