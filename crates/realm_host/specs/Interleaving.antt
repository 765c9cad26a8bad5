-- The relation of two hosts that differ only in the schedule of their builds' events, and the statement that no call
-- distinguishes them.
use Rattle.std.specs.Prelude.{◌≡◌, ℕ, List, map, Option, option_map, Result}
use Rattle.realm_model.specs.History.{IsLegal}
use Rattle.realm_model.specs.Interleaving.{HasSameEvents}
use Rattle.host_ledger.specs.declared.mark.Mark.{Mark}
use Rattle.host_ledger.specs.View.{HostView, world_of, open_of, pages_of_build, used}
use Rattle.host_commands.specs.declared.refusal.Refusal.{Refusal}
use Rattle.realm_host.specs.Abort.{IsBegun, IsAbortAnswer}
use Rattle.realm_host.specs.Answer.{IsAnswer}
use Rattle.realm_host.specs.Call.{Call}
use Rattle.realm_host.specs.declared.command.HostAnswer.{HostAnswer}

-- for each build, the number of open operations at its mark, if it has a mark
abbrev pub depths_of : HostView → List (Option ℕ)
depths_of host = map (λ mark. option_map (λ (m : Mark). m.length) mark) host.marks

-- The two hosts have the same limits, and legal histories with the same events of each build in the same sequence.
pub record DidTheSame (host twin : HostView) : Type 0 where
  pub legal : IsLegal host.limits host.history
  pub twin_legal : IsLegal twin.limits twin.history
  pub limits : twin.limits ≡ host.limits
  pub events : HasSameEvents host.history twin.history

-- The two hosts have the same world, and for each build the same open operations, pages and used room.
pub record AreIndistinguishable (host twin : HostView) : Type 0 where
  pub world : world_of twin ≡ world_of host
  pub opened : (build : ℕ) → open_of twin build ≡ open_of host build
  pub pages : (build : ℕ) → pages_of_build twin build ≡ pages_of_build host build
  pub room : (build : ℕ) → used twin build ≡ used host build

-- The hosts differ only in the schedule of their builds: each build's events, its room, its abort flag and the number
-- of operations open at its mark are the same.
pub record DifferInInterleaving (host twin : HostView) : Type 0 where
  pub same : DidTheSame host twin
  pub capacity : twin.capacity ≡ host.capacity
  pub aborting : twin.aborting ≡ host.aborting
  pub depths : depths_of twin ≡ depths_of host

-- Some host satisfies `IsAnswered` and differs from `new` only in the schedule of its builds. That host is the twin,
-- after the same answer.
pub record IsAlsoAnswered (IsAnswered : HostView → Type 0) (new : HostView) : Type 0 where
  pub then : HostView
  pub answered : IsAnswered then
  pub differ : DifferInInterleaving new then

-- If `host` can give this answer to a command or an undo, so can `twin`, and the hosts then differ only in the
-- schedule. The same holds of the start of an abort and of a whole abort.
abbrev pub CallRevealsNothing : HostView → HostView → ℕ → Call → HostAnswer → HostView → Type 0
CallRevealsNothing host twin build call answer new = IsAnswer host build call answer new → IsAlsoAnswered (IsAnswer twin build call answer) new

abbrev pub BeginRevealsNothing : HostView → HostView → ℕ → Result ℕ Refusal → HostView → Type 0
BeginRevealsNothing host twin build result new = IsBegun host build result new → IsAlsoAnswered (IsBegun twin build result) new

abbrev pub AbortRevealsNothing : HostView → HostView → ℕ → Result ℕ Refusal → HostView → Type 0
AbortRevealsNothing host twin build result new = IsAbortAnswer host build result new → IsAlsoAnswered (IsAbortAnswer twin build result) new
