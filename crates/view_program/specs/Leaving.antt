-- The property that a build without open operations does not affect the host's map.
use Rattle.std.specs.Prelude.{◌≡◌, ℕ, List, []}
use Rattle.realm_model.specs.History.{IsLegal}
use Rattle.host_ledger.specs.View.{HostView, open_of}
use Rattle.plan_replay.specs.Run.{map_text}
use Rattle.realm_program.specs.Replay.{IsMapWithout}

-- If a build has no open operation in a legal history, the host's map is the same without the build's events.
abbrev pub IsUnseen : HostView → ℕ → Type 0
IsUnseen host build =
    (text : List ℕ) → IsLegal host.limits host.history → open_of host build ≡ [] → IsMapWithout host build text → text ≡ map_text host
