-- The statement that an undo right after the operation that it reverses restores the owners of granules and the
-- mappings of realms.
use Rattle.std.specs.Prelude.{◌≡◌, ℕ, List, [], ◌∷◌, ◌++◌, true}
use Rattle.realm_model.specs.declared.act.Act.{Act}
use Rattle.realm_model.specs.declared.act.Event.{Event}
use Rattle.realm_model.specs.Act.{is_paired}
use Rattle.realm_model.specs.Ownership.{OwnsSame}
use Rattle.realm_model.specs.Undoing.{by}
use Rattle.host_ledger.specs.View.{HostView, world_of}

-- If the history of `host` ends with the build's operation `act`, and `act` has a reverse, then `new` has the owners
-- and mappings from before `act`.
abbrev pub LeadsBack : HostView → ℕ → HostView → Type 0
LeadsBack host build new =
    (before : List Event) (act : Act) → host.history ≡ before ++ by build act ∷ [] → is_paired act ≡ true
    → OwnsSame (world_of (record host { history = before })) (world_of new)
