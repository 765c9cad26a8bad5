-- The application of recorded events to a host: the conditions, the reasons for a refusal, and the result.
use Rattle.std.specs.Prelude.{◌≡◌, ◌<◌, ◌≤◌, ◌⊎◌, ℕ, true, false, [], ◌∷◌, ◌++◌}
use Rattle.realm_model.specs.declared.act.Event.{Event}
use Rattle.realm_model.specs.History.{erase, IsLegal}
use Rattle.realm_model.specs.World.{without}
use Rattle.host_ledger.specs.View.{HostView, world_of}
use Rattle.host_ledger.specs.Booted.{booted}
use Rattle.realm_model.specs.Act.{is_reverse}
use Rattle.realm_host.specs.Acting.{HasRoomFor}
use Rattle.realm_host.specs.declared.why_not.WhyNot.{WhyNot}
use Rattle.realm_host.specs.declared.why_not.WhyNot.TheVariants.{NoRoom, NotNewest, NoStep}

-- The history with the event is legal, and the build has the room that the event takes.
pub record CanApply (host : HostView) (event : Event) : Type 0 where
  pub legal : IsLegal host.limits (host.history ++ event ∷ [])
  pub room : HasRoomFor host event.build event.act

-- If the event cannot be applied to the host, the given reason is the first one for which the event is refused. With
-- room for it, a reverse is refused only if it is not in turn, or its REC runs. Any other operation is refused only if
-- it is no step.
abbrev pub IsWhyNot : HostView → Event → WhyNot → Type 0
IsWhyNot host event NoRoom = (event.build < host.limits.builds) × ¬ (HasRoomFor host event.build event.act)
IsWhyNot host event NotNewest = (event.build < host.limits.builds) × HasRoomFor host event.build event.act × (is_reverse event.act ≡ true)
IsWhyNot host event NoStep = (host.limits.builds ≤ event.build) ⊎ (HasRoomFor host event.build event.act × (is_reverse event.act ≡ false))

-- a host that has just been booted, with the same settings and the same number of granules as a given host
abbrev pub fresh_like : HostView → HostView
fresh_like host = booted host.limits.pages host.limits.vmids host.limits.aux host.limits.builds host.capacity

-- The new host is freshly booted but for its history, which is the old history without the build's events. Its world is
-- the old world without that build.
pub record IsWithout (host : HostView) (build : ℕ) (new : HostView) : Type 0 where
  pub new_is : new ≡ record (fresh_like host) { history = erase build host.history }
  pub world : world_of new ≡ without (world_of host) build
