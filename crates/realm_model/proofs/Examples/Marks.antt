-- An example of a build that is rolled back to a mark, or completely undone, while another build goes on.
use Rattle.std.proofs.Common.{◌≡◌, List, [], ◌∷◌, ◌++◌, Some, refl}
use Rattle.realm_model.specs.declared.act.Act.TheVariants.{Take, UnTake, Delegate, Undelegate}
use Rattle.realm_model.specs.declared.act.Event.{Event}
use Rattle.realm_model.specs.Act.{named, reverse_of, is_reverse}
use Rattle.realm_model.specs.Command.Check.{check}
use Rattle.realm_model.specs.Outcome.{outcome_of, fits}
use Rattle.realm_model.specs.World.{updated_all}
use Rattle.realm_model.specs.Step.{step}
use Rattle.realm_model.specs.History.{after, replay, open_entries}
use Rattle.realm_model.specs.Undoing.{by, undoing}
use Rattle.realm_model.specs.Marks.{mark_at, erase_after, rolling_back}
use Rattle.realm_model.proofs.Examples.Worlds.{machine_of, free}

abbrev marked : List Event
marked = by 0 (Take 0 0) ∷ []

abbrev later : List Event
later = by 0 (Take 0 0) ∷ by 1 (Take 0 3) ∷ by 0 (Take 0 1) ∷ by 0 (Delegate 1) ∷ []

later-back : rolling_back (mark_at 0 marked) later ≡ by 0 (Undelegate 1) ∷ by 0 (UnTake 0 1) ∷ []
unfolding open_entries reverse_of is_reverse
later-back = refl

later-erased : erase_after 0 1 later ≡ by 0 (Take 0 0) ∷ by 1 (Take 0 3) ∷ []
later-erased = refl

later-free : free (replay (machine_of 4) (later ++ by 0 (Undelegate 1) ∷ by 0 (UnTake 0 1) ∷ [])) ≡ Some (1 ∷ 2 ∷ [])
unfolding after step named outcome_of fits updated_all check
later-free = refl

later-undone : undoing 0 later ≡ by 0 (Undelegate 1) ∷ by 0 (UnTake 0 1) ∷ by 0 (UnTake 0 0) ∷ []
unfolding open_entries reverse_of is_reverse
later-undone = refl
