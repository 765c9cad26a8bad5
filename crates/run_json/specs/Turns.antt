-- The JSON object of a turn, with its step, its event, and the objects that the event changed, as they are after the
-- turn.
use Rattle.std.specs.Prelude.{◌≡◌, ℕ, ◌+◌, ◌*◌, List, [], ◌∷◌, ◌++◌, length, nat_lt, if◌then◌else◌, Option, Some, None, slice_get, string_bytes}
use Rattle.std.specs.List.{flat_map, range_with_len}
use Rattle.granule_addr.specs.Root.{start_count}
use Rattle.realm_model.specs.declared.act.Act.{Act}
use Rattle.realm_model.specs.declared.act.Act.TheVariants.{Realm, Rtt, UnRtt, Ripas, Data, Unknown, UnData}
use Rattle.realm_model.specs.declared.act.Event.{Event}
use Rattle.host_ledger.specs.View.{HostView, open_of}
use Rattle.realm_plan.specs.StepsWritten.{spelling}
use Rattle.realm_plan.specs.declared.step.PlanStep.{PlanStep}
use Rattle.plan_replay.specs.declared.answer.TurnAnswer.{TurnAnswer}
use Rattle.run_json.specs.Changes.{ChangedGranules, granules_of, rec_named_by, changes_realm, level_above}
use Rattle.run_json.specs.Items.{granule_item, row_item, IsRecItem, realm_item, build_kept}
use Rattle.run_json.specs.declared.changed.Changed.{Changed}
use Rattle.run_json.specs.declared.items.GranuleItem.{GranuleItem}
use Rattle.run_json.specs.declared.items.RowItem.{RowItem}
use Rattle.run_json.specs.declared.items.RecItem.{RecItem}
use Rattle.run_json.specs.declared.realm.RealmItem.{RealmItem}
use Rattle.run_json.specs.declared.turn.StepItem.{StepItem}
use Rattle.run_json.specs.declared.turn.EventItem.{EventItem}
use Rattle.run_json.specs.declared.turn.TurnItem.{TurnItem}

-- ---- steps

-- a step's index in the build's list, its text, and the answer, as the step's item has them
abbrev pub step_view : StepItem → ℕ × List ℕ × TurnAnswer
step_view step = (step.place, string_bytes step.step, step.answer)

abbrev pub placed : ℕ → PlanStep × TurnAnswer → ℕ × List ℕ × TurnAnswer
placed place told = (place, spelling told.0, told.1)

-- ---- granules

-- a list of the one item of the granule with that number; an empty list if the number is 4096 or more
abbrev pub numbered_granule : HostView → ℕ → List (Option GranuleItem)
numbered_granule host number = if nat_lt number 4096 then granule_item host number ∷ [] else []

abbrev pub more_granules : HostView → ℕ → ℕ → List (Option GranuleItem)
more_granules host from count = flat_map (λ place. numbered_granule host (from + place)) (range_with_len 0 count)

abbrev pub each_granule : HostView → List ℕ → List (Option GranuleItem)
each_granule host granules = flat_map (λ granule. granule_item host granule ∷ []) granules

abbrev pub changed_view : Changed → ChangedGranules
changed_view changed = record { granule = changed.granule; from = changed.from; count = changed.count; also = changed.also.now }

abbrev pub changed_items : HostView → ChangedGranules → List (Option GranuleItem)
changed_items host changed = granule_item host changed.granule ∷ (more_granules host changed.from changed.count ++ each_granule host changed.also)

abbrev pub changed_granules : HostView → Option ChangedGranules → List (Option GranuleItem)
changed_granules host None = []
changed_granules host (Some changed) = changed_items host changed

abbrev pub granules_after : HostView → Act → List (Option GranuleItem)
granules_after host act = changed_granules host (granules_of act)

-- ---- rows

-- The items of the rows that an operation changed. For a new realm, these are all rows of its starting tables. For a
-- new table, they are its entry and its 512 equal rows; for a destroyed table, its entry alone. For pages made RAM,
-- they are the pages' equal rows. For a page that is mapped or unmapped, it is the page's row. Otherwise there are
-- none.
abbrev pub rows_after : HostView → ℕ → Act → List (Option RowItem)
rows_after host build (Realm rd root vmid) = row_item host build 0 1 (512 * start_count root.width) ∷ []
rows_after host build (Rtt g ipa level) = row_item host build ipa (level_above level) 1 ∷ row_item host build ipa level 512 ∷ []
rows_after host build (UnRtt g ipa level) = row_item host build ipa (level_above level) 1 ∷ []
rows_after host build (Ripas ipa count) = row_item host build ipa 3 count ∷ []
rows_after host build (Data g ipa source) = row_item host build ipa 3 1 ∷ []
rows_after host build (Unknown g ipa) = row_item host build ipa 3 1 ∷ []
rows_after host build (UnData g ipa) = row_item host build ipa 3 1 ∷ []
rows_after host build _ = []

-- ---- RECs and realms

-- the item describes the REC with this number, or is None if no number is given
abbrev pub IsRecNamed : HostView → ℕ → Option ℕ → Option RecItem → Type 0
IsRecNamed host build None item = item ≡ None
IsRecNamed host build (Some number) (Some item) = IsRecItem host build number item
IsRecNamed host build (Some number) None = ⊥

abbrev pub IsRecAfter : HostView → ℕ → Act → Option RecItem → Type 0
IsRecAfter host build act item = IsRecNamed host build (rec_named_by act) item

abbrev pub realm_after : HostView → ℕ → Act → Option (Option RealmItem)
realm_after host build act = if changes_realm act then Some (realm_item host build) else None

-- ---- events

-- the item has this event, and the granules, rows, REC and realm that the event changed
pub record IsEventItem (host : HostView) (build : ℕ) (event : Event) (item : EventItem) : Type 0 where
  pub event_is : item.event ≡ event
  pub granules_are : item.granules.items ≡ granules_after host event.act
  pub rows_are : item.rows.items ≡ rows_after host build event.act
  pub rec_is : IsRecAfter host build event.act item.rec
  pub realm_is : item.realm ≡ realm_after host build event.act

-- the item describes the event, or is None if there is no event
abbrev pub IsEventAt : HostView → ℕ → Option Event → Option EventItem → Type 0
IsEventAt host build None item = item ≡ None
IsEventAt host build (Some event) (Some item) = IsEventItem host build event item
IsEventAt host build (Some event) None = ⊥

-- the item has the event at this index of the history, what the event changed, and the build's number of open
-- operations, mark and abort flag
pub record IsAfterTurn (host : HostView) (build place : ℕ) (item : TurnItem) : Type 0 where
  pub event_is : IsEventAt host build (slice_get host.history place) item.event
  pub open_is : item.open ≡ length (open_of host build)
  pub kept_is : item.kept ≡ build_kept host build
