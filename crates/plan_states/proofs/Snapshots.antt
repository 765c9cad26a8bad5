-- Proofs that a partial snapshot of a run stays correct when one more build, or one more event of the history, is
-- added.
use Rattle.std.proofs.Common.{◌≡◌, ℕ, zero, suc, ◌+◌, ◌<◌, Bool, cond, List, [], ◌∷◌, ◌++◌, length, get_or, take, Some, sym, ap, ◌∙◌, subst, below_more}
use Rattle.std.specs.Prelude.{◌==◌, option_map, slice_get}
use Rattle.std.proofs.lemmas.List.{take_more}
use Rattle.realm_model.specs.History.{events_of}
use Rattle.realm_model.specs.declared.act.Event.{Event}
use Rattle.realm_model.proofs.TakenAlone.{events_push}
use Rattle.plan_replay.specs.Run.{Position}
use Rattle.plan_states.specs.Snapshots.{AreSameBuilds, seen_at, shown_build, AreBuildsAt, SeenBuild}
use Rattle.plan_states.specs.declared.snapshot.BuildSnapshot.{BuildSnapshot}
use Rattle.plan_states.proofs.RunLogs.{slice_get_last}

shown_more : (builds : List BuildSnapshot) (it : BuildSnapshot) (k : ℕ) (seen : SeenBuild)
    → option_map shown_build (slice_get builds k) ≡ Some seen → option_map shown_build (slice_get (builds ++ it ∷ []) k) ≡ Some seen
shown_more [] it k seen is = absurd cc
shown_more (one ∷ builds) it zero seen is = is
shown_more (one ∷ builds) it (suc k) seen is = shown_more builds it k seen is

pub build_more : (at : Position) (count : ℕ) (old new : List BuildSnapshot) (it : BuildSnapshot)
    → length old ≡ count → AreBuildsAt at count old → new ≡ old ++ it ∷ [] → shown_build it ≡ seen_at at count → AreBuildsAt at (count + 1) new
build_more at count old new it long are more shown =
    below_more (λ k. option_map shown_build (slice_get new k) ≡ Some (seen_at at k)) count
    (λ k less. subst (λ (l : List BuildSnapshot). option_map shown_build (slice_get l k) ≡ Some (seen_at at k)) (sym more)
    (shown_more old it k (seen_at at k) (are k less)))
    (subst (λ (l : List BuildSnapshot). option_map shown_build (slice_get l count) ≡ Some (seen_at at count)) (sym more)
    (ap (option_map shown_build) (subst (λ n. slice_get (old ++ it ∷ []) n ≡ Some it) long (slice_get_last old it)) ∙ ap Some shown))

pub same_more : (count : ℕ) (ones others : List BuildSnapshot) (one other : BuildSnapshot)
    → slice_get ones count ≡ Some one → slice_get others count ≡ Some other → shown_build one ≡ shown_build other
    → AreSameBuilds count ones others → AreSameBuilds (count + 1) ones others
same_more count ones others one other here there same are =
    below_more (λ k. option_map shown_build (slice_get ones k) ≡ option_map shown_build (slice_get others k)) count are
    (ap (option_map shown_build) here ∙ ap Some same ∙ sym (ap (option_map shown_build) there))

-- after one more event of a history, a build's events are its earlier ones, followed by this event if the event is the
-- build's own
pub event_more : (build i : ℕ) (history : List Event) (e : Event) (is_own : Bool) (old new : List Event)
    → i < length history → e ≡ get_or history i e → (e.build == build) ≡ is_own → old ≡ events_of build (take i history)
    → new ≡ old ++ cond is_own (e ∷ []) [] → new ≡ events_of build (take (i + 1) history)
event_more build i history e is_own old new inside here own are more =
    more ∙ ap (λ (l : List Event). l ++ cond is_own (e ∷ []) []) are ∙ sym (events_push build (take i history) e is_own own)
    ∙ ap (events_of build) (ap (λ (x : Event). take i history ++ x ∷ []) here ∙ sym (take_more history i e inside))
