-- A proof that two positions reached by runs of a plan are the same state if their snapshots are equal.
use Rattle.std.proofs.Common.{◌≡◌, ℕ, ◌<◌, ◌≤◌, inl, inr, zero, suc, false, List, [], ◌∷◌, map, length, get_or, Option, Some, None, refl, sym, ap, ◌∙◌, arith}
use Rattle.std.specs.Prelude.{option_map, IsSome}
use Rattle.std.proofs.lemmas.Bool.{cases_lt}
use Rattle.std.proofs.lemmas.List.{ext_get_or, get_or_past, length-map}
use Rattle.std.proofs.lemmas.Option.{same_Some, none-some}
use Rattle.host_ledger.specs.View.{HostView, mark_of}
use Rattle.host_ledger.specs.declared.mark.Mark.{Mark}
use Rattle.realm_host.specs.Interleaving.{depths_of}
use Rattle.realm_host.specs.Recorded.{fresh_like}
use Rattle.realm_model.specs.Machine.{Limits}
use Rattle.realm_model.proofs.TakenAlone.{none_there}
use Rattle.realm_model.specs.History.{events_of, replay}
use Rattle.realm_plan.specs.Plan.{Plan}
use Rattle.plan_replay.specs.Place.{first_place}
use Rattle.plan_replay.specs.Run.{Position, place_of}
use Rattle.plan_replay.specs.declared.place.PlanCursor.{PlanCursor}
use Rattle.schedule_graph.proofs.Kept.{goes}
use Rattle.schedule_graph.specs.State.{mark_point, progress_of, has_way_back, AreOneState}
use Rattle.plan_states.specs.Reached.{IsReached}
use Rattle.plan_states.specs.Snapshots.{length_of, point_at, seen_at, SeenBuild, IsOfHost}
use Rattle.plan_states.specs.declared.snapshot.BuildPoint.{BuildPoint}
use Rattle.plan_states.proofs.OwnMarks.{IsOwn, own_reached}
use Rattle.plan_states.proofs.Reached.{opens_reached}

-- ---- lists by their elements

module _ {X : Type 0} (d : X) (xs ys : List X) (n : ℕ) (long : length xs ≤ n) (also : length ys ≤ n) where
  -- two lists of at most `n` elements that agree at each index below `n` agree at every index
  pub everywhere : ((k : ℕ) → k < n → get_or xs k d ≡ get_or ys k d) → (k : ℕ) → get_or xs k d ≡ get_or ys k d
  everywhere below k = elim (cases_lt k n) as (λ _. get_or xs k d ≡ get_or ys k d) [
    | inl less ↦ below k less
    | inr past ↦ get_or_past xs k d (omega arith) ∙ sym (get_or_past ys k d (omega arith))
  ]

  pub same_lists : length xs ≡ length ys → ((k : ℕ) → k < n → get_or xs k d ≡ get_or ys k d) → xs ≡ ys
  same_lists as_long below = ext_get_or d xs ys as_long (λ k _. everywhere below k)

get_or-map : {X Y : Type 0} (f : X → Y) (xs : List X) (k : ℕ) (d : X) → get_or (map f xs) k (f d) ≡ f (get_or xs k d)
get_or-map f [] k d = refl
get_or-map f (x ∷ xs) zero d = refl
get_or-map f (x ∷ xs) (suc k) d = get_or-map f xs k d

-- ---- marks

-- two optional marks of one build are the same point if equally many operations were open at them, or if both are
-- missing
points_by : (build : ℕ) (one other : Option Mark) → IsOwn build one → IsOwn build other → length_of one ≡ length_of other
    → option_map mark_point one ≡ option_map mark_point other
points_by build None None own also same = refl
points_by build None (Some other) own also same = absurd (none-some other.length same)
points_by build (Some one) None own also same = absurd (none-some one.length (sym same))
points_by build (Some one) (Some other) own also same =
    let long : one.length ≡ other.length = same_Some one.length other.length same in
    λ i. Some (record { build = (own ∙ sym also) i; length = long i })

module _ (plan : Plan) (ones others : List ℕ) (one other : Position) (reached : IsReached plan ones one) (also : IsReached plan others other)
    (of_host : IsOfHost one) (also_of_host : IsOfHost other)
    (seen : (build : ℕ) → build < 8 → seen_at one build ≡ seen_at other build) where
  point : (build : ℕ) → build < 8 → point_at other build ≡ point_at one build
  point build less = ap (λ (it : SeenBuild). it.point) (sym (seen build less))

  settings : fresh_like other.host ≡ fresh_like one.host
  settings = sym (opens_reached plan others other also) ∙ opens_reached plan ones one reached

  limits : other.host.limits ≡ one.host.limits
  limits = ap (λ (host : HostView). host.limits) settings

  capacity : other.host.capacity ≡ one.host.capacity
  capacity = ap (λ (host : HostView). host.capacity) settings

  -- ---- events

  none_of : (at : Position) → IsOfHost at → (build : ℕ) → 8 ≤ build → events_of build at.host.history ≡ []
  none_of at is build past = elim (replay at.host.limits at.host.history) as (λ o. replay at.host.limits at.host.history ≡ o → IsSome o → events_of build at.host.history ≡ []) [
    | Some world ↦ λ leads _. let few = is.few in none_there at.host.limits build (omega (arith, few)) at.host.history world leads
    | None ↦ λ leads none. absurd cc
  ] refl is.legal.steps

  events : (build : ℕ) → events_of build one.host.history ≡ events_of build other.host.history
  events build = elim (cases_lt build 8) as (λ _. events_of build one.host.history ≡ events_of build other.host.history) [
    | inl less ↦ ap (λ (it : SeenBuild). it.events) (seen build less)
    | inr past ↦ none_of one of_host build past ∙ sym (none_of other also_of_host build past)
  ]

  -- ---- what the hosts keep beside them

  as_many : other.host.limits.builds ≡ one.host.limits.builds
  as_many = ap (λ (l : Limits). l.builds) limits

  aborting : other.host.aborting ≡ one.host.aborting
  aborting =
      let long = of_host.each.aborts in
      let also_long = also_of_host.each.aborts in
      let few = of_host.few in
      same_lists false other.host.aborting one.host.aborting 8 (omega (arith, also_long, as_many, few)) (omega (arith, long, few))
      (also_long ∙ as_many ∙ sym long) (λ build less. ap (λ (p : BuildPoint). p.is_aborting) (point build less))

  depths : depths_of other.host ≡ depths_of one.host
  depths =
      let long = of_host.each.marks in
      let also_long = also_of_host.each.marks in
      let few = of_host.few in
      let here = length-map one.host.marks length_of in
      let there = length-map other.host.marks length_of in
      same_lists None (depths_of other.host) (depths_of one.host) 8 (omega (arith, also_long, as_many, few, there)) (omega (arith, long, few, here))
      (there ∙ also_long ∙ as_many ∙ sym long ∙ sym here)
      (λ build less. get_or-map length_of other.host.marks build None ∙ ap (λ (p : BuildPoint). p.kept) (point build less) ∙ sym (get_or-map length_of one.host.marks build None))

  -- ---- cursors

  at_build : (build : ℕ) → build < 8 → progress_of (place_of other.places build) ≡ progress_of (place_of one.places build)
  at_build build less =
      let points = points_by build (place_of other.places build).mark (place_of one.places build).mark (own_reached plan others other also build)
      (own_reached plan ones one reached build) (ap (λ (p : BuildPoint). p.mark) (point build less)) in
      λ i. record { done = (point build less i).done; left = (point build less i).left; mark = points i }

  progress : map progress_of other.places ≡ map progress_of one.places
  progress =
      let long = of_host.places in
      let also_long = also_of_host.places in
      let here = length-map one.places progress_of in
      let there = length-map other.places progress_of in
      same_lists (progress_of first_place) (map progress_of other.places) (map progress_of one.places) 8 (omega (arith, also_long, there)) (omega (arith, long, here))
      (there ∙ also_long ∙ sym long ∙ sym here)
      (λ build less. get_or-map progress_of other.places build first_place ∙ at_build build less ∙ sym (get_or-map progress_of one.places build first_place))

  no_way_back : (at : Position) → IsOfHost at → (build : ℕ) → 8 ≤ build → has_way_back at build ≡ false
  no_way_back at is build past =
      let long = is.places in
      ap (λ (p : PlanCursor). goes (mark_of at.host build) p.mark) (get_or_past at.places build first_place (omega (arith, long)))

  ways_back : (build : ℕ) → has_way_back other build ≡ has_way_back one build
  ways_back build = elim (cases_lt build 8) as (λ _. has_way_back other build ≡ has_way_back one build) [
    | inl less ↦ ap (λ (p : BuildPoint). p.has_way_back) (point build less)
    | inr past ↦ no_way_back other also_of_host build past ∙ sym (no_way_back one of_host build past)
  ]

  -- positions of runs at which each build is at the same point, with the same events, are one state
  pub one_state : AreOneState one other
  one_state = record {
    hosts = record {
      same = record { legal = of_host.legal; twin_legal = also_of_host.legal; limits = limits; events = events };
      capacity = capacity;
      aborting = aborting;
      depths = depths;
    };
    progress = progress;
    ways_back = ways_back;
  }
