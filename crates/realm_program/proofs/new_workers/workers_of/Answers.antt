use Rattle.std.proofs.Common.{◌≡◌, ◌<◌, ◌+◌, List, ◌∷◌, [], ◌++◌, ◌∙◌, sym, ap, subst, map, length, vec_len}
use Rattle.std.specs.List.{range_with_len}
use Rattle.std.proofs.lemmas.List.FromFn.{length-range_with_len}
use Rattle.std.specs.Vec.Iter.{into_iter_items}
use Rattle.std.proofs.lemmas.List.{length-append, length-map}
use Rattle.build_seats.specs.Seats.{SeatView, new_seat}
use Rattle.realm_plan.specs.PlanView.{plan_view}
use Rattle.realm_program.specs.Workers.{new_worker}
use Rattle.realm_program.proofs.Taken.{taken_more, left_less, taken_all}
use Rattle.realm_program.proofs.Seating.{is_there, is_next, one_more}
use Rattle.realm_program.proofs.new_workers.workers_of.Goals as goal

pub worker_of-requires-clause-there : goal.worker_of-requires-clause-there
worker_of-requires-clause-there g c =
    let at = c.loop-seat in
    let x = c.in-Some.seat in
    let steps : into_iter_items at.seat-iterator ≡ x ∷ into_iter_items c.next.new.self = c.in-Some.ensures.steps.0 in
    let are = ap (λ (l : List SeatView). at.yielded ++ l) (sym steps) ∙ at.invariant.0 ∙ c.into_iter-seat-iterator.ensures.into_iter_gives.0 ∙ c.requires in
    subst (λ n. n < vec_len c.args.plan.now.builds) (sym at.invariant.2) (is_there (vec_len c.args.plan.now.builds) at.yielded (into_iter_items c.next.new.self) x are)

pub worker_of-requires-clause-seat : goal.worker_of-requires-clause-seat
worker_of-requires-clause-seat g c =
    let at = c.loop-seat in
    let x = c.in-Some.seat in
    let steps : into_iter_items at.seat-iterator ≡ x ∷ into_iter_items c.next.new.self = c.in-Some.ensures.steps.0 in
    let are = ap (λ (l : List SeatView). at.yielded ++ l) (sym steps) ∙ at.invariant.0 ∙ c.into_iter-seat-iterator.ensures.into_iter_gives.0 ∙ c.requires in
    is_next (vec_len c.args.plan.now.builds) at.yielded (into_iter_items c.next.new.self) x are ∙ ap new_seat (sym at.invariant.2)

pub returns : goal.returns
returns g c =
    let at = c.loop-seat in
    let all = taken_all at.yielded _ _ _ at.invariant.0 at.invariant.1 c.in-None.ensures.steps.0 ∙ c.into_iter-seat-iterator.ensures.into_iter_gives.0 ∙ c.requires in
    let builds = c.args.plan.now.builds in
    let count = at.invariant.2 ∙ ap (λ (l : List SeatView). length l) all ∙ length-map (range_with_len 0 (vec_len builds)) new_seat
    ∙ length-range_with_len 0 (vec_len builds) ∙ builds.ok.0 ∙ sym (length-map builds.items (λ b. b.items)) in
    at.invariant.3 ∙ ap (λ n. map (new_worker (plan_view c.args.plan.now)) (range_with_len 0 n)) count

pub loop-seat-preserved : goal.loop-seat-preserved
loop-seat-preserved g c =
    let at = c.loop-seat in
    let x = c.in-Some.seat in
    let steps = c.in-Some.ensures.steps in (
      taken_more at.yielded _ _ _ at.invariant.0 at.invariant.1 x _ steps.0,
      left_less at.yielded _ _ _ at.invariant.0 at.invariant.1 x _ _ steps.0 steps.1,
      ap (λ n. n + 1) at.invariant.2 ∙ sym (length-append at.yielded (x ∷ [])),
      one_more (plan_view c.args.plan.now) at.build at.workers.items _ c.in_ok-worker_of.field-0 at.invariant.3 c.in_ok-worker_of.ensures c.in_ok-append_item.ensures,
    )
