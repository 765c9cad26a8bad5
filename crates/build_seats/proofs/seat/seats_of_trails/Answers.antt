use Rattle.std.proofs.Common.{◌≡◌, ℕ, ◌-◌, ◌<◌, map, length, sym, ap, ◌∙◌, arith, vec_len, rules, Some}
use Rattle.std.specs.List.{range_with_len}
use Rattle.build_seats.specs.Passes.{PassView, unused}
use Rattle.build_seats.specs.Seats.{new_seat}
use Rattle.build_seats.proofs.Seating.{some_pass, pass_is, passes_left, trail_is, trails_left, seats_grow}
use Rattle.build_seats.proofs.seat.seats_of_trails.Goals as goal

pub unwrap-pass-requires : goal.unwrap-pass-requires
unwrap-pass-requires g c =
    let at = c.loop-trail in
    some_pass (vec_len at.seats) (omega (arith, at.invariant.3, c.requires.few, c.in-Some.ensures.cases)) at.passes c.next.new.self c.next.result at.invariant.1 c.next.ensures.steps

pub invariant_of-push_reserved : goal.invariant_of-push_reserved
invariant_of-push_reserved g c =
    let at = c.loop-trail in
    let below : vec_len at.seats < 8 = omega (arith, at.invariant.3, c.requires.few, c.in-Some.ensures.cases) in
    let pass = pass_is (vec_len at.seats) below at.passes c.next.new.self c.next.result at.invariant.1 c.next.ensures.steps c.unwrap-pass.result (search rules) in
    let trail = trail_is at.trails.items c.pop.new.self.items (vec_len at.trails) (vec_len c.pop.new.self) at.invariant.2 c.in-Some.ensures.cases c.in-Some.trail (search rules) in
    ap (λ (p : PassView). p.count) pass ∙ sym (ap length trail)

pub loop-trail-preserved : goal.loop-trail-preserved
loop-trail-preserved g c =
    let at = c.loop-trail in
    let k : ℕ = vec_len at.seats in
    let below : k < 8 = omega (arith, at.invariant.3, c.requires.few, c.in-Some.ensures.cases) in
    let is : c.next.result ≡ Some c.unwrap-pass.result = search rules in
    let pass = pass_is k below at.passes c.next.new.self c.next.result at.invariant.1 c.next.ensures.steps c.unwrap-pass.result is in
    let left = passes_left k below at.passes c.next.new.self c.next.result at.invariant.1 c.next.ensures.steps c.unwrap-pass.result is in
    let trail = trail_is at.trails.items c.pop.new.self.items (vec_len at.trails) (vec_len c.pop.new.self) at.invariant.2 c.in-Some.ensures.cases c.in-Some.trail (search rules) in
    let rest = trails_left at.trails.items c.pop.new.self.items (vec_len at.trails) (vec_len c.pop.new.self) at.invariant.2 c.in-Some.ensures.cases c.in-Some.trail c.pop.ensures.rest in
    let len = c.push_reserved.ensures.len in (
      seats_grow k at.seats.items c.push_reserved.new.self.items c.unwrap-pass.result c.in-Some.trail at.invariant.0 pass trail c.push_reserved.ensures.items
          ∙ sym (ap (λ n. map new_seat (range_with_len 0 n)) len),
      left ∙ sym (ap (λ n. map unused (range_with_len n (8 - n))) len),
      rest,
      omega (arith, len, at.invariant.3, c.in-Some.ensures.cases),
      search rules,
    )
