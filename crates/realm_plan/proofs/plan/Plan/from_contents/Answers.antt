use Rattle.std.proofs.Common.{◌≡◌, ℕ, List, map, length, Vec, vec_len, Global, refl, sym, ◌∙◌}
use Rattle.std.proofs.lemmas.List.{length-map}
use Rattle.std.proofs.lemmas.Result.{err_from_is_err_and}
use Rattle.realm_plan.specs.declared.step.PlanStep.{PlanStep}
use Rattle.realm_plan.specs.ContentsView.{contents_view}
use Rattle.realm_plan.proofs.InOrder.{fails_at_builds, fails_at_order, fails_at_numbers, fails_at_lengths, plan_read}
use Rattle.realm_plan.proofs.plan.Plan.from_contents.Goals as goal

abbrev steps : List (Vec PlanStep Global) → List (List PlanStep)
steps builds = map (λ b. b.items) builds

counted : (builds : Vec (Vec PlanStep Global) Global) (count : ℕ) → count ≡ vec_len builds → count ≡ length (steps builds.items)
counted builds count e = e ∙ builds.ok.0 ∙ sym (length-map builds.items (λ b. b.items))

pub returns-in_err-builds : goal.returns-in_err-builds
returns-in_err-builds c =
    let told = err_from_is_err_and c.from_residual.result c.from_residual.ensures.1 in
    rw (told.1, told.2) (fails_at_builds (contents_view c.args.contents.now) c.in_err-builds.field-0.0 (rw c.deref.ensures.value at c.in_err-builds.ensures))

pub returns-in_err-order : goal.returns-in_err-order
returns-in_err-order c =
    let told = err_from_is_err_and c.from_residual-in_err-order.result c.from_residual-in_err-order.ensures.1 in
    let contents = contents_view c.args.contents.now in
    let count = counted c.in_ok-builds.builds c.len.result c.len.ensures in
    rw (told.1, told.2) (fails_at_order contents (steps c.in_ok-builds.builds.items) (rw c.deref.ensures.value at c.in_ok-builds.ensures)
    c.in_err-order.field-0.0 (rw (count, c.deref-2.ensures.value) at c.in_err-order.ensures.value))

pub returns-in_err-numbers : goal.returns-in_err-numbers
returns-in_err-numbers c =
    let told = err_from_is_err_and c.from_residual-in_err-numbers.result c.from_residual-in_err-numbers.ensures.1 in
    let contents = contents_view c.args.contents.now in
    let count = counted c.in_ok-builds.builds c.len.result c.len.ensures in
    rw (told.1, told.2) (fails_at_numbers contents (steps c.in_ok-builds.builds.items) (rw c.deref.ensures.value at c.in_ok-builds.ensures)
    c.in_ok-order.order.items (rw (count, c.deref-2.ensures.value) at c.in_ok-order.ensures.value)
    c.in_err-numbers.field-0.0 c.in_err-numbers.ensures.value)

pub returns-in_err-check_lengths : goal.returns-in_err-check_lengths
returns-in_err-check_lengths c =
    let told = err_from_is_err_and c.from_residual-in_err-check_lengths.result c.from_residual-in_err-check_lengths.ensures.1 in
    let contents = contents_view c.args.contents.now in
    let count = counted c.in_ok-builds.builds c.len.result c.len.ensures in
    rw (told.1, told.2) (fails_at_lengths contents (steps c.in_ok-builds.builds.items) (rw c.deref.ensures.value at c.in_ok-builds.ensures)
    c.in_ok-order.order.items (rw (count, c.deref-2.ensures.value) at c.in_ok-order.ensures.value)
    c.in_ok-numbers.numbers c.in_ok-numbers.ensures.value
    c.in_err-check_lengths.field-0.0 (rw (c.deref-3.ensures.value, c.deref-4.ensures.value) at c.in_err-check_lengths.ensures.value))

pub invariant_of-result : goal.invariant_of-result
invariant_of-result c =
    let limits = c.in_ok-numbers.ensures in
    let short = c.in_ok-check_lengths.ensures in
    let same = c.in_ok-turns.ensures ∙ c.deref-5.ensures.value in
    record {
      pages_in_limits = limits.pages;
      vmids_in_limits = limits.vmids;
      aux_in_limits = limits.aux;
      history_in_limits = limits.history;
      builds_in_limits = rw c.deref-3.ensures.len at short.builds;
      steps_in_limits = rw c.deref-3.ensures.value at short.steps;
      order_in_limits = rw (c.in_ok-turns.turns.ok.0, same) (rw c.deref-4.ensures.value at short.order);
      turns_of_builds = rw same (rw c.len.ensures at c.in_ok-order.ensures.below);
      is_abort = refl;
    }

pub returns : goal.returns
returns c =
    let contents = contents_view c.args.contents.now in
    let count = counted c.in_ok-builds.builds c.len.result c.len.ensures in
    let same = c.in_ok-turns.ensures ∙ c.deref-5.ensures.value in
    plan_read contents (steps c.in_ok-builds.builds.items) (rw c.deref.ensures.value at c.in_ok-builds.ensures)
    c.in_ok-turns.turns.items (rw same (rw (count, c.deref-2.ensures.value) at c.in_ok-order.ensures.value))
    c.in_ok-numbers.numbers c.in_ok-numbers.ensures.value
    (rw same (rw (c.deref-3.ensures.value, c.deref-4.ensures.value) at c.in_ok-check_lengths.ensures.value))
