use Rattle.std.proofs.Common.{ℕ, ◌<◌, ℤ, pos, get_or, Result, FitsSigned, w64, refl, sym, ap, ◌∙◌, subst, rules, arith}
use Rattle.std.specs.List.{All}
use Rattle.std.proofs.lemmas.Int.{to_z-of_z}
use Rattle.std.proofs.lemmas.List.Elements.{All-push}
use Rattle.realm_plan.specs.Outcome.{or_fault}
use Rattle.realm_plan.specs.Plan.{build_named, order_of}
use Rattle.realm_plan.specs.declared.fault.PlanFault.{PlanFault}
use Rattle.realm_plan.specs.declared.fault.PlanFault.TheVariants as fault
use Rattle.realm_plan.proofs.Fronts.{or_fault_starts, ReadsOrFault, entry_read, entry_wrong, entries_read}
use Rattle.realm_plan.proofs.turns.order_of.Goals as goal

abbrev one : ℕ → ℕ → ℤ → Result ℕ PlanFault
one count k entry = or_fault (fault.Order k) (build_named count entry)

reads : (count : ℕ) → ReadsOrFault (one count) (order_of count)
reads count = record { none_left = λ _. refl; one_more = λ _ _ _. refl }

pub loop-place-init : goal.loop-place-init
loop-place-init c =
    record {
      read = or_fault_starts c.new-found.result.items (order_of c.args.count 0 c.args.entries.now) c.new-found.ensures.items;
      below = subst (All (λ build. build < c.args.count)) (sym c.new-found.ensures.items) (λ k d inside. absurd (omega arith));
    }

pub loop-place-preserved : goal.loop-place-preserved
loop-place-preserved c =
    let count = c.args.count in
    let entry = get_or c.args.entries.now c.loop-place.place (pos 0) in
    let fits : FitsSigned w64 entry = search rules in
    record {
      read =
          entry_read (one count) (order_of count) (reads count) c.args.entries.now c.loop-place.place (pos 0) c.loop-place.found.items c.push.new.self.items c.in-Some.build
          c.loop-place-test.true (ap (λ z. one count c.loop-place.place z) (sym (to_z-of_z w64 entry fits))
          ∙ ap (or_fault (fault.Order c.loop-place.place)) (sym c.in-Some.ensures.value)) c.in_ok-push.ensures.items
          ∙ c.loop-place.invariant.read;
      below = rw c.in_ok-push.ensures.items (All-push (λ build. build < count) c.loop-place.found.items c.in-Some.build c.loop-place.invariant.below c.in-Some.ensures.below);
    }

pub returns-in_default-clause-value : goal.returns-in_default-clause-value
returns-in_default-clause-value c =
    let count = c.args.count in
    let entry = get_or c.args.entries.now c.loop-place.place (pos 0) in
    let fits : FitsSigned w64 entry = search rules in
    sym c.loop-place.invariant.read
    ∙ entry_wrong (one count) (order_of count) (reads count) c.args.entries.now c.loop-place.place (pos 0) c.loop-place.found.items (fault.Order c.loop-place.place)
    c.loop-place-test.true (ap (λ z. one count c.loop-place.place z) (sym (to_z-of_z w64 entry fits)) ∙ ap (or_fault (fault.Order c.loop-place.place)) (sym c.in_default.ensures.value))

pub returns-clause-value : goal.returns-clause-value
returns-clause-value c =
    let count = c.args.count in
    sym c.loop-place.invariant.read ∙ entries_read (one count) (order_of count) (reads count) c.args.entries.now c.loop-place.place c.loop-place.found.items c.loop-place-test.false
