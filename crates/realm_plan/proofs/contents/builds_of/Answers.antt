use Rattle.std.proofs.Common.{ℕ, List, [], ◌∷◌, map, Bor, Vec, Global, refl, sym, ap, ◌∙◌}
use Rattle.std.proofs.lemmas.List.{map-append}
use Rattle.realm_plan.specs.Contents.{step_texts_of, build_texts_of}
use Rattle.realm_plan.proofs.Fronts.{starts, ReadsEach, item_read, item_missing, items_read}
use Rattle.toml.specs.View.{items_view}
use Rattle.toml.specs.declared.value.Value.{Value}
use Rattle.realm_plan.proofs.contents.builds_of.Goals as goal

reads : ReadsEach step_texts_of build_texts_of
reads = record { none_left = refl; one_more = λ _ _. refl }

abbrev texts : Vec (Bor (List ℕ)) Global → List (List ℕ)
texts steps = map (λ t. t.now) steps.items

pub loop-value-init : goal.loop-value-init
loop-value-init c =
    starts (map texts c.new-found.result.items) (build_texts_of (items_view c.deref-value-items.result.now)) (build_texts_of (items_view c.args.array.now.items))
    (ap (map texts) c.new-found.ensures.items) (ap (λ (vs : List Value). build_texts_of (items_view vs)) c.deref-value-items.ensures.value)

pub loop-value-preserved : goal.loop-value-preserved
loop-value-preserved c =
    item_read step_texts_of build_texts_of reads c.deref-value-items.result.now c.loop-value.value-index c.value-item.result (map texts c.loop-value.found.items)
    (map texts c.push.new.self.items) (texts c.in-Some.steps)
    c.loop-value-test.true c.value-item.is (rw c.in-Some.is at c.in_ok-steps.ensures) (ap (map texts) c.in_ok-push.ensures.items ∙ map-append texts c.loop-value.found.items (c.in-Some.steps ∷ []))
    ∙ c.loop-value.invariant

pub returns-in_default : goal.returns-in_default
returns-in_default c =
    sym (item_missing step_texts_of build_texts_of reads c.deref-value-items.result.now c.loop-value.value-index c.value-item.result (map texts c.loop-value.found.items)
    c.loop-value-test.true c.value-item.is (rw c.in_default.is at c.in_ok-steps.ensures))
    ∙ c.loop-value.invariant

pub returns : goal.returns
returns c = sym (items_read step_texts_of build_texts_of reads c.deref-value-items.result.now c.loop-value.value-index (map texts c.loop-value.found.items) c.loop-value-test.false)
    ∙ c.loop-value.invariant
