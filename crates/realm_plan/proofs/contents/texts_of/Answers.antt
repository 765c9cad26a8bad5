use Rattle.std.proofs.Common.{ℕ, List, [], ◌∷◌, map, Bor, refl, sym, ap, ◌∙◌}
use Rattle.std.proofs.lemmas.List.{map-append}
use Rattle.toml.specs.Data.{as_str}
use Rattle.realm_plan.specs.Contents.{texts_of}
use Rattle.realm_plan.proofs.Fronts.{starts, ReadsEach, item_read, item_missing, items_read}
use Rattle.toml.specs.View.{items_view}
use Rattle.toml.specs.declared.value.Value.{Value}
use Rattle.realm_plan.proofs.contents.texts_of.Goals as goal

reads : ReadsEach as_str texts_of
reads = record { none_left = refl; one_more = λ _ _. refl }

abbrev now : List (Bor (List ℕ)) → List (List ℕ)
now texts = map (λ t. t.now) texts

pub loop-value-init : goal.loop-value-init
loop-value-init c =
    starts (now c.new-found.result.items) (texts_of (items_view c.deref-value-items.result.now)) (texts_of (items_view c.args.array.now.items))
    (ap now c.new-found.ensures.items) (ap (λ (vs : List Value). texts_of (items_view vs)) c.deref-value-items.ensures.value)

pub loop-value-preserved : goal.loop-value-preserved
loop-value-preserved c =
    item_read as_str texts_of reads c.deref-value-items.result.now c.loop-value.value-index c.value-item.result (now c.loop-value.found.items) (now c.push.new.self.items) c.in-Some.text.now
    c.loop-value-test.true c.value-item.is c.in-Some.ensures (ap now c.in_ok-push.ensures.items ∙ map-append _ c.loop-value.found.items (c.in-Some.text ∷ []))
    ∙ c.loop-value.invariant

pub returns-in_default : goal.returns-in_default
returns-in_default c =
    sym (item_missing as_str texts_of reads c.deref-value-items.result.now c.loop-value.value-index c.value-item.result (now c.loop-value.found.items)
    c.loop-value-test.true c.value-item.is c.in_default.ensures)
    ∙ c.loop-value.invariant

pub returns : goal.returns
returns c = sym (items_read as_str texts_of reads c.deref-value-items.result.now c.loop-value.value-index (now c.loop-value.found.items) c.loop-value-test.false) ∙ c.loop-value.invariant
