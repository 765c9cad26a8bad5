use Rattle.std.proofs.Common.{List, [], ◌∷◌, ◌++◌, FitsSigned, w64, refl, sym, ap, ◌∙◌, rules}
use Rattle.std.proofs.lemmas.Int.{to_z-of_z}
use Rattle.toml.specs.Data.{as_integer}
use Rattle.realm_plan.specs.Contents.{integers_of}
use Rattle.realm_plan.proofs.Fronts.{starts, ReadsEach, item_read, item_missing, items_read}
use Rattle.toml.specs.View.{items_view}
use Rattle.toml.specs.declared.value.Value.{Value}
use Rattle.realm_plan.proofs.contents.integers_of.Goals as goal

reads : ReadsEach as_integer integers_of
reads = record { none_left = refl; one_more = λ _ _. refl }

pub loop-value-init : goal.loop-value-init
loop-value-init c =
    starts c.new-found.result.items (integers_of (items_view c.deref-value-items.result.now)) (integers_of (items_view c.args.array.now.items))
    c.new-found.ensures.items (ap (λ (vs : List Value). integers_of (items_view vs)) c.deref-value-items.ensures.value)

pub loop-value-preserved : goal.loop-value-preserved
loop-value-preserved c =
    let fits : FitsSigned w64 c.in-Some.whole = search rules in
    item_read as_integer integers_of reads c.deref-value-items.result.now c.loop-value.value-index c.value-item.result c.loop-value.found.items c.push.new.self.items c.in-Some.whole
    c.loop-value-test.true c.value-item.is c.in-Some.ensures (c.in_ok-push-in-Some.ensures.items ∙ ap (λ whole. c.loop-value.found.items ++ whole ∷ []) (to_z-of_z w64 c.in-Some.whole fits))
    ∙ c.loop-value.invariant

pub returns-in-None : goal.returns-in-None
returns-in-None c =
    sym (item_missing as_integer integers_of reads c.deref-value-items.result.now c.loop-value.value-index c.value-item.result c.loop-value.found.items
    c.loop-value-test.true c.value-item.is c.in-None.ensures)
    ∙ c.loop-value.invariant

pub returns : goal.returns
returns c = sym (items_read as_integer integers_of reads c.deref-value-items.result.now c.loop-value.value-index c.loop-value.found.items c.loop-value-test.false) ∙ c.loop-value.invariant
