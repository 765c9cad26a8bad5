use Rattle.std.proofs.Common.{◌++◌, ◌∷◌, [], ℕ, arith, ap, sym, ◌∙◌}
use Rattle.std.specs.List.{cons_option, filter_map, range_with_len}
use Rattle.std.proofs.lemmas.List.Elements.{filter_map-append}
use Rattle.granule_addr.proofs.Runs.{range_with_len_more}
use Rattle.explain.specs.Unfinished.{unfinished_abort}
use Rattle.explain.proofs.unfinished.unfinished_aborts.Goals as goal

pub loop-place-preserved : goal.loop-place-preserved
loop-place-preserved g c =
    let f = unfinished_abort c.args.host.now in
    let n = c.loop-place.place in
    let is = c.unfinished_abort.ensures ∙ ap f c.at.ensures in
    c.in_ok-add_if.ensures
    ∙ (λ i. c.loop-place.invariant i ++ cons_option (is i) [])
    ∙ sym (filter_map-append f (range_with_len 0 n) (n ∷ []))
    ∙ ap (filter_map f) (sym (range_with_len_more 0 n n (omega arith)))
