use Rattle.std.proofs.Common.{◌+◌, ◌++◌, ◌∷◌, [], refl, sym, ap, ◌∙◌, append_assoc, arith}
use Rattle.std.specs.List.{range_with_len}
use Rattle.std.proofs.lemmas.List.{length-append}
use Rattle.granule_addr.proofs.Runs.{range_with_len_more}
use Rattle.explain.proofs.operands.push_run.Goals as goal

pub loop-number-preserved : goal.loop-number-preserved
loop-number-preserved c =
    let old = c.args.pages.now.items in
    let n = c.loop-number.number in
    let next = c.args.first + n in
    let long = c.loop-number.invariant.long in
    let more = length-append c.loop-number.pages.items (next ∷ []) in
    let pushed = c.push.ensures.len in
    record {
      items = c.push.ensures.items ∙ ap (λ ps. ps ++ next ∷ []) c.loop-number.invariant.items ∙ append_assoc old (range_with_len c.args.first n) (next ∷ [])
          ∙ ap (λ ps. old ++ ps) (sym (range_with_len_more c.args.first n next refl));
      long = omega (arith, long, more, pushed);
    }
