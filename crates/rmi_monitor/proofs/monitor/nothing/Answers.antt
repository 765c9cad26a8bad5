use Rattle.std.proofs.Common.{◌≡◌, ℕ, None, replicate, ◌∙◌, ap, ◌++◌, ◌∷◌, [], arith}
use Rattle.std.proofs.lemmas.List.{replicate_more}
use Rattle.rmi_monitor.proofs.monitor.nothing.Goals as goal

pub loop-i-init : goal.loop-i-init
loop-i-init g c = c.in_ok-places.ensures.items

pub loop-i-preserved : goal.loop-i-preserved
loop-i-preserved g c = c.in_ok-push.ensures.items ∙ ap (λ ps. ps ++ None ∷ []) c.loop-i.invariant ∙ replicate_more c.loop-i._i None

pub returns : goal.returns
returns g c =
    let end : c.loop-i._i ≡ c.args.count = omega arith in
    c.loop-i.invariant ∙ ap (λ (n : ℕ). replicate n None) end
