use Rattle.std.proofs.Common.{◌≡◌, ℕ, ◌+◌, ◌*◌, ◌==◌, not, sym, ap, ◌∙◌, arith}
use Rattle.std.proofs.lemmas.Bool.{OnTrue_at}
use Rattle.rmm_model.specs.Table.{first_live_from, has_live}
use Rattle.rmm_model.proofs.LiveEntries.{first_live_end}
use Rattle.rmm_model.proofs.table.has_live.Goals as goal

pub returns-then-not-are_low : goal.returns-then-not-are_low
unfolding has_live
returns-then-not-are_low c = ap (λ (n : ℕ). not (n == 512)) (c.first_live.ensures.value ∙ c.loop-k.invariant)

pub loop-k-preserved : goal.loop-k-preserved
loop-k-preserved c =
    let next : 8 * (c.loop-k.k + 1) ≡ 8 * c.loop-k.k + 8 = omega arith in
    ap (λ (n : ℕ). first_live_from c.args.page.now n) next ∙ sym (OnTrue_at c.if-not-are_low.false c.are_low.ensures) ∙ c.loop-k.invariant

pub returns : goal.returns
unfolding has_live
returns c =
    let end : 8 * c.loop-k.k ≡ 512 = omega arith in
    sym (ap (λ (n : ℕ). not (n == 512)) (sym c.loop-k.invariant ∙ first_live_end c.args.page.now (8 * c.loop-k.k) end))
