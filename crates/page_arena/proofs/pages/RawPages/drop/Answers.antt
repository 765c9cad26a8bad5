use Rattle.std.proofs.Common.{◌+◌, arith, ap, sym, ◌∙◌, ℕ}
use Rattle.page_arena.proofs.InSlots.{used_few}
use Rattle.page_arena.proofs.pages.RawPages.drop.Goals as goal

pub release-requires : goal.release-requires
release-requires c =
    let p = c.self.inside in let whole = c.self.invariant in let few = used_few p.slots.of.items p.slots.used p.slots.own in
    let most = whole.few in let mark = whole.mark in let count = c.count.ensures in
    (whole.place, whole.whole ∙ ap (λ (k : ℕ). k + 1) (sym count), omega arith, whole.owner, (omega arith, omega arith))
