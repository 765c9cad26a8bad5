use Rattle.std.proofs.Common.{◌^◌, false, inl, inr, ap, subst, sym}
use Rattle.std.proofs.lemmas.Bool.{cases_Bool, OnTrue_at, OnFalse_at}
use Rattle.page_arena.specs.Page.{IsSized}
use Rattle.page_arena.specs.Pages.{IsSized-flags}
use Rattle.buddy.specs.FirstBlock.{IndexView}
use Rattle.buddy.proofs.arena.BuddyArenaPageStore.take_at.Goals as goal

pub invariant_of-self : goal.invariant_of-self
invariant_of-self c =
    let was = c.args.self.now in let told = c.take_at-taken.ensures in
    elim (cases_Bool c.take_at-taken.result.0) [
      | inl is ↦
          let block = told.answer.0 is in
          record { sized = subst (IsSized was.pages) (sym (OnTrue_at is told.taken)) (IsSized-flags was.pages was.index.flags was.sized c.number-first.result (2 ^ c.number.result) false block.inside) }
      | inr is_not ↦ record { sized = subst (IsSized was.pages) (sym (ap (λ (i : IndexView). i.flags) (OnFalse_at is_not told.unchanged))) was.sized }
    ]
