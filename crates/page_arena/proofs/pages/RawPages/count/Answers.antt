use Rattle.std.proofs.Common.{length, sym, ap, ◌∙◌}
use Rattle.page_arena.proofs.InSlots.{length-pages_in}
use Rattle.page_arena.proofs.pages.RawPages.count.Goals as goal

pub returns-clause-count : goal.returns-clause-count
returns-clause-count c = let p = c.self.inside in c.count.ensures ∙ sym (length-pages_in p.row.items p.slots.of.items) ∙ ap length c.self.view_is
