use Rattle.std.proofs.Common.{ap, length, ◌∙◌}
use Rattle.page_arena.specs.Pages.{IsSized-set}
use Rattle.page_arena.specs.SideBySide.{length-bytes_of_words}
use Rattle.page_arena.specs.Word.{rising_word}
use Rattle.page_arena.proofs.plain.PlainStorePageStore.write_rising.Goals as goal

pub invariant_of-self : goal.invariant_of-self
invariant_of-self c =
    let was = c.args.self.now in
    let len = ap length c.write_rising_in.ensures ∙ length-bytes_of_words 512 (rising_word c.args.kind c.args.first c.args.step) in
    record { sized = IsSized-set was.pages.items was.free.items was.sized c.number.result c.write_rising_in.new.page len }
