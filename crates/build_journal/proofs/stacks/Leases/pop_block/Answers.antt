use Rattle.std.proofs.Common.{ℕ, ◌<◌, List, length, ap, sym, subst}
use Rattle.build_journal.specs.Stacks.{Stacks, popped, contents}
use Rattle.build_journal.proofs.Written.{contents_written}
use Rattle.build_journal.proofs.stacks.Leases.pop_block.Goals as goal

pub returns : goal.returns
returns c =
    let stacks = c.self.inside.stacks.items in
    let there : c.args.build < length (contents stacks) = subst (λ (s : Stacks). c.args.build < length s.stacks) (sym c.self.view_is) c.requires.there in
    rw (← c.self.view_is)
    (ap (λ (pages : List (List ℕ)). record { stacks = pages; room = c.self.inside.room })
    (contents_written stacks c.number.result c.args.build c.index_mut.result.now c.pop_run.new.stack c.number.ensures.value there c.index_mut.ensures.value
    (λ pages. popped pages c.args.order) c.pop_run.ensures.popped))
