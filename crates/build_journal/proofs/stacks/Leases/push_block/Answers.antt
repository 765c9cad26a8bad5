use Rattle.std.proofs.Common.{◌≡◌, ℕ, ◌+◌, ◌^◌, ◌<◌, ◌≤◌, List, length, ap, ◌∙◌, sym, subst, arith}
use Rattle.build_journal.specs.Stacks.{Stacks, stack_of, pushed, contents}
use Rattle.build_journal.proofs.Written.{contents_written, old_contents, IsKept-written}
use Rattle.build_journal.specs.StackLaws.{length-pushed}
use Rattle.build_journal.proofs.stacks.Leases.push_block.Goals as goal

pub invariant_of-self : goal.invariant_of-self
invariant_of-self c =
    let stacks = c.self.inside.stacks.items in
    let there : c.args.build < length (contents stacks) = subst (λ (s : Stacks). c.args.build < length s.stacks) (sym c.self.view_is) c.requires.there in
    let old : List ℕ = c.index_mut.result.now.items in
    let old_is : stack_of c.args.self.now c.args.build ≡ old =
    ap (λ (s : Stacks). stack_of s c.args.build) (sym c.self.view_is)
    ∙ old_contents stacks c.number.result c.args.build c.index_mut.result.now c.push_run.new.stack c.number.ensures.value there c.index_mut.ensures.value in
    let room_is : c.args.self.now.room ≡ c.self.inside.room = sym (ap (λ (s : Stacks). s.room) c.self.view_is) in
    let room : length old + 2 ^ c.args.order ≤ c.self.inside.room = rw (old_is, room_is) at c.requires.room in
    let count : length c.push_run.new.stack.items ≡ length old + 2 ^ c.args.order = ap length c.push_run.ensures.pushed ∙ length-pushed old c.args.first c.args.order in
    IsKept-written stacks c.number.result c.args.build c.index_mut.result.now c.push_run.new.stack c.number.ensures.value there c.index_mut.ensures.value
    c.self.inside.room c.self.invariant c.push_run.ensures.memory (omega (arith, c.push_run.new.stack.ok.0))

pub returns : goal.returns
returns c =
    let stacks = c.self.inside.stacks.items in
    let there : c.args.build < length (contents stacks) = subst (λ (s : Stacks). c.args.build < length s.stacks) (sym c.self.view_is) c.requires.there in
    rw (← c.self.view_is)
    (ap (λ (pages : List (List ℕ)). record { stacks = pages; room = c.self.inside.room })
    (contents_written stacks c.number.result c.args.build c.index_mut.result.now c.push_run.new.stack c.number.ensures.value there c.index_mut.ensures.value
    (λ pages. pushed pages c.args.first c.args.order) c.push_run.ensures.pushed))
