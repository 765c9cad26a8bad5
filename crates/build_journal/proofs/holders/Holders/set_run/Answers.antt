use Rattle.std.proofs.Common.{ℕ, ◌+◌, ◌-◌, ◌≤◌, List, length, Option, sym, ap, ◌∙◌, subst, arith, rules}
use Rattle.build_journal.proofs.Leased.{written-set_each}
use Rattle.build_journal.proofs.holders.Holders.set_run.Goals as goal

pub returns : goal.returns
returns c =
    let leases = c.self.inside.of.items in
    let fits : c.args.first + c.args.count ≤ length leases = subst (λ (xs : List (Option ℕ)). c.args.first + c.args.count ≤ length xs) (sym c.self.view_is) c.requires in
    rw (← c.self.view_is)
    (written-set_each leases c.deref_mut.result.now c.fill.new.self c.args.lease c.self.inside.of.len c.args.first c.args.count (c.args.first + c.args.count - c.args.first)
    c.deref_mut.ensures.value (sym c.deref_mut.ensures.len ∙ ap length c.deref_mut.ensures.value) (omega arith) (c.fill.ensures.after (λ y is. search rules)) fits)
