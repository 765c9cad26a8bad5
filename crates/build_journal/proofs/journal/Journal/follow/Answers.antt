use Rattle.std.proofs.Common.{◌≡◌, ◌-◌, ℕ, take, vec_len, ◌∷◌, ◌++◌, [], List, true, length, sym, ap, ◌∙◌, arith}
use Rattle.realm_model.specs.declared.act.Act.{Act}
use Rattle.realm_model.specs.Act.{is_paired}
use Rattle.realm_model.specs.Stack.{pushed}
use Rattle.realm_model.proofs.Stack.{pushed_paired, pushed_other}
use Rattle.build_journal.specs.Stack.{are_paired}
use Rattle.build_journal.proofs.Follows.{room_for, are_paired_push, pushed_taken}
use Rattle.build_journal.proofs.journal.Journal.follow.Goals as goal

pub push_reserved-requires : goal.push_reserved-requires
push_reserved-requires c =
    let room = room_for c.args.self.now c.args.act.now (sym c.if-is_paired.ensures) c.requires in
    let len : vec_len c.self.inside.entries ≡ length c.args.self.now =
    c.self.inside.entries.ok.0 ∙ ap (λ (acts : List Act). length acts) c.self.view_is in
    omega arith

pub invariant_of-self : goal.invariant_of-self
invariant_of-self c =
    let room = room_for c.args.self.now c.args.act.now (sym c.if-is_paired.ensures) c.requires in
    let len : vec_len c.self.inside.entries ≡ length c.args.self.now =
    c.self.inside.entries.ok.0 ∙ ap (λ (acts : List Act). length acts) c.self.view_is in
    let paired : is_paired c.clone.result ≡ true = ap is_paired c.clone.ensures ∙ sym c.if-is_paired.ensures in (
      omega arith,
      omega arith,
      ap are_paired c.push_reserved.ensures.items ∙ are_paired_push c.self.inside.entries.items c.clone.result paired c.self.invariant.2,
    )

pub returns-then-is_paired : goal.returns-then-is_paired
returns-then-is_paired c =
    c.push_reserved.ensures.items ∙ (λ i. c.self.view_is i ++ c.clone.ensures i ∷ [])
    ∙ sym (pushed_paired c.args.self.now c.args.act.now (sym c.if-is_paired.ensures))

pub returns-then-is_reverse : goal.returns-then-is_reverse
returns-then-is_reverse c =
    c.pop.ensures.rest ∙ ap (λ (n : ℕ). take (n - 1) c.self.inside.entries.items) c.self.inside.entries.ok.0
    ∙ pushed_taken c.self.inside.entries.items c.args.act.now (sym c.if-is_paired.ensures) (sym c.if-is_reverse.ensures)
    ∙ ap (λ (acts : List Act). pushed acts c.args.act.now) c.self.view_is

pub returns-else-is_reverse : goal.returns-else-is_reverse
returns-else-is_reverse c = sym (pushed_other c.args.self.now c.args.act.now (sym c.if-is_paired.ensures) (sym c.if-is_reverse.ensures))
