use Rattle.std.proofs.Common.{◌∙◌}
use Rattle.build_seats.proofs.Noting.{seat_counts, kept_noted, behind_noted}
use Rattle.build_seats.proofs.kept.Kept.call.Goals as goal

pub note-requires-clause-counted : goal.note-requires-clause-counted
note-requires-clause-counted g c =
    let done = c.in_ok-reply.ensures in
    seat_counts _ _ c.self.invariant _ (c.self.view_is ∙ c.audit-build.ensures.same.0) _ c.audit-build.ensures.range c.audit-build.ensures.behind c.audit-build.result c.audit-build.ensures.build
    done.act c.command.new.self done.accepted.grows _ c.audit-build.ensures.same.1

pub invariant_of-self-2 : goal.invariant_of-self-2
invariant_of-self-2 g c =
    let done = c.in_ok-reply.ensures in
    kept_noted _ _ c.self.invariant _ (c.self.view_is ∙ c.audit-build.ensures.same.0) _ c.audit-build.ensures.range c.audit-build.ensures.behind c.audit-build.result c.audit-build.ensures.build
    done.act c.command.new.self done.accepted.grows _ c.audit-build.ensures.same.1 c.note.ensures.sound c.note.new.books c.note.ensures.books

pub returns-clause-after : goal.returns-clause-after
returns-clause-after g c =
    let done = c.in_ok-reply.ensures in
    behind_noted _ _ c.self.invariant _ (c.self.view_is ∙ c.audit-build.ensures.same.0) _ c.audit-build.ensures.range c.audit-build.ensures.behind c.audit-build.result c.audit-build.ensures.build
    done.act c.command.new.self done.accepted.grows _ c.audit-build.ensures.same.1 c.note.ensures.sound c.note.new.seat c.note.ensures.seat
