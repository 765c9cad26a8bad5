use Rattle.std.proofs.Common.{◌∙◌, ap, sym, option_copied}
use Rattle.trace_program.specs.declared.fault.TraceError.TheVariants.{TooLong}
use Rattle.trace_program.proofs.Fronts.{after_shorter, no_front, front_next, part_done, part_over}
use Rattle.trace_program.proofs.Long.{part_long, passed_on}
use Rattle.trace_program.proofs.reading.Reading.take_part.Goals as goal

pub lines-init : goal.lines-init
lines-init c = no_front _ _ _ _ _ _ c.requires

pub lines-smaller : goal.lines-smaller
lines-smaller c = after_shorter _ _ (sym c.cut_at.ensures.after ∙ ap option_copied c.in-Some.is)

pub lines-preserved : goal.lines-preserved
lines-preserved c =
    front_next _ _ _ _ _ _ _ _ _ _ c.lines.invariant _ _ _ _ _ _ (sym c.cut_at.ensures.after ∙ ap option_copied c.in-Some.is) c.cut_at.ensures.before c.in_ok-keep.ensures
    c.in_ok-end_line.ensures.ok c.in_ok-end_line.ensures.empty (sym c.if-is_done.ensures)

pub returns-then-is_done-clause-ok : goal.returns-then-is_done-clause-ok
returns-then-is_done-clause-ok c = λ read written t.
    part_done _ _ _ _ _ _ _ _ _ _ c.lines.invariant _ _ _ _ _ _ (sym c.cut_at.ensures.after ∙ ap option_copied c.in-Some.is) c.cut_at.ensures.before c.in_ok-keep.ensures
    c.in_ok-end_line.ensures.ok c.in_ok-end_line.ensures.empty (sym c.if-is_done.ensures) read written t

pub returns-in_default-clause-ok : goal.returns-in_default-clause-ok
returns-in_default-clause-ok c = λ read written t.
    part_over _ _ _ _ _ _ _ _ _ _ c.lines.invariant _ _ (sym c.cut_at.ensures.after ∙ ap option_copied c.in_default.is) c.cut_at.ensures.before c.in_ok-keep.ensures read written t

pub returns-in_err-end_line-clause-long : goal.returns-in_err-end_line-clause-long
returns-in_err-end_line-clause-long c = λ long read written t.
    part_long _ _ _ _ _ _ _ _ _ _ c.lines.invariant c.keep.new.line.items
    (c.in_err-end_line.ensures.long (passed_on _ _ TooLong c.from_residual-in_err-end_line.ensures.1 long)) read written t
