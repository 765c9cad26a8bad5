use Rattle.std.proofs.Common.{IfErr, Err, ap, sym, ◌∙◌, subst, arith}
use Rattle.std.specs.Io.KnownBytes.{prepend_known}
use Rattle.std.proofs.lemmas.Result.{err_from_is_err_and}
use Rattle.view_program.specs.Applied.{IsLineTaken}
use Rattle.view_program.specs.Taking.{IsUntaken, AreNotTaken}
use Rattle.checked_io.specs.declared.told.ReadError.TheVariants.{Device}
use Rattle.view_program.proofs.Takings.{length-taken_one, so_far_more, not_taken, too_long, unfailed}
use Rattle.view_program.proofs.history_lines.take_lines.Goals as goal

pub returns-in_err-take_line-in-Line-clause-err : goal.returns-in_err-take_line-in-Line-clause-err
returns-in_err-take_line-in-Line-clause-err g c =
    let told = err_from_is_err_and c.from_residual-in_err-take_line-in-Line.result c.from_residual-in_err-take_line-in-Line.ensures.1 in
    let start = prepend_known c.args.lines.now (g.R.Read.remaining c.args.input.now.device) in
    let next = rw c.in-Line.is at c.in_ok-next_line.ensures.next in
    let fault = c.in_err-take_line-in-Line.field-0.0 in
    let now = prepend_known c.loop.lines (g.R.Read.remaining c.loop.input.device) in
    let later = prepend_known c.next_line.new.self (g.R.Read.remaining c.next_line.new.input.device) in
    subst (λ r. IfErr r (AreNotTaken start c.args.host.now)) (sym (told.1 ∙ ap Err told.2))
    (not_taken start now c.args.host.now c.loop.host c.loop.invariant.so_far later c.next_line.new.line.items fault next.1
    (subst (λ line. IsUntaken c.loop.host line fault) c.deref.ensures.value c.in_err-take_line-in-Line.ensures.err))

pub returns-in-TooLong-clause-err : goal.returns-in-TooLong-clause-err
returns-in-TooLong-clause-err g c =
    let start = prepend_known c.args.lines.now (g.R.Read.remaining c.args.input.now.device) in
    let now = prepend_known c.loop.lines (g.R.Read.remaining c.loop.input.device) in
    too_long start now c.args.host.now c.loop.host c.loop.invariant.so_far c.next_number.result (rw c.in-TooLong.is at c.in_ok-next_line.ensures.next) c.next_number.ensures

pub loop-preserved : goal.loop-preserved
loop-preserved g c =
    let start = prepend_known c.args.lines.now (g.R.Read.remaining c.args.input.now.device) in
    let next = rw c.in-Line.is at c.in_ok-next_line.ensures.next in
    let taken = subst (λ line. IsLineTaken c.loop.host line c.take_line.new.host) c.deref.ensures.value c.in_ok-take_line-in-Line.ensures.ok in
    let one = length-taken_one c.loop.host c.next_line.new.line.items c.take_line.new.host taken in
    let before = c.loop.invariant.count in
    let now = prepend_known c.loop.lines (g.R.Read.remaining c.loop.input.device) in
    let later = prepend_known c.next_line.new.self (g.R.Read.remaining c.next_line.new.input.device) in
    record {
      fine = unfailed c.next_line.new.input.failed c.in_ok-next_line.field-0 Device c.in_ok-next_line.ensures.told;
      count = omega (arith, one, before);
      so_far = so_far_more start now c.args.host.now c.loop.host c.loop.invariant.so_far later c.next_line.new.line.items c.take_line.new.host next.1 taken;
    }
