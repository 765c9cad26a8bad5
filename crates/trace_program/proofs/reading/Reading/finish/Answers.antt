use Rattle.std.proofs.lemmas.Result.{err_from_is_err_and}
use Rattle.trace_program.proofs.Underway.{nothing_front}
use Rattle.trace_program.proofs.reading.Reading.finish.Goals as goal

pub returns-in_err-summary-clause-err : goal.returns-in_err-summary-clause-err
returns-in_err-summary-clause-err g c =
    let told = err_from_is_err_and c.from_residual.result c.from_residual.ensures.1 in
    rw told.1 (nothing_front _ _)
