use Rattle.std.proofs.Common.{◌≡◌, ℕ, ◌-◌, ◌≤◌, List, [], ◌++◌, length, take, not, sym, ap, subst, ◌∙◌, arith, length-append}
use Rattle.std.specs.Prelude.{◌^◌}
use Rattle.std.proofs.lemmas.List.{length-take-le}
use Rattle.std.proofs.lemmas.Result.{err_from_is_err_and}
use Rattle.checked_io.proofs.Read.{consumes_more, keeps_same}
use Rattle.trace_program.specs.declared.fault.TraceError.TheVariants.{TooLong}
use Rattle.trace_program.specs.declared.session.Session.{Session}
use Rattle.trace_program.specs.Reading.{AreTraceLinesTaken, IsOver, IsTraceLineTaken, IsUnderway, ReadsOn}
use Rattle.trace_program.proofs.Long.{longer, passed_on}
use Rattle.trace_program.proofs.Underway.{cut_in_read, cut_after, cut_at_end, cut_in_write, over_at_end, underway_more, read_more, reads_on, from_no_text}
use Rattle.trace_program.proofs.reading.Reading.read_on.Goals as goal

pub returns-in_err-n-clause-err : goal.returns-in_err-n-clause-err
returns-in_err-n-clause-err g c = λ begin start u.
    let told = err_from_is_err_and c.from_residual.result c.from_residual.ensures.1 in
    rw told.1 (cut_in_read _ _ begin _ start _ _ _ u _ _ c.in_err-n.ensures.bytes (keeps_same _))

pub returns-in_err-end-clause-err : goal.returns-in_err-end-clause-err
returns-in_err-end-clause-err g c = λ begin start u.
    let told = err_from_is_err_and c.from_residual-in_err-end.result c.from_residual-in_err-end.ensures.1 in
    rw told.1 (cut_after _ _ begin _ start _ _ _ u _ _ _ c.in_ok-n.ensures.bytes.0 (keeps_same _))

pub returns-in_err-write-clause-err : goal.returns-in_err-write-clause-err
returns-in_err-write-clause-err g c = λ begin start u.
    let told = err_from_is_err_and c.from_residual-in_err-write.result c.from_residual-in_err-write.ensures.1 in
    rw told.1 (cut_at_end _ _ begin _ start _ _ _ u _ _ _ _ _ c.in_ok-n.ensures.bytes.0 (ap (λ (n : ℕ). take n c.read.new.buf) c.if-n-eq0.true)
    (from_no_text _ _ _ _ _ _ c.requires.empty c.in_ok-end.ensures.ok) c.in_err-write.ensures.err)

pub returns-then-n-eq0-clause-ok : goal.returns-then-n-eq0-clause-ok
returns-then-n-eq0-clause-ok g c = λ begin start u.
    subst (λ (s : Session). IsOver c.args.request.asked.now c.args.request.source.now begin (g.R.Read.remaining c.read.new.self.device) start (g.W.Write.contents c.write.new.output.device) s) (sym c.in_ok-write.ensures.session)
    (over_at_end _ _ begin _ start _ _ _ u _ _ _ _ _ c.in_ok-n.ensures.bytes.0 (ap (λ (n : ℕ). take n c.read.new.buf) c.if-n-eq0.true) (c.in_ok-n.ensures.bytes.1 c.if-n-eq0.true (omega arith))
    (from_no_text _ _ _ _ _ _ c.requires.empty c.in_ok-end.ensures.ok) c.in_ok-write.ensures.ok)

pub returns-in_err-take_part-clause-err : goal.returns-in_err-take_part-clause-err
returns-in_err-take_part-clause-err g c = λ begin start u.
    let told = err_from_is_err_and c.from_residual-in_err-take_part.result c.from_residual-in_err-take_part.ensures.1 in
    rw told.1 (cut_after _ _ begin _ start _ _ _ u _ _ _ c.in_ok-n.ensures.bytes.0 (keeps_same _))

pub returns-in_err-write-2-clause-err : goal.returns-in_err-write-2-clause-err
returns-in_err-write-2-clause-err g c = λ begin start u.
    let told = err_from_is_err_and c.from_residual-in_err-write-2.result c.from_residual-in_err-write-2.ensures.1 in
    rw told.1 (cut_in_write _ _ begin _ start _ _ _ u _ _ _ _ _ _ c.in_ok-n.ensures.bytes.0
    (from_no_text _ _ _ _ _ _ c.requires.empty c.in_ok-take_part.ensures.ok) c.in_err-write-2.ensures.err)

pub returns-clause-ok : goal.returns-clause-ok
returns-clause-ok g c = λ begin start u.
    let more = underway_more _ _ begin _ start _ _ _ u _ _ _ _ _ _ c.in_ok-n.ensures.bytes.0 (from_no_text _ _ _ _ _ _ c.requires.empty c.in_ok-take_part.ensures.ok) c.in_ok-write-2.ensures.ok in
    let more_s = subst (λ (s : Session). IsUnderway c.args.request.asked.now c.args.request.source.now begin (g.R.Read.remaining c.read.new.self.device) start (g.W.Write.contents c.write-2.new.output.device) s c.take_part.new.self.line.items) (sym c.in_ok-write-2.ensures.session) more in
    let more_l = subst (λ line. IsUnderway c.args.request.asked.now c.args.request.source.now begin (g.R.Read.remaining c.read.new.self.device) start (g.W.Write.contents c.write-2.new.output.device) c.write-2.new.self.session line.items) (sym c.in_ok-write-2.ensures.line) more_s in
    reads_on _ _ begin _ start _ _ _ more_l c.is_done.result c.is_done.ensures

-- ---- how much was read

pub returns-in_err-end-clause-long : goal.returns-in_err-end-clause-long
returns-in_err-end-clause-long g c = λ long begin start u.
    let takes = from_no_text _ _ _ _ _ (λ (read written : List ℕ). 2 ^ 64 - 1 ≤ length read) c.requires.empty
    (c.in_err-end.ensures.long (passed_on _ _ TooLong c.from_residual-in_err-end.ensures.1 long)) in
    read_more _ _ begin _ start _ _ _ u _ _ _ c.in_ok-n.ensures.bytes.0 (longer _ u.read _ (takes u.read u.written u.taken))

pub returns-in_err-take_part-clause-long : goal.returns-in_err-take_part-clause-long
returns-in_err-take_part-clause-long g c = λ long begin start u.
    let takes = from_no_text _ _ _ _ _ (λ (read written : List ℕ). 2 ^ 64 - 1 ≤ length (read ++ take c.in_ok-n.n c.read.new.buf)) c.requires.empty
    (c.in_err-take_part.ensures.long (passed_on _ _ TooLong c.from_residual-in_err-take_part.ensures.1 long)) in
    read_more _ _ begin _ start _ _ _ u _ _ _ c.in_ok-n.ensures.bytes.0 (takes u.read u.written u.taken)

pub returns-clause-more : goal.returns-clause-more
returns-clause-more g c = λ count begin h more.
    let part = take c.in_ok-n.n c.read.new.buf in record {
      read = h.read ++ part;
      consumed = consumes_more begin _ _ h.read part h.consumed c.in_ok-n.ensures.bytes.0;
      at_least = omega (arith, h.at_least, length-append h.read part, length-take-le c.in_ok-n.n c.read.new.buf c.in_ok-n.ensures.bound.0, c.if-n-eq0.false);
    }

-- ---- the part of this read

pub returns-then-n-eq0-clause-part : goal.returns-then-n-eq0-clause-part
returns-then-n-eq0-clause-part g c = λ begin read consumed.
    let part = take c.in_ok-n.n c.read.new.buf in record {
      part = part;
      consumed = consumes_more begin _ _ read part consumed c.in_ok-n.ensures.bytes.0;
      short = omega (arith, length-take-le c.in_ok-n.n c.read.new.buf c.in_ok-n.ensures.bound.0, c.in_ok-n.ensures.bound.0);
    }

pub returns-clause-part : goal.returns-clause-part
returns-clause-part g c = λ begin read consumed.
    let part = take c.in_ok-n.n c.read.new.buf in record {
      part = part;
      consumed = consumes_more begin _ _ read part consumed c.in_ok-n.ensures.bytes.0;
      short = omega (arith, length-take-le c.in_ok-n.n c.read.new.buf c.in_ok-n.ensures.bound.0, c.in_ok-n.ensures.bound.0);
    }
