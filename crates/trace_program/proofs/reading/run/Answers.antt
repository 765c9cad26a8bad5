use Rattle.std.proofs.Common.{[], zero-le, arith}
use Rattle.std.proofs.lemmas.Result.{err_from_is_err_and, on_ok_weaker}
use Rattle.checked_io.proofs.Read.{consumes_none, keeps_same}
use Rattle.trace_program.specs.declared.fault.TraceError.TheVariants.{TooLong}
use Rattle.trace_program.proofs.Long.{passed_on}
use Rattle.trace_program.proofs.Underway.{fresh_going, underway_none, cut_after, reads_more, reads_no_more, run_ok, run_err}
use Rattle.trace_program.proofs.reading.run.Goals as goal

pub reads-init : goal.reads-init
reads-init g c = record {
  readable = c.requires.readable;
  writable = c.requires.writable;
  empty = c.new-4.ensures;
  going = rw c.new.ensures (fresh_going _);
  underway = rw (c.new.ensures, c.new-2.ensures.items) (underway_none _ _ _ _ _ _ (fresh_going _) (keeps_same _) (keeps_same _));
  read = record { read = []; consumed = consumes_none _; at_least = zero-le };
}

pub reads-preserved : goal.reads-preserved
reads-preserved g c =
    let more = reads_more _ _ _ _ _ _ _ _ _ c.if-not-branch.false (c.in_ok-read_on.ensures.ok _ _ c.reads.invariant.underway) in record {
      readable = c.in_ok-read_on.ensures.fine.0;
      writable = c.in_ok-read_on.ensures.fine.1;
      empty = c.in_ok-read_on.ensures.empty;
      going = more.1;
      underway = more.0;
      read = c.in_ok-read_on.ensures.more _ _ c.reads.invariant.read c.if-not-branch.false;
    }

pub returns-in_err-read_on-clause-err : goal.returns-in_err-read_on-clause-err
returns-in_err-read_on-clause-err g c =
    let told = err_from_is_err_and c.from_residual.result c.from_residual.ensures.1 in
    rw told.1 (c.in_err-read_on.ensures.err _ _ c.reads.invariant.underway)

pub returns-then-not-branch-clause-ok : goal.returns-then-not-branch-clause-ok
returns-then-not-branch-clause-ok g c = run_ok _ _ _ _ _ _ _ (reads_no_more _ _ _ _ _ _ _ _ _ c.if-not-branch.true (c.in_ok-read_on.ensures.ok _ _ c.reads.invariant.underway)) _ _ c.finish.ensures.verdict c.finish.ensures.ok

pub returns-then-not-branch-clause-stop : goal.returns-then-not-branch-clause-stop
returns-then-not-branch-clause-stop g c =
    let u = c.reads.invariant.underway in
    on_ok_weaker c.finish.result (λ _. record {
      before = u.read;
      last = c.in_ok-read_on.ensures.part _ u.read u.consumed;
      written = u.written;
      s = c.reads.reading.session;
      line = c.reads.reading.line.items;
      taken = u.taken;
      going = c.reads.invariant.going;
    }) c.finish.ensures.ok

pub returns-then-not-branch-clause-err : goal.returns-then-not-branch-clause-err
returns-then-not-branch-clause-err g c = run_err _ _ _ _ _ _ _ (reads_no_more _ _ _ _ _ _ _ _ _ c.if-not-branch.true (c.in_ok-read_on.ensures.ok _ _ c.reads.invariant.underway)) _ _ c.finish.ensures.err

pub returns-clause-err : goal.returns-clause-err
returns-clause-err g c = cut_after _ _ _ _ _ _ _ _ c.reads.invariant.underway _ _ _ (consumes_none _) (keeps_same _)

pub returns-in_err-read_on-clause-long : goal.returns-in_err-read_on-clause-long
returns-in_err-read_on-clause-long g c = λ long.
    c.in_err-read_on.ensures.long (passed_on _ _ TooLong c.from_residual.ensures.1 long) _ _ c.reads.invariant.underway

pub returns-clause-long : goal.returns-clause-long
returns-clause-long g c = λ long. let h = c.reads.invariant.read in record {
  read = h.read;
  consumed = h.consumed;
  at_least = omega (arith, h.at_least, c.reads-test.false);
}
