use Rattle.std.proofs.Common.{◌≡◌, ◌<◌, ◌==◌, length, false, arith}
use Rattle.std.proofs.lemmas.Bool.{ne_eqb}
use Rattle.checked_io.proofs.Read.{consumes_more}
use Rattle.checked_io.proofs.Parts.{no_feed_more}
use Rattle.checked_io.proofs.Nexts.{line_with_feed, line_at_end, too_long, ahead_taken, consumes_same}
use Rattle.checked_io.proofs.lines.Lines.next_line.Goals as goal

pub returns-else-is_empty-clause-next : goal.returns-else-is_empty-clause-next
returns-else-is_empty-clause-next g c =
    let some : 0 < length c.loop.line.items = grind (arith, c.if-is_empty.ensures) in (
      c.loop.invariant.few,
      line_at_end _ _ c.loop.line.items (consumes_same _ _ _ c.loop.line.items c.loop.invariant.taken c.in_ok-fill.ensures.keeps)
          (c.in_ok-fill.ensures.end c.if-not-branch.true) c.loop.invariant.none some,
    )

pub returns-then-byte-eq10-clause-next : goal.returns-then-byte-eq10-clause-next
returns-then-byte-eq10-clause-next g c = (
  c.loop.invariant.few,
  line_with_feed _ _ _ c.loop.line.items c.take_byte-byte.result (consumes_same _ _ _ c.loop.line.items c.loop.invariant.taken c.in_ok-fill.ensures.keeps)
      (ahead_taken c.fill.new.self c.take_byte-byte.new.self c.take_byte-byte.result (g.R.Read.remaining c.fill.new.input.device) c.take_byte-byte.ensures)
      c.if-byte-eq10.true c.loop.invariant.none,
)

pub returns-then-len-from-clause-next : goal.returns-then-len-from-clause-next
returns-then-len-from-clause-next g c =
    let other : (c.take_byte-byte.result == 10) ≡ false = ne_eqb c.take_byte-byte.result 10 c.if-byte-eq10.false in
    let full : length c.loop.line.items ≡ c.args.most = omega (arith, c.loop.invariant.few, c.if-len-from.true, c.len.ensures, c.from.ensures) in
    too_long c.args.most _ _ _ c.loop.line.items c.take_byte-byte.result (consumes_same _ _ _ c.loop.line.items c.loop.invariant.taken c.in_ok-fill.ensures.keeps)
    (ahead_taken c.fill.new.self c.take_byte-byte.new.self c.take_byte-byte.result (g.R.Read.remaining c.fill.new.input.device) c.take_byte-byte.ensures)
    other c.loop.invariant.none full

pub loop-preserved : goal.loop-preserved
loop-preserved g c =
    let ahead = consumes_same _ _ _ c.loop.line.items c.loop.invariant.taken c.in_ok-fill.ensures.keeps in
    let byte = ahead_taken c.fill.new.self c.take_byte-byte.new.self c.take_byte-byte.result (g.R.Read.remaining c.fill.new.input.device) c.take_byte-byte.ensures in
    record {
      fine = c.in_ok-fill.ensures.told;
      len = omega (arith, c.in-Ok.ensures.len);
      few = omega (arith, c.in-Ok.ensures.len, c.if-len-from.false, c.len.ensures, c.from.ensures);
      none = rw c.in-Ok.ensures.items (no_feed_more c.loop.line.items _ c.loop.invariant.none (ne_eqb c.take_byte-byte.result 10 c.if-byte-eq10.false));
      taken = rw c.in-Ok.ensures.items (consumes_more _ _ _ c.loop.line.items _ ahead byte);
    }
