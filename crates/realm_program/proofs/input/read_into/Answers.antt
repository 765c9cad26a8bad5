use Rattle.std.proofs.Common.{◌≡◌, ◌<◌, ◌≤◌, length, length-take-le, take, [], arith}
use Rattle.realm_program.proofs.Kept.{kept_at_limit, kept_at_end, reads_once}
use Rattle.realm_program.proofs.input.read_into.Goals as goal
use Rattle.checked_io.proofs.Read.{consumes_more}

pub returns-then-len-ge-KEPT-clause-bytes : goal.returns-then-len-ge-KEPT-clause-bytes
returns-then-len-ge-KEPT-clause-bytes g c =
    let more = c.in-Ok.ensures.items in
    let len = c.in-Ok.ensures.len in
    let bound = c.in_ok-n.ensures.bound in
    let room = c.min-room.ensures in
    let few = c.loop.invariant.few in
    let was = c.len.ensures in
    let part : length c.read.new.buf ≤ c.min-room.result = omega (arith, c.read.auto.buf, length-take-le c.min-room.result c.loop.buf) in
    let full : length c.extend_from_slice.new.self.items ≡ 1048577 = omega (arith, len, bound, room, part, few, was) in
    rw more (kept_at_limit _ _ _ (consumes_more _ _ _ _ _ c.loop.invariant.taken c.in_ok-n.ensures.bytes.0) (rw more at full))

pub returns-then-n-eq0-clause-bytes : goal.returns-then-n-eq0-clause-bytes
returns-then-n-eq0-clause-bytes g c =
    let room = c.min-room.ensures in
    let few = c.loop.invariant.few in
    let some : 0 < length c.read.new.buf = omega (arith, c.read.auto.buf, length-take-le c.min-room.result c.loop.buf, room, few, c.len.ensures) in
    let none : take c.in_ok-n.n c.read.new.buf ≡ [] = rw c.if-n-eq0.true in
    kept_at_end _ _ _ _ _ c.loop.invariant.taken c.in_ok-n.ensures.bytes.0 none (c.in_ok-n.ensures.bytes.1 c.if-n-eq0.true some) (omega arith)

pub loop-preserved : goal.loop-preserved
loop-preserved g c =
    let more = c.in-Ok.ensures.items in
    record {
      fine = c.in_ok-n.ensures.told;
      not_lowered = omega (arith, c.in_ok-n.ensures.not_lowered, c.loop.invariant.not_lowered);
      asked = omega (arith, c.in_ok-n.ensures.counted, c.loop.invariant.asked);
      some = let l = c.in-Ok.ensures.len in let b = c.in_ok-n.ensures.bound in let m = c.min-room.ensures in omega (arith, l, b, m);
      few = omega arith;
      taken = rw more (consumes_more _ _ _ _ _ c.loop.invariant.taken c.in_ok-n.ensures.bytes.0);
    }

pub returns-in_err-n-clause-once : goal.returns-in_err-n-clause-once
returns-in_err-n-clause-once g c =
    reads_once _ _ _ _ _ _ c.loop.invariant.taken c.loop.invariant.some (omega (arith, c.in_err-n.ensures.counted, c.loop.invariant.asked))

pub returns-then-n-eq0-clause-once : goal.returns-then-n-eq0-clause-once
returns-then-n-eq0-clause-once g c =
    reads_once _ _ _ _ _ _ c.loop.invariant.taken c.loop.invariant.some (omega (arith, c.in_ok-n.ensures.counted, c.loop.invariant.asked))

pub returns-in_default-clause-once : goal.returns-in_default-clause-once
returns-in_default-clause-once g c =
    reads_once _ _ _ _ _ _ c.loop.invariant.taken c.loop.invariant.some (omega (arith, c.in_ok-n.ensures.counted, c.loop.invariant.asked))

pub returns-then-len-ge-KEPT-clause-once : goal.returns-then-len-ge-KEPT-clause-once
returns-then-len-ge-KEPT-clause-once g c =
    reads_once _ _ _ _ _ _ c.loop.invariant.taken c.loop.invariant.some (omega (arith, c.in_ok-n.ensures.counted, c.loop.invariant.asked))
