use Rattle.std.proofs.Common.{◌≡◌, true, [], get_or, bytes_eq, sym, ap, ◌∙◌}
use Rattle.rmm_trace.proofs.Places.{place_here, place_none}
use Rattle.rmm_trace.proofs.name.place_from.Goals as goal

pub returns-then-eq : goal.returns-then-eq
returns-then-eq c =
    let test : bytes_eq c.args.text.now ((get_or c.args.texts.now c.loop-place.place (record { ref_ptr = (0, 0); now = [] })).now) ≡ true =
    ap (bytes_eq c.args.text.now) (sym c.as_bytes.ensures.value) ∙ sym c.if-eq.ensures in
    place_here (bytes_eq c.args.text.now) c.args.texts.now c.loop-place.place _ _ c.loop-place-test.true test c.loop-place.invariant

pub returns : goal.returns
returns c = place_none (bytes_eq c.args.text.now) c.args.texts.now c.loop-place.place _ c.loop-place-test.false c.loop-place.invariant
