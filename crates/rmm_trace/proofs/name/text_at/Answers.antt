use Rattle.std.proofs.Common.{ℕ, List, Bor, ap, ◌∙◌}
use Rattle.rmm_trace.proofs.Places.{text_here, no_text_here}
use Rattle.rmm_trace.proofs.name.text_at.Goals as goal

pub returns-in-Some : goal.returns-in-Some
returns-in-Some c =
    let found = c.in-Some.ensures.lookup.3 in
    ap (λ (t : Bor (List ℕ)). t.now) (found.1 c.in-Some.text.now) ∙ text_here c.args.texts.now c.args.place c.in-Some.text.now found.0

pub returns-in-None : goal.returns-in-None
returns-in-None c = no_text_here c.args.texts.now c.args.place c.in-None.ensures.lookup.3
