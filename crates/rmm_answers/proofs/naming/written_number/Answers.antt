use Rattle.std.proofs.Common.{ap, ◌∙◌}
use Rattle.rmm_trace.specs.declared.word.TraceWord.{TraceWord}
use Rattle.rmm_trace.specs.Compare.{atom_number}
use Rattle.rmm_answers.proofs.Rows.{number_here, no_number}
use Rattle.rmm_answers.proofs.naming.written_number.Goals as goal

pub returns-in-Some : goal.returns-in-Some
returns-in-Some c =
    let found = c.in-Some.ensures.lookup.3 in
    c.atom_number.ensures ∙ ap (λ (w : TraceWord). atom_number w.value) (found.1 c.in-Some.word.now)
    ∙ number_here c.args.words.now c.args.k c.in-Some.word.now found.0

pub returns-in-None : goal.returns-in-None
returns-in-None c = no_number c.args.words.now c.args.k c.in-None.ensures.lookup.3
