use Rattle.std.proofs.Common.{ap, ◌∙◌}
use Rattle.rmm_trace.specs.declared.word.TraceWord.{TraceWord}
use Rattle.rmm_trace.specs.Access.{number_at}
use Rattle.rmm_trace.proofs.Operands.{operand_here, no_operand}
use Rattle.rmm_trace.proofs.access.operand.Goals as goal

pub returns-in-Some : goal.returns-in-Some
returns-in-Some c =
    let found = c.in-Some.ensures.lookup.3 in
    c.number_at.ensures ∙ ap (λ (w : TraceWord). number_at w c.args.round) (found.1 c.in-Some.word.now)
    ∙ operand_here c.args.words.now c.args.place c.in-Some.word.now c.args.round found.0

pub returns-in-None : goal.returns-in-None
returns-in-None c = no_operand c.args.words.now c.args.place c.args.round c.in-None.ensures.lookup.3
