use Rattle.std.proofs.Common.{◌≡◌, ◌++◌, refl, sym, ap, ◌∙◌, subst}
use Rattle.rmm_trace.specs.declared.line.RmmTraceLine.{RmmTraceLine}
use Rattle.command_line.specs.declared.rmitrace.TraceSubcommand.{TraceSubcommand}
use Rattle.trace_program.specs.LineText.{answered_text, named_text, trace_line_of}
use Rattle.trace_program.specs.Session.{TakesLine, after_line}
use Rattle.trace_program.proofs.session.Session.take_line.Goals as goal

pub returns-in_ok-answer-in-Answer-clause-ok : goal.returns-in_ok-answer-in-Answer-clause-ok
unfolding after_line
returns-in_ok-answer-in-Answer-clause-ok c =
    subst (λ (it : TraceSubcommand). TakesLine it c.args.source.now c.args.bytes.now c.args.self.now c.answer.new.self c.args.text.now c.answer.new.text) (sym c.in-Answer.is)
    (record {
      session = c.in_ok-answer-in-Answer.ensures.session;
      text = answered_text c.args.bytes.now (trace_line_of c.args.bytes.now) c.answer.new.self.reply;
      is_text = refl;
      appended = c.in_ok-answer-in-Answer.ensures.text;
    })

pub returns-in_ok-push_named-in-Names-clause-ok : goal.returns-in_ok-push_named-in-Names-clause-ok
unfolding after_line
returns-in_ok-push_named-in-Names-clause-ok c =
    subst (λ (it : TraceSubcommand). TakesLine it c.args.source.now c.args.bytes.now c.args.self.now c.args.self.now c.args.text.now c.push_named.new.text) (sym c.in-Names.is)
    (record {
      session = refl;
      text = named_text c.args.bytes.now (trace_line_of c.args.bytes.now);
      is_text = refl;
      appended = c.in_ok-push_named-in-Names.ensures ∙ ap (λ (line : RmmTraceLine). c.args.text.now ++ named_text c.args.bytes.now line) c.parse.ensures.line;
    })

pub returns-in_ok-explain-in-Why-clause-ok : goal.returns-in_ok-explain-in-Why-clause-ok
unfolding after_line
returns-in_ok-explain-in-Why-clause-ok c =
    subst (λ (it : TraceSubcommand). TakesLine it c.args.source.now c.args.bytes.now c.args.self.now c.explain.new.self c.args.text.now c.explain.new.text) (sym c.in-Why.is)
    (record {
      session = c.in_ok-explain-in-Why.ensures.session;
      text = c.in_ok-explain-in-Why.ensures.text.0;
      is_text = c.in_ok-explain-in-Why.ensures.text.1;
      appended = c.in_ok-explain-in-Why.ensures.text.2;
    })

pub returns-in_ok-check-in-Check-clause-ok : goal.returns-in_ok-check-in-Check-clause-ok
unfolding after_line
returns-in_ok-check-in-Check-clause-ok c =
    subst (λ (it : TraceSubcommand). TakesLine it c.args.source.now c.args.bytes.now c.args.self.now c.check.new.self c.args.text.now c.check.new.text) (sym c.in-Check.is)
    (record {
      session = c.in_ok-check-in-Check.ensures.session;
      text = c.in_ok-check-in-Check.ensures.text.0;
      is_text = c.in_ok-check-in-Check.ensures.text.1;
      appended = c.in_ok-check-in-Check.ensures.text.2;
    })
