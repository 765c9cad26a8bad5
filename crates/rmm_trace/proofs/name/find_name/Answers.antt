use Rattle.std.proofs.Common.{sym, ◌∙◌}
use Rattle.rmm_trace.specs.Names.{names, commands, other_questions, steps_of_a_guest, settings_and_their_values, fields_of_parameter_pages, words_of_results, states, exit_reasons, outputs, results_of_steps, checks}
use Rattle.rmm_trace.proofs.Skipped.{from_checks, from_results}
use Rattle.rmm_trace.proofs.name.find_name.Goals as goal

pub returns-then-starts_with : goal.returns-then-starts_with
unfolding names commands other_questions steps_of_a_guest settings_and_their_values fields_of_parameter_pages words_of_results states exit_reasons outputs results_of_steps checks
returns-then-starts_with c = c.place_from.ensures ∙ from_checks c.args.text.now (sym c.if-starts_with.ensures.value)

pub returns-then-starts_with-2 : goal.returns-then-starts_with-2
unfolding names commands other_questions steps_of_a_guest settings_and_their_values fields_of_parameter_pages words_of_results states exit_reasons outputs results_of_steps checks
returns-then-starts_with-2 c = c.place_from-then-starts_with-2.ensures ∙ from_results c.args.text.now (sym c.if-starts_with-2.ensures.value)

pub returns : goal.returns
unfolding names commands other_questions steps_of_a_guest settings_and_their_values fields_of_parameter_pages words_of_results states exit_reasons outputs results_of_steps checks
returns c = c.place_from-2.ensures
