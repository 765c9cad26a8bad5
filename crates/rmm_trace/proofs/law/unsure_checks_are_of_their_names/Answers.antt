use Rattle.std.proofs.Common.{refl}
use Rattle.rmm_trace.specs.Names.{names, commands, other_questions, steps_of_a_guest, settings_and_their_values, fields_of_parameter_pages, words_of_results, states, exit_reasons, outputs, results_of_steps, checks}
use Rattle.rmm_trace.specs.Unsure.{unsure_checks, are_pairs, are_unsure_named}
use Rattle.rmm_trace.proofs.law.unsure_checks_are_of_their_names.Goals as goal

pub returns : goal.returns
unfolding names commands other_questions steps_of_a_guest settings_and_their_values fields_of_parameter_pages words_of_results states exit_reasons outputs results_of_steps checks unsure_checks are_pairs are_unsure_named
returns c = refl
