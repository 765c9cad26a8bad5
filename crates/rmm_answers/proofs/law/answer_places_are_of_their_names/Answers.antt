use Rattle.std.proofs.Common.{refl}
use Rattle.rmm_trace.specs.Names.{names, commands, other_questions, steps_of_a_guest, settings_and_their_values, fields_of_parameter_pages, words_of_results, states, exit_reasons, outputs, results_of_steps, checks}
use Rattle.rmm_answers.specs.Places.{answer_places, has_name, are_answer_places_named}
use Rattle.rmm_answers.proofs.law.answer_places_are_of_their_names.Goals as goal

pub returns : goal.returns
unfolding names commands other_questions steps_of_a_guest settings_and_their_values fields_of_parameter_pages words_of_results states exit_reasons outputs results_of_steps checks answer_places has_name are_answer_places_named
returns c = refl
