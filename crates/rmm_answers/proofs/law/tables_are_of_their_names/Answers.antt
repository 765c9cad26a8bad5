use Rattle.std.proofs.Common.{refl}
use Rattle.rmm_trace.specs.Names.{names, commands, other_questions, steps_of_a_guest, settings_and_their_values, fields_of_parameter_pages, words_of_results, states, exit_reasons, outputs, results_of_steps, checks}
use Rattle.rmm_answers.specs.Places.{has_name, command_inputs, is_form_of, is_no_operand, are_forms, are_operands, are_operands_named, command_outputs, are_named, are_outputs, are_outputs_named, realm_fields, rec_fields, run_fields, are_fields, are_fields_named, step_names, are_steps_named}
use Rattle.rmm_answers.proofs.law.tables_are_of_their_names.Goals as goal

pub returns : goal.returns
unfolding names commands other_questions steps_of_a_guest settings_and_their_values fields_of_parameter_pages words_of_results states exit_reasons outputs results_of_steps checks has_name command_inputs is_form_of is_no_operand are_forms are_operands are_operands_named command_outputs are_named are_outputs are_outputs_named realm_fields rec_fields run_fields are_fields are_fields_named step_names are_steps_named
returns c = record { operands = refl; outputs = refl; fields = refl; num_aux = refl; steps = refl }
