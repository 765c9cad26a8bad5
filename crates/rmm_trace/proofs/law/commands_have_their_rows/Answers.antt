use Rattle.std.proofs.Common.{refl}
use Rattle.rmm_trace.specs.Names.{names, commands, other_questions, steps_of_a_guest, settings_and_their_values, fields_of_parameter_pages, words_of_results, states, exit_reasons, outputs, results_of_steps, checks}
use Rattle.rmm_trace.specs.Commands.{command_rows, has_operands, are_commands, are_commands_named}
use Rattle.rmm_trace.proofs.law.commands_have_their_rows.Goals as goal

pub returns : goal.returns
unfolding names commands other_questions steps_of_a_guest settings_and_their_values fields_of_parameter_pages words_of_results states exit_reasons outputs results_of_steps checks command_rows has_operands are_commands are_commands_named
returns c = refl
