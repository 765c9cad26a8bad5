-- A proof that no checks are evaluated if the reply does not refuse a call.
use Rattle.std.proofs.Common.{◌≡◌, ℕ, List, refl, ap}
use Rattle.std.specs.Prelude.{Option, Some, None, option_and_then}
use Rattle.rmm_model.specs.Machine.{Machine}
use Rattle.rmm_trace.specs.declared.word.TraceWord.{TraceWord}
use Rattle.rmm_answers.specs.declared.reply.TraceReply.{TraceReply}
use Rattle.rmm_answers.specs.Answering.{checks_in_round, refused_checks}

pub no_checks : (question : List TraceWord) (reply : TraceReply) (m : Option Machine) → reply.refused ≡ None → option_and_then (refused_checks question reply) m ≡ None
unfolding refused_checks
no_checks question reply None none = refl
no_checks question reply (Some m) none = ap (checks_in_round question m) none
