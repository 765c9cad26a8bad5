use Rattle.schedule_graph.proofs.Alone.{same_refusal, same_act}
use Rattle.schedule_graph.proofs.law.a_build_decides_its_own_calls.Goals as goal

pub returns-clause-refusal : goal.returns-clause-refusal
returns-clause-refusal c = λ build host twin call same own. same_refusal build host twin same call own

pub returns-clause-operation : goal.returns-clause-operation
returns-clause-operation c = λ build host twin cmd same own. same_act build host twin same cmd own
