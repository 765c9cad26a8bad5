use Rattle.schedule_graph.proofs.Graphs.{are_runs}
use Rattle.schedule_graph.proofs.law.a_path_is_a_run.Goals as goal

pub returns : goal.returns
returns c = λ plan states layers number at from graph there same. are_runs plan states layers graph number at from there same
