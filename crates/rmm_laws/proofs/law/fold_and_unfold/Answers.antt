use Rattle.rmm_laws.proofs.Fold.{created_and_folded}
use Rattle.rmm_laws.proofs.FoldMemory.{memory_created, memory_folded}
use Rattle.rmm_laws.proofs.Unfold.{folded_and_created, folded_only}
use Rattle.rmm_laws.proofs.law.fold_and_unfold.Goals as goal

pub returns-clause-created : goal.returns-clause-created
returns-clause-created c = created_and_folded

pub returns-clause-folded : goal.returns-clause-folded
returns-clause-folded c = folded_and_created

pub returns-clause-only : goal.returns-clause-only
returns-clause-only c = folded_only

pub returns-clause-memory_created : goal.returns-clause-memory_created
returns-clause-memory_created c = memory_created

pub returns-clause-memory_folded : goal.returns-clause-memory_folded
returns-clause-memory_folded c = memory_folded
