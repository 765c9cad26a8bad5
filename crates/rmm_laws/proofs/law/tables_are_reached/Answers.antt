use Rattle.rmm_laws.proofs.Reaching.{serves_some, reached}
use Rattle.rmm_laws.proofs.law.tables_are_reached.Goals as goal

pub returns-clause-some : goal.returns-clause-some
returns-clause-some c = λ m rd table realm proper is there. serves_some m proper.linked rd realm is table there

pub returns-clause-walks : goal.returns-clause-walks
returns-clause-walks c = λ m realm levels table first ipa serves most low high. reached m realm ipa levels table first serves most low high
