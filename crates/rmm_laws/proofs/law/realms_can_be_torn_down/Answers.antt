use Rattle.rmm_laws.proofs.TornDown.{torn_down}
use Rattle.rmm_laws.proofs.law.realms_can_be_torn_down.Goals as goal

pub returns : goal.returns
returns c = torn_down
