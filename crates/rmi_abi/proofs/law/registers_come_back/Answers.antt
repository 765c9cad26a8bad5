use Rattle.rmi_abi.proofs.Decoding.{decoded}
use Rattle.rmi_abi.proofs.law.registers_come_back.Goals as goal

pub returns : goal.returns
returns c = decoded
