use Rattle.checked_io.proofs.Nexts.{first_of_part}
use Rattle.checked_io.proofs.lines.Lines.take_byte.Goals as goal

pub returns : goal.returns
returns c = first_of_part c.self.inside.buffer c.self.inside.start c.self.inside.end c.args.self.now c.self.view_is c.requires
