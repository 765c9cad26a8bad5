use Rattle.std.proofs.Common.{sym}
use Rattle.rmi_monitor.proofs.Granules.{as_many_pages}
use Rattle.rmi_monitor.proofs.Readings.{pages_there, words_there}
use Rattle.rmi_monitor.proofs.monitor.Monitor.store.Goals as goal

pub returns-clause-size : goal.returns-clause-size
returns-clause-size g c = sym (as_many_pages c.args.self.now _ c.self.view_is c.self.invariant)

pub returns-clause-pages : goal.returns-clause-pages
returns-clause-pages g c = pages_there c.args.self.now _ c.self.view_is c.self.invariant

pub returns-clause-words : goal.returns-clause-words
returns-clause-words g c = words_there c.args.self.now _ c.self.view_is c.self.invariant
