use Rattle.std.proofs.Common.{sym, ◌∙◌}
use Rattle.std.proofs.lemmas.Bool.{ne_eqb}
use Rattle.std.proofs.lemmas.Option.{same_Some}
use Rattle.explain.proofs.of_command.above_of.Goals as goal

pub returns-then-level-eq3 : goal.returns-then-level-eq3
returns-then-level-eq3 c = rw c.if-level-eq3.true (same_Some _ _ (sym c.unwrap.ensures ∙ c.new.ensures))

pub returns-else-level-eq3 : goal.returns-else-level-eq3
returns-else-level-eq3 c = rw (ne_eqb c.args.level 3 c.if-level-eq3.false) c.start.ensures
