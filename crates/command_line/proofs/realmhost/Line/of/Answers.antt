use Rattle.std.proofs.Common.{map, string_bytes, subst}
use Rattle.std.proofs.lemmas.Result.{err_from_is_err_and}
use Rattle.command_line.specs.Realmhost.{IsHostSubcommand, realmhost}
use Rattle.command_line.proofs.HostWords.{realmhost_is}
use Rattle.command_line.proofs.realmhost.Line.of.Goals as goal

pub returns-in_err-matched-clause-kinds : goal.returns-in_err-matched-clause-kinds
returns-in_err-matched-clause-kinds c =
    let p = err_from_is_err_and c.from_residual.result c.from_residual.ensures.1 in
    rw (p.1, p.2) (c.in_err-matched.ensures.kinds realmhost c.command.ensures realmhost_is.is_free)

pub line_of-requires : goal.line_of-requires
line_of-requires c =
    let is = c.in_ok-matched.ensures in
    (map string_bytes c.args.words.now, is.kinds realmhost c.command.ensures realmhost_is.is_free, is.ok realmhost c.command.ensures realmhost_is.is_free)

pub returns-clause-kinds : goal.returns-clause-kinds
returns-clause-kinds c = c.in_ok-matched.ensures.kinds realmhost c.command.ensures realmhost_is.is_free

pub returns-clause-ok : goal.returns-clause-ok
returns-clause-ok c =
    subst (λ sub. IsHostSubcommand sub c.line_of.result) (c.in_ok-matched.ensures.ok realmhost c.command.ensures realmhost_is.is_free) c.line_of.ensures
