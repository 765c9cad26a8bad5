use Rattle.std.proofs.Common.{◌≤◌, drop, length, sym, ap, ◌∙◌, subst}
use Rattle.std.specs.List.{list_any}
use Rattle.realm_model.specs.Running.{is_running}
use Rattle.realm_model.specs.World.{realm_of}
use Rattle.host_ledger.specs.View.{world_of, open_of}
use Rattle.realm_host.specs.Abort.{IsDown}
use Rattle.realm_host.proofs.Calls.{enough, above_is, open_way, back_at}
use Rattle.realm_host.proofs.host.Host.rollback_to.Goals as goal

pub undo_down_to-requires-clause-there : goal.undo_down_to-requires-clause-there
undo_down_to-requires-clause-there g c = (open_way c.args.self.now c.args.build c.args.mark c.in_ok-count.count c.in_ok-count.ensures.value).there

pub undo_down_to-requires-clause-enough : goal.undo_down_to-requires-clause-enough
undo_down_to-requires-clause-enough g c =
    subst (λ n. n ≤ length (open_of c.args.self.now c.args.build)) (sym c.length.ensures) (enough c.args.self.now c.args.build c.args.mark c.in_ok-count.ensures.stands)

pub undo_down_to-requires-clause-rest : goal.undo_down_to-requires-clause-rest
undo_down_to-requires-clause-rest g c =
    ap (λ n. list_any (is_running (realm_of c.args.build (world_of c.args.self.now))) (drop n (open_of c.args.self.now c.args.build))) c.length.ensures
    ∙ ap (list_any (is_running (realm_of c.args.build (world_of c.args.self.now)))) (sym (above_is c.args.self.now c.args.build c.args.mark c.in_ok-count.ensures.stands))
    ∙ (open_way c.args.self.now c.args.build c.args.mark c.in_ok-count.count c.in_ok-count.ensures.value).rests

pub returns : goal.returns
returns g c =
    let way = open_way c.args.self.now c.args.build c.args.mark c.in_ok-count.count c.in_ok-count.ensures.value in (
      way.none,
      back_at c.args.self.now c.args.build c.args.mark c.in_ok-count.count c.in_ok-count.ensures.value c.in_ok-count.ensures.stands c.in_ok-count.ensures.leads_back
          c.undo_down_to.new.self (subst (λ n. IsDown c.args.self.now c.args.build n c.undo_down_to.new.self) c.length.ensures c.undo_down_to.ensures),
    )
