use Rattle.std.proofs.Common.{◌≡◌, ℕ, List, Some, ap, ◌∙◌}
use Rattle.std.specs.Prelude.{slice_get}
use Rattle.std.proofs.lemmas.Bool.{OnTrue_at, OnTrue_from}
use Rattle.plan_states.specs.Questions.{pages_of_builds}
use Rattle.plan_states.proofs.RunLogs.{read_at}
use Rattle.plan_states.proofs.run_log.has_held.Goals as goal

pub returns-in-Some : goal.returns-in-Some
returns-in-Some c = OnTrue_from c.is_same_held.result (slice_get c.args.all.now c.args.held ≡ Some (pages_of_builds c.args.running.now.host)) (λ is.
    read_at c.args.all.now c.args.held c.in-Some.named.now c.in-Some.ensures.lookup.3.0 c.in-Some.ensures.lookup.1
    ∙ ap (λ (held : List ℕ). Some held) (OnTrue_at is c.is_same_held.ensures ∙ c.pages_of_builds.ensures))
