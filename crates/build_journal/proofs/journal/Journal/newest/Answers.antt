use Rattle.std.proofs.Common.{◌∙◌, ap, List, None}
use Rattle.std.specs.List.{last_or}
use Rattle.realm_model.specs.declared.act.Act.{Act}
use Rattle.build_journal.proofs.Ends.{slice_get-last}
use Rattle.build_journal.proofs.journal.Journal.newest.Goals as goal

pub returns-clause-value : goal.returns-clause-value
returns-clause-value c =
    c.last.ensures.value ∙ slice_get-last c.deref.result.now
    ∙ ap (last_or None) c.deref.ensures.value ∙ ap (λ (acts : List Act). last_or None acts) c.self.view_is
