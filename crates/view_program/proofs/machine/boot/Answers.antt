use Rattle.std.proofs.Common.{◌∙◌, refl}
use Rattle.std.proofs.lemmas.Result.{IfOk-weaker}
use Rattle.view_program.proofs.machine.boot.Goals as goal

pub unwrap-settings-requires : goal.unwrap-settings-requires
unwrap-settings-requires c =
    let most = c.requires.at_most in
    let enough = c.requires.enough in
    c.new.ensures.valid.1 (record {
      some_vmid = enough.vmids;
      few_auxiliaries = most.1.1.0;
      some_history = enough.history;
      short_history = most.1.1.1.0;
      some_build = enough.builds;
      few_builds = most.1.1.1.1.0;
    })

pub boot_by-requires : goal.boot_by-requires
boot_by-requires c = record { some = c.requires.enough.pages; few = c.requires.at_most.0 }

pub returns : goal.returns
returns c =
    let are = rw c.unwrap-settings.ensures at c.new.ensures.value in
    IfOk-weaker c.boot_by.result _ _ (λ host is. is ∙ rw (are.0, are.1, are.2, are.3) refl) c.boot_by.ensures
