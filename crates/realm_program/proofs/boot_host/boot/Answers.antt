use Rattle.std.proofs.Common.{◌≡◌, ◌∙◌, length, refl, sym, vec_len, arith}
use Rattle.std.proofs.lemmas.List.{length-map}
use Rattle.std.proofs.lemmas.Result.{IfOk-weaker}
use Rattle.realm_program.proofs.boot_host.boot.Goals as goal

pub unwrap-settings-requires : goal.unwrap-settings-requires
unwrap-settings-requires g c =
    let plan = c.args.plan.now in
    let builds = plan.builds_in_limits in
    c.new.ensures.valid.1 (record {
      some_vmid = plan.vmids_in_limits;
      few_auxiliaries = plan.aux_in_limits;
      some_history = plan.history_in_limits.0;
      short_history = plan.history_in_limits.1;
      some_build = omega (arith, c.len.ensures, builds);
      few_builds = omega (arith, c.len.ensures, builds);
    })

pub boot_by-requires : goal.boot_by-requires
boot_by-requires g c = let plan = c.args.plan.now in record { some = plan.pages_in_limits.0; few = plan.pages_in_limits.1 }

pub returns : goal.returns
returns g c =
    let plan = c.args.plan.now in
    let few = plan.builds_in_limits in
    let are = rw c.unwrap-settings.ensures at c.new.ensures.value in
    let all : c.unwrap-settings.result.builds ≡ vec_len plan.builds = omega (arith, are.3, c.len.ensures, few) in
    let builds = all ∙ plan.builds.ok.0 ∙ sym (length-map plan.builds.items (λ b. b.items)) in
    IfOk-weaker c.boot_by.result _ _ (λ host is. is ∙ rw (are.0, are.1, are.2, builds) refl) c.boot_by.ensures
