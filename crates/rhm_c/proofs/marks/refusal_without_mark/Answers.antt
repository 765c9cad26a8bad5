use Rattle.std.proofs.Common.{◌≡◌, Option, Some, None, Result, Ok, Err, refl, ap, ◌∙◌}
use Rattle.std.specs.Prelude.{unwrap_or}
use Rattle.host_commands.specs.Checks.{build_checks, first_that_holds}
use Rattle.host_commands.specs.declared.refusal.Refusal.{Refusal}
use Rattle.host_commands.specs.declared.refusal.Refusal.TheVariants.{NothingToUndo}
use Rattle.host_ledger.specs.Summary.{summary_of}
use Rattle.host_ledger.specs.View.{HostView}
use Rattle.rhm_c.specs.Undoing.{refusal_without_mark}
use Rattle.rhm_c.proofs.marks.refusal_without_mark.Goals as goal

-- the result of a sequence of checks: the refusal of the first failed check, if there is one, and otherwise success
abbrev result_of : Option Refusal → Result (Unit {0}) Refusal
result_of o = elim o [ Some refusal ↦ Err refusal | None ↦ Ok tt ]

passed : (o : Option Refusal) → Ok tt ≡ result_of o → NothingToUndo ≡ unwrap_or o NothingToUndo
passed None e = refl
passed (Some refusal) e = cc

stopped : (o : Option Refusal) (refusal : Refusal) → Err refusal ≡ result_of o
    → refusal ≡ unwrap_or o NothingToUndo
stopped None refusal e = cc
stopped (Some other) refusal e = cc

pub returns-in-Ok : goal.returns-in-Ok
returns-in-Ok c =
    passed (first_that_holds (build_checks (summary_of c.ledger.result.now) c.args.build)) c.in-Ok.ensures
    ∙ ap (λ (h : HostView). refusal_without_mark h c.args.build) c.ledger.ensures

pub returns-in-Err : goal.returns-in-Err
returns-in-Err c =
    stopped (first_that_holds (build_checks (summary_of c.ledger.result.now) c.args.build)) c.in-Err.refusal c.in-Err.ensures
    ∙ ap (λ (h : HostView). refusal_without_mark h c.args.build) c.ledger.ensures
