-- A proof that the host's own checks of a command, appended part by part, are `needs_checks`, the list of them all.
use Rattle.std.proofs.Common.{◌≡◌, ℕ, List, [], ◌∷◌, ◌++◌, map, ap, ◌∙◌}
use Rattle.host_ledger.specs.View.{HostView}
use Rattle.host_commands.specs.declared.cmd.Cmd.{Cmd}
use Rattle.host_commands.specs.declared.needs.Needs.{Needs}
use Rattle.host_commands.specs.Needs.{needs_of}
use Rattle.explain.specs.OfBuild.{checks_of_build, checks_of_order, page_there, checks_of_realm, checks_of_journal, room_check, checks_of_vmid, needs_checks}
use Rattle.explain.specs.declared.check.Check.{Check}
use Rattle.explain.proofs.Lists.{before}

pub needs_added :
    (host : HostView) (build : ℕ) (cmd : Cmd) (needs : Needs) (pages : List ℕ) (old l1 l2 l3 l4 l5 l6 new : List Check)
    → needs ≡ needs_of cmd
    → l1 ≡ old ++ checks_of_build host build
    → l2 ≡ l1 ++ checks_of_order cmd
    → l3 ≡ l2 ++ map (page_there host build) pages
    → l4 ≡ l3 ++ checks_of_realm host build needs.realm
    → l5 ≡ l4 ++ checks_of_journal host build needs.paired
    → l6 ≡ l5 ++ room_check host build needs.room ∷ []
    → new ≡ l6 ++ checks_of_vmid host needs.vmid
    → new ≡ old ++ needs_checks host build cmd pages
unfolding needs_checks
needs_added host build cmd needs pages old l1 l2 l3 l4 l5 l6 new is a1 a2 a3 a4 a5 a6 a7 =
    before old _ _ l1 new a1 (before l1 _ _ l2 new a2 (before l2 _ _ l3 new a3 (before l3 _ _ l4 new a4 (before l4 _ _ l5 new a5 (before l5 _ _ l6 new a6 a7)))))
    ∙ ap (λ (n : Needs). old ++ (checks_of_build host build ++ (checks_of_order cmd ++ (map (page_there host build) pages
    ++ (checks_of_realm host build n.realm ++ (checks_of_journal host build n.paired ++ (room_check host build n.room ∷ checks_of_vmid host n.vmid))))))) is
