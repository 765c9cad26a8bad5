-- A proof that the granule which a Peek reads is not free, since the command's build leases the granule.
use Rattle.std.proofs.Common.{◌≡◌, ℕ, List, length, get_or, Some, refl, sym, ap, ◌∙◌, subst, arith}
use Rattle.std.specs.Prelude.{slice_get}
use Rattle.std.specs.List.{All}
use Rattle.std.proofs.lemmas.List.Elements.{All-get_or}
use Rattle.rmi_monitor.specs.View.{MonitorView, IsTaken}
use Rattle.rmi_monitor.proofs.Ready.{all_taken}
use Rattle.host_commands.specs.declared.cmd.Cmd.{Cmd}
use Rattle.host_commands.specs.declared.cmd.Cmd.TheVariants.{Peek}
use Rattle.host_commands.specs.Needs.{operands}
use Rattle.host_ledger.specs.View.{HostView, world_of}
use Rattle.realm_host.specs.Host.{IsWhole}

one_operand : (page offset : ℕ) → length (operands (Peek page offset)) ≡ 1
unfolding operands
one_operand page offset = refl

module _ (ledger : HostView) (monitor : MonitorView) (whole : IsWhole ledger monitor) (now : HostView) (view_is : ledger ≡ now) (build : ℕ) where
  -- the granule that a Peek reads is in the machine, and is not free, if the build leases the command's granules
  pub first_taken : (cmd : Cmd) (granules : List ℕ) → All (λ g. slice_get (world_of now).leases g ≡ Some (Some build)) granules → length granules ≡ length (operands cmd)
      → (page offset : ℕ) → cmd ≡ Peek page offset → (granule : ℕ) → granule ≡ get_or granules 0 granule → IsTaken monitor granule
  first_taken cmd granules leased long page offset is granule read =
      let one : length granules ≡ 1 = long ∙ ap (λ (c : Cmd). length (operands c)) is ∙ one_operand page offset in
      let taken : All (IsTaken monitor) granules =
      all_taken ledger.limits ledger.history (world_of ledger) monitor whole.mirror build granules
      (subst (λ (h : HostView). All (λ g. slice_get (world_of h).leases g ≡ Some (Some build)) granules) (sym view_is) leased) in
      subst (IsTaken monitor) (sym read) (All-get_or (IsTaken monitor) granules 0 granule (omega (arith, one)) taken)
