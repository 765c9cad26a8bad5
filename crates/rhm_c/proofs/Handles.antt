-- Proofs that a C call on an open handle is a call on the handle's host, and that a closed handle stays closed. The
-- host's granules keep their addresses.
use Rattle.std.proofs.Common.{◌≡◌, Option, Some, None, sym, subst}
use Rattle.history_calls.specs.Frame.{Place}
use Rattle.host_ledger.specs.View.{HostView}
use Rattle.rhm_c.specs.Answer.{closed, IsOnHandle}
use Rattle.rhm_c.specs.declared.answer.CallAnswer.{CallAnswer}
use Rattle.rhm_c.specs.declared.placed_host.PlacedHost.{PlacedHost}

-- `IsOnHandle` holds of a call on an open handle if `Is` holds of the handle's host, and the granules keep their
-- addresses
pub of_open : (Is : Place → HostView → CallAnswer → HostView → Type 0) (old new : Option PlacedHost) (given answer : CallAnswer) (x y : PlacedHost)
    → old ≡ Some x → new ≡ Some y → given ≡ answer → Is x.frame x.host answer y.host → y.frame ≡ x.frame → IsOnHandle Is old given new
of_open Is old new given answer x y was now same is stays =
    subst (λ (o : Option PlacedHost). IsOnHandle Is o given new) (sym was)
    (subst (λ (o : Option PlacedHost). IsOnHandle Is (Some x) given o) (sym now)
    (subst (λ (g : CallAnswer). Is x.frame x.host g y.host) (sym same) is, stays))

-- `IsOnHandle` holds of a call on a closed handle if the handle stays closed and the answer is `closed`
pub of_closed : (Is : Place → HostView → CallAnswer → HostView → Type 0) (old new : Option PlacedHost) (given : CallAnswer)
    → old ≡ None → new ≡ None → given ≡ closed → IsOnHandle Is old given new
of_closed Is old new given was now is =
    subst (λ (o : Option PlacedHost). IsOnHandle Is o given new) (sym was)
    (subst (λ (o : Option PlacedHost). IsOnHandle Is None given o) (sym now) is)
