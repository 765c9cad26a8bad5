-- A proof that lines which a host accepts as a history are the text of a legal history.
use Rattle.std.proofs.Common.{◌≡◌, ℕ, List, [], ◌∷◌, ◌++◌, refl, sym, ap, ◌∙◌, append_assoc, subst}
use mathlib.Core.List.{append-nil}
use Rattle.realm_model.specs.declared.act.Event.{Event}
use Rattle.realm_model.specs.Machine.{Limits}
use Rattle.realm_model.specs.History.{after, IsLegal}
use Rattle.host_ledger.specs.View.{HostView}
use Rattle.history_text.specs.declared.opening.Opening.{Opening}
use Rattle.view_program.specs.Applied.{host_of_opening, AreTaken, AreTexts, IsHistory, IsLegalText}

legal-nil : (limits : Limits) → IsLegal limits []
unfolding after
legal-nil limits = record { steps = refl; in_turn = tt }

legal_taken : (old : HostView) (lines : List (List ℕ)) (new : HostView) → IsLegal old.limits old.history → AreTaken old lines new → IsLegal new.limits new.history
legal_taken old [] new legal taken = subst (λ (it : HostView). IsLegal it.limits it.history) (sym taken) legal
legal_taken old (line ∷ more) new legal taken =
    legal_taken taken.0 more new (subst (λ (it : HostView). IsLegal it.limits it.history) (sym taken.1.grows) taken.1.can.legal) taken.2

-- the lines are the texts of the events that the history of `new` has beyond that of `old`
record Added (old : HostView) (lines : List (List ℕ)) (new : HostView) : Type 0 where
  events : List Event
  texts : AreTexts lines events
  grows : new.history ≡ old.history ++ events

added : (old : HostView) (lines : List (List ℕ)) (new : HostView) → AreTaken old lines new → Added old lines new
added old [] new taken = record { events = []; texts = tt; grows = ap (λ (it : HostView). it.history) taken ∙ sym (append-nil old.history) }
added old (line ∷ more) new taken =
    let rest = added taken.0 more new taken.2 in
    let event = taken.1.event in
    record {
      events = event ∷ rest.events;
      texts = (taken.1.is_text, rest.texts);
      grows = rest.grows ∙ ap (λ (it : HostView). it.history ++ rest.events) taken.1.grows ∙ append_assoc old.history (event ∷ []) rest.events;
    }

pub legal_text : (lines : List (List ℕ)) (o : Opening) (host : HostView) → IsHistory lines o host → IsLegalText lines host
legal_text lines o host history =
    let all = added (host_of_opening o) history.events host history.taken in
    record {
      first = history.first;
      events = history.events;
      lines_are = history.lines_are;
      texts = subst (AreTexts history.events) (sym all.grows) all.texts;
      legal = legal_taken (host_of_opening o) history.events host (legal-nil (host_of_opening o).limits) history.taken;
    }
