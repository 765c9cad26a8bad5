-- A proof that an undo right after the operation that it reverses restores the owners of granules and the mappings of
-- realms.
use Rattle.std.proofs.Common.{◌≡◌, ℕ, List, [], ◌∷◌, ◌++◌, Option, Some, None, refl, sym, ap, ◌∙◌, subst}
use Rattle.std.specs.Prelude.{option_and_then}
use Rattle.std.specs.List.{last_or}
use Rattle.std.proofs.lemmas.Option.{same_Some}
use Rattle.realm_model.specs.declared.act.Act.{Act}
use Rattle.realm_model.specs.declared.act.Event.{Event}
use Rattle.realm_model.specs.Machine.{Limits}
use Rattle.realm_model.specs.Act.{reverse_of}
use Rattle.realm_model.specs.History.{after, replay, open_entries, IsLegal}
use Rattle.realm_model.specs.Ownership.{OwnsSame}
use Rattle.realm_model.specs.Step.{step}
use Rattle.realm_model.specs.Undoing.{by}
use Rattle.realm_model.specs.World.{World}
use Rattle.realm_model.proofs.Growth.{grows, open_entries-own}
use Rattle.realm_model.proofs.HistoryParts.{split}
use Rattle.realm_model.proofs.Stack.{pushed_paired}
use Rattle.realm_model.proofs.PairsLeadBack.{pair_leads_back}
use Rattle.host_ledger.specs.View.{HostView, world_of, with_event}
use Rattle.host_ledger.proofs.Worlds.{world_is, world_of-replay}
use Rattle.realm_host.specs.Acting.{IsBack, IsRecorded}
use Rattle.realm_host.specs.PairLaw.{LeadsBack}
use Rattle.realm_host.proofs.Backward.{turn}

pub one_step : (limits : Limits) (event : Event) (w v : World) → after limits (event ∷ []) w ≡ Some v → step limits w event ≡ Some v
unfolding after
one_step limits event w v e = at (step limits w event) e
  where
    at : (o : Option World) → option_and_then (after limits []) o ≡ Some v → o ≡ Some v
    at None e = cc
    at (Some x) e = e

last-push : (acts : List Act) (o : Option Act) (act : Act) → last_or o (acts ++ act ∷ []) ≡ Some act
last-push [] o act = refl
last-push (x ∷ acts) o act = last-push acts (Some x) act

module _ (host : HostView) (legal : IsLegal host.limits host.history) (build : ℕ) (back : Act) (is : IsBack host build back) (new : HostView) (recorded : IsRecorded host build back new) where
  pub leads_back : LeadsBack host build new
  leads_back before act history paired =
      let e : Event = by build act in
      let world : World = world_of host in
      let at_world : replay host.limits (before ++ e ∷ []) ≡ Some world = ap (replay host.limits) (sym history) ∙ world_is host legal in
      let parts = split host.limits before (e ∷ []) world (subst (IsLegal host.limits) history legal) at_world in
      let stepped : step host.limits parts.base e ≡ Some world = one_step host.limits e parts.base world parts.goes_on in
      let opened : last_or None (open_entries build host.history) ≡ Some act =
      ap (λ (h : List Event). last_or None (open_entries build h)) history
      ∙ ap (last_or None) (open_entries-own before e ∙ pushed_paired (open_entries build before) act paired) ∙ last-push (open_entries build before) None act in
      let same : is.newest ≡ act = same_Some _ _ (sym is.newest_is ∙ opened) in
      let reverse : reverse_of act ≡ Some back = ap reverse_of (sym same) ∙ is.back_is in
      let led = pair_leads_back host.limits before build parts.base world act back parts.base_is reverse stepped in
      let grown = grows host.limits host.history (by build back) world led.end legal (world_is host legal) led.stepped (turn host legal build back is) in
      let end_is : world_of new ≡ led.end =
      ap world_of recorded.grows ∙ world_of-replay (with_event host build back) led.end grown.world_is in
      let begin_is : world_of (record host { history = before }) ≡ parts.base = world_of-replay (record host { history = before }) parts.base parts.base_is in
      subst (λ (w : World). OwnsSame w (world_of new)) (sym begin_is) (subst (OwnsSame parts.base) (sym end_is) led.owns)
