-- A proof that in a legal history a build without open operations does not affect the printed map of pages and realms.
use Rattle.std.proofs.Common.{◌≡◌, ℕ, List, [], Some, inl, inr, sym, ap, ◌∙◌}
use Rattle.std.specs.Prelude.{unwrap_or}
use Rattle.std.specs.List.{flat_map}
use Rattle.std.proofs.lemmas.Bool.Decides.{eqb_tells}
use Rattle.realm_model.specs.World.{opening}
use Rattle.realm_model.specs.declared.act.Event.{Event}
use Rattle.realm_model.specs.History.{erase, open_entries, pages_held, unmatched, replay, IsLegal}
use Rattle.realm_model.proofs.Emptied.{emptied}
use Rattle.realm_model.proofs.LeftOut.{acts_of-erase, acts_of-erased}
use Rattle.host_ledger.specs.View.{HostView, world_of, open_of, pages_of_build}
use Rattle.host_ledger.proofs.Worlds.{world_is}
use Rattle.realm_host.specs.Recorded.{fresh_like}
use Rattle.plan_replay.specs.Run.{map_text}
use Rattle.plan_replay.proofs.Maps.{map_same}
use Rattle.realm_program.specs.Replay.{IsMapWithout}

-- leaving out a build without open operations changes no build's open operations
open_same : (build c : ℕ) (history : List Event) → open_entries build history ≡ [] → open_entries c (erase build history) ≡ open_entries c history
unfolding open_entries
open_same build c history none = elim (eqb_tells c build) as (λ _. open_entries c (erase build history) ≡ open_entries c history) [
  | inl same ↦ rw same.1 (ap unmatched (acts_of-erased build history) ∙ sym none)
  | inr apart ↦ ap unmatched (acts_of-erase build c apart.1 history)
]

module _ (host new : HostView) (build : ℕ) (legal : IsLegal host.limits host.history) (none : open_of host build ≡ [])
    (new_is : new ≡ record (fresh_like host) { history = erase build host.history }) where
  pages_same : (c : ℕ) → pages_of_build new c ≡ pages_of_build host c
  pages_same c = rw new_is (ap (flat_map pages_held) (open_same build c host.history none))

  world_same : world_of new ≡ world_of host
  unfolding world_of
  world_same =
      let there : replay host.limits (erase build host.history) ≡ Some (world_of host) = emptied host.limits build host.history (world_of host) legal (world_is host legal) none in
      rw new_is (ap (λ w. unwrap_or w (opening host.limits)) there)

pub unseen :
    (host : HostView) (build : ℕ) (text : List ℕ) → IsLegal host.limits host.history → open_of host build ≡ []
    → IsMapWithout host build text → text ≡ map_text host
unseen host build text legal none is =
    is.whole ∙ map_same host is.fresh (world_same host is.fresh build legal none is.without.new_is) (pages_same host is.fresh build legal none is.without.new_is)
