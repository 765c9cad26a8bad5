-- Proofs that a freshly booted host accepts each event of a history from which one build is left out.
use Rattle.std.proofs.Common.{◌≡◌, ◌≢◌, ℕ, ◌+◌, ◌<◌, ◌≤◌, false, not, List, [], ◌∷◌, ◌++◌, length, take, drop, get_or, Some, refl, sym, ap, ◌∙◌, subst, ◌&&◌, set, replicate, Option, None}
use Rattle.std.specs.Prelude.{option_map, ◌==◌, nat_lt}
use Rattle.std.proofs.lemmas.Bool.{ne_eqb}
use Rattle.std.proofs.lemmas.List.{append-nil, append_assoc, take_all, take_more, take-append-drop, set-get_or}
use Rattle.std.proofs.lemmas.List.Elements.{filter-append}
use Rattle.realm_model.specs.declared.act.Event.{Event}
use Rattle.realm_model.specs.Machine.{Limits}
use Rattle.realm_model.specs.World.{World, without}
use Rattle.realm_model.specs.History.{open_entries, erase, after, replay, IsLegal}
use Rattle.realm_model.specs.LeftOut.{IsAccepted, AllAccepted}
use Rattle.realm_model.proofs.Accepted.{what_is_left_is_accepted}
use Rattle.realm_model.proofs.Growth.{grows}
use Rattle.realm_model.proofs.LeftOut.{noninterference, erase_push}
use Rattle.host_ledger.specs.declared.mark.Mark.{Mark}
use Rattle.host_ledger.specs.Marks.{mark_while}
use Rattle.host_ledger.specs.View.{HostView, world_of, with_event}
use Rattle.host_ledger.specs.Kept.{HasRoom}
use Rattle.host_ledger.proofs.Worlds.{world_is, world_of-replay}
use Rattle.realm_host.specs.Recorded.{CanApply, fresh_like, IsWithout}
use Rattle.granule_addr.proofs.Same.{same_each}

-- ---- each event of a list is accepted after those before it

accepted_at : (limits : Limits) (capacity most : ℕ) (before xs : List Event) (event : Event) (ys : List Event) → AllAccepted limits capacity most before (xs ++ event ∷ ys)
    → IsAccepted limits capacity most (before ++ xs) event
accepted_at limits capacity most before [] event ys all =
    subst (λ es. IsAccepted limits capacity most es event) (sym (append-nil before)) all.0
accepted_at limits capacity most before (x ∷ xs) event ys all =
    subst (λ es. IsAccepted limits capacity most es event) (append_assoc before (x ∷ []) xs) (accepted_at limits capacity most (before ++ x ∷ []) xs event ys all.1)

erase-append : (build : ℕ) (xs ys : List Event) → erase build (xs ++ ys) ≡ erase build xs ++ erase build ys
erase-append build xs ys = filter-append (λ (x : Event). not (x.build == build)) xs ys

-- ---- so far

-- `fresh` is a freshly booted host but for its history, which has the first `count` events of `host` without those of
-- the build, and is legal
pub record IsSoFar (host : HostView) (build count : ℕ) (fresh : HostView) : Type 0 where
  pub fresh_is : fresh ≡ record (fresh_like host) { history = erase build (take count host.history) }
  pub legal : IsLegal fresh.limits fresh.history

pub nothing_yet : (host : HostView) (build : ℕ) (fresh : HostView) → fresh ≡ fresh_like host → IsSoFar host build 0 fresh
unfolding after
nothing_yet host build fresh is = subst (IsSoFar host build 0) (sym is) (record { fresh_is = refl; legal = record { steps = refl; in_turn = tt } })

same_thing : {X : Type 0} (n place : ℕ) (x y : X) → y ≡ x → set (replicate n x) place y ≡ replicate n x
same_thing n place x y same = ap (set (replicate n x) place) (same ∙ sym (same_each n place x)) ∙ set-get_or (replicate n x) place x

module _ (host : HostView) (legal : IsLegal host.limits host.history) (room : (b : ℕ) → HasRoom host b) (build : ℕ) where
  all_accepted : AllAccepted host.limits host.capacity 512 [] (erase build host.history)
  all_accepted =
      what_is_left_is_accepted host.limits host.history (world_of host) build legal (world_is host legal) host.capacity 512
      (record { used = λ other apart. (room other).used; few_open = λ other n apart. (room other).few_open n })

  module _ (count : ℕ) (event : Event) (inside : count < length host.history) (event_is : event ≡ get_or host.history count event) (fresh : HostView) (so_far : IsSoFar host build count fresh) where
    more : take (count + 1) host.history ≡ take count host.history ++ event ∷ []
    more = take_more host.history count event inside ∙ ap (λ (e : Event). take count host.history ++ e ∷ []) (sym event_is)

    module _ (apart : event.build ≢ build) where
      erased_more : erase build (take (count + 1) host.history) ≡ erase build (take count host.history) ++ event ∷ []
      erased_more = ap (erase build) more ∙ erase_push build (take count host.history) event false (ne_eqb event.build build apart)

      split_at : erase build host.history ≡ erase build (take count host.history) ++ event ∷ erase build (drop (count + 1) host.history)
      split_at =
          ap (erase build) (sym (take-append-drop (count + 1) host.history))
          ∙ erase-append build (take (count + 1) host.history) (drop (count + 1) host.history)
          ∙ ap (λ es. es ++ erase build (drop (count + 1) host.history)) erased_more
          ∙ append_assoc (erase build (take count host.history)) (event ∷ []) (erase build (drop (count + 1) host.history))

      accepted : IsAccepted host.limits host.capacity 512 (erase build (take count host.history)) event
      accepted =
          accepted_at host.limits host.capacity 512 [] (erase build (take count host.history)) event (erase build (drop (count + 1) host.history))
          (subst (AllAccepted host.limits host.capacity 512 []) split_at all_accepted)

      accepted_here : IsAccepted fresh.limits fresh.capacity 512 fresh.history event
      accepted_here = subst (λ (h : HostView). IsAccepted h.limits h.capacity 512 h.history event) (sym so_far.fresh_is) accepted

      pub can_apply : CanApply fresh event
      can_apply =
          let at : world_of fresh ≡ accepted_here.world = world_of-replay fresh accepted_here.world accepted_here.world_is in
          record {
            legal = (grows fresh.limits fresh.history event accepted_here.world accepted_here.next so_far.legal accepted_here.world_is accepted_here.stepped accepted_here.in_turn).legal;
            room = record {
              room =
                  λ some. subst (λ (w : World). Rattle.realm_model.specs.Room.used_room event.build fresh.history w + Rattle.realm_model.specs.Room.room_taken
                  event.act ≤ fresh.capacity) (sym at) accepted_here.room;
              few_open = accepted_here.few_open;
            };
          }

      pub goes_on : (new : HostView) → new ≡ with_event fresh event.build event.act → IsSoFar host build (count + 1) new
      goes_on new is = subst (IsSoFar host build (count + 1)) (sym is) (record {
        fresh_is = ap (λ (h : HostView). with_event h event.build event.act) so_far.fresh_is ∙ (λ i. record (fresh_like host) {
          history = sym erased_more i;
          aborting = same_thing host.limits.builds event.build false _ (ap (λ t. t && nat_lt 0 opened) (same_each host.limits.builds event.build false)) i;
          marks = same_thing host.limits.builds event.build None _ (ap (mark_while opened) (same_each host.limits.builds event.build no_mark)) i;
        });
        legal = can_apply.legal;
      })
        where
          opened : ℕ
          opened = length (open_entries event.build (erase build (take count host.history) ++ event ∷ []))

          no_mark : Option Mark
          no_mark = None

  pub is_without : (count : ℕ) → length host.history ≤ count → (fresh : HostView) → IsSoFar host build count fresh → IsWithout host build fresh
  is_without count past fresh so_far =
      let is : fresh ≡ record (fresh_like host) { history = erase build host.history } =
      so_far.fresh_is ∙ ap (λ es. record (fresh_like host) { history = erase build es }) (take_all count host.history past) in
      let none = noninterference host.limits host.history build legal in
      let at : replay fresh.limits fresh.history ≡ Some (without (world_of host) build) =
      ap (λ (h : HostView). replay h.limits h.history) is ∙ none.1 ∙ ap (option_map (λ (w : World). without w build)) (world_is host legal) in
      record { new_is = is; world = world_of-replay fresh (without (world_of host) build) at }
