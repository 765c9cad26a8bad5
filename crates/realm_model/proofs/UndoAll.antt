-- The proof that a build can undo all its open operations, the newest first, unless one of them created a REC that
-- runs.
use Rattle.std.proofs.Common.{◌≡◌, ℕ, suc, true, false, cond, not, List, [], ◌∷◌, ◌++◌, length, map, reverse, Some, None, refl, sym, ap, ◌∙◌, subst}
use Rattle.std.specs.Prelude.{◌==◌, option_map}
use Rattle.std.specs.List.{last_or, list_any}
use Rattle.std.proofs.lemmas.Bool.{eq-eqb}
use Rattle.std.proofs.lemmas.Option.{same_Some}
use Rattle.std.proofs.lemmas.List.{append-nil, append_assoc, reverse-reverse, length-reverse}
use Rattle.std.proofs.lemmas.List.Elements.{filter-append}
use Rattle.realm_model.specs.declared.act.Act.{Act}
use Rattle.realm_model.specs.declared.act.Act.TheVariants.{Take, Delegate, Realm, Rtt, Data, Unknown, Rec}
use Rattle.realm_model.specs.declared.act.Event.{Event}
use Rattle.realm_model.specs.Machine.{Limits}
use Rattle.realm_model.specs.Act.{reverse_of, is_reverse, is_paired}
use Rattle.realm_model.specs.World.{World, realm_of, without, opening}
use Rattle.realm_model.specs.History.{erase, open_entries, replay, IsLegal}
use Rattle.realm_model.specs.Running.{is_running, IsAtRest}
use Rattle.realm_model.specs.Undoing.{reverses, undoing, IsUndone, IsUndoneNext, by}
use Rattle.realm_model.proofs.SoundParts.{IsSound}
use Rattle.realm_model.proofs.Booleans.{some_is, or_parts}
use Rattle.realm_model.proofs.Lists.{front, front_last, last_push}
use Rattle.realm_model.proofs.Rests.{rest_is_of_all}
use Rattle.realm_model.proofs.AtRest.{none_run, none_run_still}
use Rattle.realm_model.proofs.OwnLaws.{laws, SameFor}
use Rattle.realm_model.proofs.Emptied.{emptied}
use Rattle.realm_model.proofs.Progress.{undoable}
use Rattle.realm_model.proofs.Stack.{pushed_back}
use Rattle.realm_model.proofs.Chain.{kept, Kept, Chain, kept_back, on_top, newest}
use Rattle.realm_model.proofs.Growth.{open_entries-own}
use Rattle.realm_model.proofs.LeftOut.{noninterference}
use Rattle.realm_model.proofs.FreeSets.{free_set-without, part_of-without}
use Rattle.realm_model.proofs.ZeroPages.{kept_reached}

-- the operation is a reverse operation, and has no reverse itself
abbrev Back : Act → Type 0
Back r = (is_paired r ≡ false) × (is_reverse r ≡ true)

back_is : (act r : Act) → reverse_of act ≡ Some r → Back r
unfolding reverse_of is_reverse
back_is (Take order first) r e = subst Back (same_Some _ _ e) (refl, refl)
back_is (Delegate g) r e = subst Back (same_Some _ _ e) (refl, refl)
back_is (Realm rd root v) r e = subst Back (same_Some _ _ e) (refl, refl)
back_is (Rtt g ipa level) r e = subst Back (same_Some _ _ e) (refl, refl)
back_is (Data g ipa source) r e = subst Back (same_Some _ _ e) (refl, refl)
back_is (Unknown g ipa) r e = subst Back (same_Some _ _ e) (refl, refl)
back_is (Rec g aux n) r e = subst Back (same_Some _ _ e) (refl, refl)
back_is _ r e = cc

-- ---- one after another

abbrev pub events : ℕ → List Act → List Event
events b st = map (by b) (reverses st)

events_more : (b : ℕ) (act r : Act) (st : List Act) → reverse_of act ≡ Some r → events b (act ∷ st) ≡ by b r ∷ events b st
events_more b act r st e = ap (map (by b)) (ap (λ o. elim o [ Some r ↦ r ∷ reverses st | None ↦ reverses st ]) e)

-- histories that go on from a world `base`, in which the build has the operations `below` open
module _ (limits : Limits) (b : ℕ) (base : World) (below : List Act) where
  abbrev pub KeptOver : List Act → List Event → World → Type 0
  KeptOver st history w = Kept limits b (SameFor b) (IsSound b) (laws limits b) base below st history w

  -- a stack whose operations all have reverses is undone by as many events as it has operations
  pub counted : (st : List Act) (w : World) → Chain limits b (SameFor b) (IsSound b) (laws limits b) base below st w → length (events b st) ≡ length st
  counted [] w h = refl
  counted (act ∷ st) w h =
      let r = some_is (reverse_of act) h.6 in
      ap length (events_more b act r.0 st r.1) ∙ ap suc (counted st h.0 h.3)

  pub record Ended (history : List Event) : Type 0 where
    pub world : World
    pub legal : IsLegal limits history
    pub world_is : replay limits history ≡ Some world
    pub kept : Kept limits b (SameFor b) (IsSound b) (laws limits b) base below [] history world

  -- all operations open above the base can be undone, if none of them made a REC that runs
  pub undo_all : (st : List Act) (history : List Event) (w : World) → IsLegal limits history → replay limits history ≡ Some w → KeptOver st history w → list_any (is_running (realm_of b w)) st ≡ false
      → Ended (history ++ events b st)
  undo_all [] history w legal at_w k rests =
      subst Ended (sym (append-nil history)) (record { world = w; legal = legal; world_is = at_w; kept = k })
  undo_all (act ∷ st) history w legal at_w k rests =
      let top : last_or None (open_entries b history) ≡ Some act =
      ap (last_or None) (k.open_is ∙ sym (on_top limits b (SameFor b) (IsSound b) (laws limits b) base below st act)) ∙ last_push None (below ++ reverse st) act in
      let r = some_is (reverse_of act) k.chained.6 in
      let back = back_is act r.0 r.1 in
      let parts = or_parts (is_running (realm_of b w) act) _ rests in
      let undo = undoable limits b history w act r.0 legal at_w top r.1 parts.0 in
      let next : KeptOver st (history ++ by b r.0 ∷ []) undo.world =
      kept_back limits b (SameFor b) (IsSound b) (laws limits b) base below act st history w undo.world r.0 back.0 back.1 k undo.in_turn undo.stepped in
      let still = none_run_still limits b w undo.world (kept_reached limits b history w at_w) (kept_reached limits b (history ++ by b r.0 ∷ []) undo.world undo.grown.world_is)
      r.0 back.1 undo.stepped st parts.1 in
      subst Ended (append_assoc history (by b r.0 ∷ []) (events b st) ∙ ap (λ es. history ++ es) (sym (events_more b act r.0 st r.1)))
      (undo_all st (history ++ by b r.0 ∷ []) undo.world undo.grown.legal undo.grown.world_is next still)

pub erase_own : (b : ℕ) (acts : List Act) → erase b (map (by b) acts) ≡ []
erase_own b [] = refl
erase_own b (act ∷ acts) = ap (λ t. cond (not t) (by b act ∷ erase b (map (by b) acts)) (erase b (map (by b) acts))) (eq-eqb b b refl) ∙ erase_own b acts

-- reverses of a build's operations at the end of a history change nothing in the history without the build
pub erase_events : (b : ℕ) (history : List Event) (st : List Act) → erase b (history ++ events b st) ≡ erase b history
erase_events b history st =
    filter-append (λ (x : Event). not (x.build == b)) history (events b st) ∙ ap (λ es. erase b history ++ es) (erase_own b (reverses st)) ∙ append-nil (erase b history)

pub undone : (limits : Limits) (history : List Event) (b : ℕ) (w : World) → IsLegal limits history → replay limits history ≡ Some w → IsAtRest (realm_of b w) → IsUndone limits history b w
undone limits history b w legal at_w rest =
    let k = kept limits b (SameFor b) (IsSound b) (laws limits b) history w legal at_w in
    let stack : k.0 ≡ reverse (open_entries b history) = sym (reverse-reverse k.0) ∙ ap reverse (sym k.1.open_is) in
    let ended : Ended limits b (opening limits) [] (history ++ undoing b history) =
    subst (λ st. Ended limits b (opening limits) [] (history ++ events b st)) stack
    (undo_all limits b (opening limits) [] k.0 history w legal at_w k.1 (none_run (realm_of b w) k.0 ((rest_is_of_all limits history b w at_w).0 rest))) in
    let others : erase b (history ++ undoing b history) ≡ erase b history = erase_events b history (reverse (open_entries b history)) in
    let world_is : replay limits (history ++ undoing b history) ≡ replay limits (erase b history) =
    ended.world_is ∙ sym (emptied limits b (history ++ undoing b history) ended.world ended.legal ended.world_is ended.kept.open_is) ∙ ap (replay limits) others in
    let left : replay limits (erase b history) ≡ Some (without w b) = (noninterference limits history b legal).1 ∙ ap (option_map (λ x. without x b)) at_w in
    record {
      legal = ended.legal;
      all = subst (λ st. length (events b st) ≡ length st) stack (counted limits b (opening limits) [] k.0 w k.1.chained) ∙ length-reverse (open_entries b history);
      after = without w b;
      after_is = world_is ∙ left;
      world_is = left;
      same_others = others;
      none_open = ended.kept.open_is;
      without_build = refl;
      free = free_set-without limits b history w legal at_w;
      others = λ other apart. part_of-without b other w apart;
    }

front_open : (b : ℕ) (history : List Event) (r : Act) → Back r → open_entries b (history ++ by b r ∷ []) ≡ front (open_entries b history)
front_open b history r back = open_entries-own history (by b r) ∙ pushed_back (open_entries b history) r back.0 back.1

pub undone_next : (limits : Limits) (history : List Event) (b : ℕ) (w : World) (act : Act) → IsLegal limits history → replay limits history ≡ Some w → last_or None (open_entries b history) ≡ Some act
    → is_running (realm_of b w) act ≡ false → IsUndoneNext limits history b act
undone_next limits history b w act legal at_w top rest =
    let r = some_is (reverse_of act) (newest limits b (SameFor b) (IsSound b) (laws limits b) history w act legal at_w top).paired in
    let undo = undoable limits b history w act r.0 legal at_w top r.1 rest in
    record {
      back = r.0;
      reverse_is = r.1;
      legal = undo.grown.legal;
      left_open = ap (λ xs. xs ++ act ∷ []) (front_open b history r.0 (back_is act r.0 r.1))
          ∙ front_last (open_entries b history) act top;
    }
