-- Proofs that the granules of a new REC are zero and satisfy the invariant, if the checks of the command that creates
-- the REC pass.
use Rattle.std.proofs.Common.{◌≡◌, ℕ, ◌+◌, ◌<◌, true, false, List, ◌∷◌, length, set, Some, None, refl, sym, ap, ◌∙◌, subst, arith}
use Rattle.std.specs.Prelude.{◌==◌, is_some, slice_get}
use Rattle.std.proofs.lemmas.Bool.{eqb-true}
use Rattle.std.proofs.lemmas.List.{length-set, get_or-set_same, get_or-set_other}
use Rattle.granule_addr.specs.Page.{zero_page}
use Rattle.rtt.specs.Granules.{granule_at}
use Rattle.rtt.specs.declared.granule.Granule.{Granule}
use Rattle.page_arena.specs.Page.{page_at}
use Rattle.realm_model.specs.declared.states.GranuleState.{GranuleState}
use Rattle.realm_model.specs.declared.states.GranuleState.TheVariants.{Delegated, Rec as InRec, RecAux as InRecAux}
use Rattle.realm_model.specs.declared.states.RecState.TheVariants.{Ready}
use Rattle.realm_model.specs.Sound.{is_host_state, is_rd_state}
use Rattle.realm_model.proofs.Booleans.{true_false, none_from}
use Rattle.realm_model.specs.Command.Check.{is_in}
use Rattle.realm_model.proofs.Lists.{is_in_more}
use Rattle.rmi_monitor.specs.Attributes.{RealmAttributes, RecAttributes}
use Rattle.rmi_monitor.specs.Inside.{Fields, realm_at, rec_count_at, rec_at, is_rec_state, IsSoundAt, IsWhole}
use Rattle.rmi_monitor.specs.Places.{with_rec_more}
use Rattle.rmi_monitor.proofs.Puts.{put_all}
use Rattle.rmi_monitor.proofs.RealmPlaces.{realm_inside}
use Rattle.rmi_monitor.proofs.RecMoves.{RecMove, is_moved_state, granule_first, granule_rest, rec_first, rec_out, no_realm, no_rec}
use Rattle.rmi_monitor.proofs.Comparisons.{either}

-- the attributes of a new REC, which is READY, with the given number and auxiliary granules
abbrev pub new_rec : ℕ → List ℕ → RecAttributes
new_rec number auxiliaries = record { number = number; state = Ready; auxiliaries = auxiliaries }

abbrev pub made : Fields → ℕ → ℕ → List ℕ → RealmAttributes → Fields
made old rd g others realm = record old {
  granules = put_all old.granules g others (record { state = InRec; realm = Some rd }) (record { state = InRecAux; realm = Some rd });
  realms = set old.realms rd (Some (with_rec_more realm));
  rec_counts = set old.rec_counts rd (rec_count_at old rd + 1);
  recs = set old.recs g (Some (new_rec realm.next others));
}

-- the granules of a new REC are inside the machine, DELEGATED and distinct, and `realm` is the realm with RD `rd`
pub record CanMake (old : Fields) (rd g : ℕ) (others : List ℕ) (realm : RealmAttributes) : Type 0 where
  pub inside : (h : ℕ) → is_in h (g ∷ others) ≡ true → h < length old.granules
  pub there : realm_at old rd ≡ Some realm
  pub delegated : (h : ℕ) → is_in h (g ∷ others) ≡ true → (granule_at old.granules h).state ≡ Delegated
  pub own : is_in g others ≡ false
  pub once : (i j a : ℕ) → slice_get others i ≡ Some a → slice_get others j ≡ Some a → i ≡ j

module _ (old : Fields) (whole : IsWhole old) (rd g : ℕ) (others : List ℕ) (realm : RealmAttributes) (can : CanMake old rd g others realm) where
  pub rd_place : rd < length old.realms
  rd_place = subst (λ n. rd < n) (sym whole.realm_places) (realm_inside old whole rd realm can.there)

  abbrev pub making : RecMove old
  making = record {
    rd = rd;
    granule = g;
    auxiliaries = others;
    first = record { state = InRec; realm = Some rd };
    rest = record { state = InRecAux; realm = Some rd };
    pages = old.pages;
    realms = set old.realms rd (Some (with_rec_more realm));
    realm = realm;
    now = with_rec_more realm;
    count = rec_count_at old rd + 1;
    rec = Some (new_rec realm.next others);
    there = can.there;
    is = get_or-set_same old.realms rd (Some (with_rec_more realm)) None rd_place;
    keeps = record { root = refl; vmid = refl; next = omega arith };
    others = λ h differs. get_or-set_other old.realms rd h (Some (with_rec_more realm)) None differs;
    realm_places = length-set old.realms rd (Some (with_rec_more realm));
    inside = can.inside;
    states = λ h e. ap is_moved_state (can.delegated h e);
    no_recs = λ h e. ap is_rec_state (can.delegated h (is_in_more h g others e));
    own = can.own;
    page_count = refl;
    page = λ h e. refl;
  }

  abbrev new : Fields
  new = made old rd g others realm

  -- no granule of the new REC held a REC before
  pub was_none : (h : ℕ) → is_in h (g ∷ others) ≡ true → rec_at old h ≡ None
  was_none h e = none_from (rec_at old h) ((whole.each h).rec ∙ ap is_rec_state (can.delegated h e))

  -- each granule of the new REC is zero after the command
  pub zero_after : (h : ℕ) → is_in h (g ∷ others) ≡ true → page_at new.pages h ≡ zero_page
  zero_after h e = (whole.each h).zero (can.delegated h e)

  sound_in : (h : ℕ) (state : GranuleState) → is_in h (g ∷ others) ≡ true → granule_at new.granules h ≡ record { state = state; realm = Some rd }
      → is_rd_state state ≡ false → is_some (rec_at new h) ≡ is_rec_state state → (state ≡ Delegated → ⊥) → (is_host_state state ≡ true → ⊥) → IsSoundAt new h
  sound_in h state e at not rec left host = record {
    host = λ k. absurd (host (sym (ap (λ (x : Granule). is_host_state x.state) at) ∙ k));
    zero = λ k. absurd (left (sym (ap (λ (x : Granule). x.state) at) ∙ k));
    rd = ap is_some (no_realm old whole making h e) ∙ sym not ∙ sym (ap (λ (x : Granule). is_rd_state x.state) at);
    rec = rec ∙ sym (ap (λ (x : Granule). is_rec_state x.state) at);
  }

  pub sound_made : (h : ℕ) → is_in h (g ∷ others) ≡ true → IsSoundAt new h
  sound_made h e = either (h == g) (is_in h others) e
      (λ same. let at = eqb-true h g same in
      sound_in h InRec e (ap (granule_at new.granules) at ∙ granule_first old whole making) refl (ap (λ k. is_some (rec_at new k)) at ∙ ap is_some (rec_first old whole making)) (λ k. cc) (λ k. cc))
      (λ there.
      sound_in h InRecAux e (granule_rest old whole making h there) refl
      (ap is_some (rec_out old whole making h (λ same. true_false _ (subst (λ k. is_in k others ≡ true) same there) can.own) ∙ no_rec old whole making h there)) (λ k. cc) (λ k. cc))
