-- Proofs that the granule and the auxiliaries of a REC that is removed are DELEGATED and zero afterwards.
use Rattle.std.proofs.Common.{◌≡◌, ◌≢◌, ℕ, ◌-◌, ◌<◌, true, false, List, [], ◌∷◌, length, set, None, refl, sym, ap, ◌∙◌, subst}
use Rattle.std.specs.Prelude.{◌==◌, is_some}
use Rattle.std.proofs.lemmas.Bool.{eqb-true}
use Rattle.granule_addr.specs.Page.{zero_page}
use Rattle.rtt.specs.Granules.{granule_at, IsIn}
use Rattle.rtt.specs.declared.granule.Granule.{Granule}
use Rattle.page_arena.specs.Page.{page_at, is_free}
use Rattle.realm_model.specs.declared.states.GranuleState.{GranuleState}
use Rattle.realm_model.specs.declared.states.GranuleState.TheVariants.{Undelegated, Delegated, Rec as InRec, RecAux as InRecAux}
use Rattle.realm_model.specs.Sound.{is_rd_state}
use Rattle.realm_model.proofs.Booleans.{true_false, false_from}
use Rattle.realm_model.specs.Command.Check.{is_in}
use Rattle.realm_model.proofs.Lists.{index_of}
use Rattle.rmi_monitor.specs.Attributes.{RealmAttributes, RecAttributes}
use Rattle.rmi_monitor.specs.Inside.{Fields, rec_count_at, rec_at, is_rec_state, IsSoundAt, IsWhole}
use Rattle.rmi_monitor.proofs.Puts.{put_all, length-put_all, put_all-first, put_all-rest, put_all-out}
use Rattle.rmi_monitor.proofs.RecMoves.{RecMove, is_moved_state, granule_first, granule_rest, rec_first, rec_out, no_realm, no_rec}
use Rattle.rmi_monitor.proofs.RecFound.{IsKept, rec_inside}
use Rattle.rmi_monitor.proofs.RealmAfter.{keeps_all}
use Rattle.rmi_monitor.proofs.Frames.{in_rec}
use Rattle.rmi_monitor.proofs.Comparisons.{either}

-- a granule of a removed REC, which is DELEGATED and belongs to no realm
abbrev pub left_granule : Granule
left_granule = record { state = Delegated; realm = None }

abbrev pub gone : Fields → ℕ → ℕ → List ℕ → Fields
gone old rd g others = record old {
  granules = put_all old.granules g others left_granule left_granule;
  pages = put_all old.pages g others zero_page zero_page;
  rec_counts = set old.rec_counts rd (rec_count_at old rd - 1);
  recs = set old.recs g None;
}

module _ (old : Fields) (whole : IsWhole old) (rd g : ℕ) (rec : RecAttributes) (realm : RealmAttributes) (is : IsKept old g rec rd realm) where
  abbrev others : List ℕ
  others = rec.auxiliaries

  abbrev new : Fields
  new = gone old rd g others

  -- ---- the REC's granules before the command

  pub aux_is : (h : ℕ) → is_in h others ≡ true → IsIn old.granules h InRecAux (granule_at old.granules g).realm
  aux_is h e = let found = index_of others h e in whole.recs.auxiliaries g rec found.0 h is.at found.1

  pub aux_state : (h : ℕ) → is_in h others ≡ true → (granule_at old.granules h).state ≡ InRecAux
  aux_state h e = ap (λ (x : Granule). x.state) (aux_is h e).is

  pub own : is_in g others ≡ false
  own = false_from _ (λ there. let clash : InRec ≡ InRecAux = sym (in_rec old g (whole.each g) rec is.at) ∙ aux_state g there in cc)

  pub not_own : (h : ℕ) → is_in h others ≡ true → h ≢ g
  not_own h e same = true_false _ (subst (λ k. is_in k others ≡ true) same e) own

  -- if a property holds for the REC's granule and for each auxiliary, it holds for all granules of `g ∷ others`
  both : (P : ℕ → Type 0) → P g → ((h : ℕ) → is_in h others ≡ true → P h) → (h : ℕ) → is_in h (g ∷ others) ≡ true → P h
  both P own_case aux_case h e = either (h == g) (is_in h others) e (λ same. subst P (sym (eqb-true h g same)) own_case) (aux_case h)

  pub inside : (h : ℕ) → is_in h (g ∷ others) ≡ true → h < length old.granules
  inside = both (λ h. h < length old.granules) (rec_inside old whole g rec is.at) (λ h e. (aux_is h e).inside)

  pub moved : (h : ℕ) → is_in h (g ∷ others) ≡ true → is_moved_state (granule_at old.granules h).state ≡ true
  moved = both (λ h. is_moved_state (granule_at old.granules h).state ≡ true) (ap is_moved_state (in_rec old g (whole.each g) rec is.at)) (λ h e. ap is_moved_state (aux_state h e))

  -- a granule of the machine that is not UNDELEGATED is not free
  taken_as : (h : ℕ) (state : GranuleState) → h < length old.granules → (granule_at old.granules h).state ≡ state → (state ≡ Undelegated → ⊥) → is_free old.free h ≡ false
  taken_as h state within at used = whole.backed.taken h within (λ e. used (sym at ∙ e))

  pub taken_moved : (h : ℕ) → is_in h (g ∷ others) ≡ true → is_free old.free h ≡ false
  taken_moved =
      both (λ h. is_free old.free h ≡ false) (taken_as g InRec (rec_inside old whole g rec is.at) (in_rec old g (whole.each g) rec is.at) (λ e. cc))
      (λ h e. taken_as h InRecAux (aux_is h e).inside (aux_state h e) (λ k. cc))

  -- ---- the REC's granules after the command

  abbrev pub going : RecMove old
  going = record {
    rd = rd;
    granule = g;
    auxiliaries = rec.auxiliaries;
    first = left_granule;
    rest = left_granule;
    pages = put_all old.pages g rec.auxiliaries zero_page zero_page;
    realms = old.realms;
    realm = realm;
    now = realm;
    count = rec_count_at old rd - 1;
    rec = None;
    there = is.there;
    is = is.there;
    keeps = keeps_all realm;
    others = λ h differs. refl;
    realm_places = refl;
    inside = inside;
    states = moved;
    no_recs = λ h e. ap is_rec_state (aux_state h e);
    own = own;
    page_count = length-put_all old.pages g rec.auxiliaries zero_page zero_page [];
    page = put_all-out old.pages g rec.auxiliaries zero_page zero_page [];
  }

  pub granule_left : (h : ℕ) → is_in h (g ∷ others) ≡ true → granule_at new.granules h ≡ left_granule
  granule_left = both (λ h. granule_at new.granules h ≡ left_granule) (granule_first old whole going) (granule_rest old whole going)

  pub page_left : (h : ℕ) → is_in h (g ∷ others) ≡ true → page_at new.pages h ≡ zero_page
  page_left = both (λ h. page_at new.pages h ≡ zero_page)
      (put_all-first old.pages g others zero_page zero_page [] own (in_pages g (rec_inside old whole g rec is.at)))
      (λ h e. put_all-rest old.pages g others zero_page zero_page [] h (in_pages h (aux_is h e).inside) e)
    where
      in_pages : (h : ℕ) → h < length old.granules → h < length old.pages
      in_pages h within = subst (λ n. h < n) whole.backed.as_many within

  no_rec_left : (h : ℕ) → is_in h (g ∷ others) ≡ true → rec_at new h ≡ None
  no_rec_left = both (λ h. rec_at new h ≡ None) (rec_first old whole going) (λ h e. rec_out old whole going h (not_own h e) ∙ no_rec old whole going h e)

  pub sound_left : (h : ℕ) → is_in h (g ∷ others) ≡ true → IsSoundAt new h
  sound_left h e = record {
    host = λ k. ap (λ (x : Granule). x.realm) (granule_left h e);
    zero = λ k. page_left h e;
    rd = ap is_some (no_realm old whole going h e) ∙ sym (ap (λ (x : Granule). is_rd_state x.state) (granule_left h e));
    rec = ap is_some (no_rec_left h e) ∙ sym (ap (λ (x : Granule). is_rec_state x.state) (granule_left h e));
  }
