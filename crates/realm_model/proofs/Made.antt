-- Lemmas about lists computed from a build's open operations: an operation appends elements, and its reverse removes
-- them.
use Rattle.std.proofs.Common.{◌≡◌, ℕ, true, false, List, [], ◌∷◌, ◌++◌, Some, sym, ap, ◌∙◌}
use Rattle.std.specs.List.{flat_map}
use Rattle.std.proofs.lemmas.List.{append-nil}
use Rattle.std.proofs.lemmas.List.Concat.{flat_map-append}
use Rattle.std.proofs.lemmas.Option.{same_Some}
use Rattle.realm_model.specs.declared.act.Act.{Act}
use Rattle.realm_model.specs.declared.act.Act.TheVariants.{Take, UnTake, Delegate, Undelegate, Realm, UnRealm, Activate, Rtt, UnRtt, Data, Unknown, UnData, Rec, UnRec}
use Rattle.realm_model.specs.declared.act.Event.{Event}
use Rattle.realm_model.specs.Act.{is_paired, is_reverse, reverse_of}
use Rattle.realm_model.specs.History.{open_entries, IsInTurn}
use Rattle.realm_model.specs.Undoing.{by}
use Rattle.realm_model.proofs.Growth.{open_entries-own, takes_away}
use Rattle.realm_model.proofs.Stack.{pushed_paired, pushed_other, kind, paired, back, other}

-- the operation that a reverse operation reverses; for UnData, the reverse of Data and of Unknown, it is Unknown. For
-- an operation that is no reverse it is Activate, as a placeholder
abbrev pub taken_back : Act → Act
taken_back (UnTake order first) = Take order first
taken_back (Undelegate granule) = Delegate granule
taken_back (UnRealm rd root vmid) = Realm rd root vmid
taken_back (UnRtt granule ipa level) = Rtt granule ipa level
taken_back (UnData granule ipa) = Unknown granule ipa
taken_back (UnRec granule auxiliaries number) = Rec granule auxiliaries number
taken_back _ = Activate

module _ {X : Type 0} (made : Act → List X) (of_page : (granule ipa source : ℕ) → made (Data granule ipa source) ≡ made (Unknown granule ipa)) where
  abbrev removed : Act → List X
  removed act = made (taken_back act)

  pub removed_as_made : (newest act : Act) → reverse_of newest ≡ Some act → made newest ≡ removed act
  unfolding reverse_of
  removed_as_made (Take order first) act is = ap removed (same_Some _ _ is)
  removed_as_made (Delegate granule) act is = ap removed (same_Some _ _ is)
  removed_as_made (Realm rd root vmid) act is = ap removed (same_Some _ _ is)
  removed_as_made (Rtt granule ipa level) act is = ap removed (same_Some _ _ is)
  removed_as_made (Data granule ipa source) act is = of_page granule ipa source ∙ ap removed (same_Some _ _ is)
  removed_as_made (Unknown granule ipa) act is = ap removed (same_Some _ _ is)
  removed_as_made (Rec granule auxiliaries number) act is = ap removed (same_Some _ _ is)
  removed_as_made _ act is = cc

  one_more : (acts : List Act) (act : Act) → flat_map made (acts ++ act ∷ []) ≡ flat_map made acts ++ made act
  one_more acts act = flat_map-append made acts (act ∷ []) ∙ ap (λ xs. flat_map made acts ++ xs) (append-nil (made act))

  module _ (b : ℕ) (before : List Event) (act : Act) (turn : IsInTurn before (by b act)) where
    abbrev later : List Event
    later = before ++ by b act ∷ []

    abbrev made_in : List Event → List X
    made_in events = flat_map made (open_entries b events)

    pub opens : is_paired act ≡ true → made_in later ≡ made_in before ++ made act
    opens p =
        let entries = open_entries-own before (by b act) ∙ pushed_paired (open_entries b before) act p in
        ap (flat_map made) entries ∙ one_more (open_entries b before) act

    pub closes : is_paired act ≡ false → is_reverse act ≡ true → made_in before ≡ made_in later ++ removed act
    closes p r =
        let away = takes_away b before act p r turn in
        let same = removed_as_made away.newest act away.pairs in
        ap (flat_map made) away.open_is ∙ one_more (open_entries b later) away.newest ∙ ap (λ xs. made_in later ++ xs) same

    pub stays : made act ≡ [] → removed act ≡ [] → made_in later ≡ made_in before
    stays none_made none_removed = elim (kind act) [
      | paired p r ↦ opens p ∙ ap (λ xs. made_in before ++ xs) none_made ∙ append-nil (made_in before)
      | back p r ↦ sym (closes p r ∙ ap (λ xs. made_in later ++ xs) none_removed ∙ append-nil (made_in later))
      | other p r ↦ ap (flat_map made) (open_entries-own before (by b act) ∙ pushed_other (open_entries b before) act p r)
    ]
