-- The proof that a reverse operation starts no REC.
use Rattle.std.proofs.Common.{◌≡◌, ℕ, true, false, cond, ◌||◌, inl, inr, List, [], ◌∷◌, Option, Some, None, refl, sym, ap, ◌∙◌, subst}
use Rattle.std.specs.List.{list_any}
use Rattle.std.specs.Ordering.{nat_cmp, eq_by_cmp}
use Rattle.std.specs.Cmp.{nat_cmp_total}
use Rattle.std.specs.FinMap.{get, get-remove}
use Rattle.std.proofs.lemmas.Option.{same_Some}
use Rattle.realm_model.specs.declared.act.Act.{Act}
use Rattle.realm_model.specs.declared.act.Act.TheVariants.{UnTake, Undelegate, Realm, UnRealm, UnRtt, UnData, Rec, UnRec}
use Rattle.realm_model.specs.Machine.{Limits, RealmRow, Seen, cell_at}
use Rattle.realm_model.specs.Act.{is_reverse}
use Rattle.realm_model.specs.World.{World, part_of, realm_of}
use Rattle.realm_model.specs.Step.{step}
use Rattle.realm_model.specs.Running.{is_rec_running, rec_runs, is_running}
use Rattle.realm_model.specs.Undoing.{by}
use Rattle.realm_model.proofs.Booleans.{or_parts}
use Rattle.realm_model.proofs.HiddenSteps.{step-part_of}
use Rattle.realm_model.proofs.RealmOf.{realm_of-part_of}
use Rattle.realm_model.proofs.Written.{IsSquare}
use Rattle.realm_model.proofs.RoleChanges.{no_descriptor}
use Rattle.realm_model.proofs.SoundParts.{IsSquare-part_of}
use Rattle.realm_model.proofs.ZeroPages.{IsKept}
use Rattle.realm_model.proofs.Vmids.{IsMade, realm_before}
use Rattle.realm_model.proofs.RealmAfter.{Allows, turned_by, realm_gone_step, is_realm_destroy}
use Rattle.realm_model.proofs.PartRealm.{part_realm, none_there, found}
use Rattle.realm_model.proofs.Parts.{IsSoundPart}

-- each REC number that has no running REC in the first realm has none in the second
abbrev Rests : RealmRow → RealmRow → Type 0
Rests d e = (n : ℕ) → is_rec_running (get d.recs n) ≡ false → is_rec_running (get e.recs n) ≡ false

allowed : (limits : Limits) (w : World) (sound : IsSoundPart w) (act : Act) → is_reverse act ≡ true → is_realm_destroy act ≡ false → Allows limits w sound Rests act
unfolding is_reverse
allowed limits w sound (UnTake order first) r k = λ d e same n h. ap (λ (x : RealmRow). is_rec_running (get x.recs n)) same ∙ h
allowed limits w sound (Undelegate g) r k = λ d e same n h. ap (λ (x : RealmRow). is_rec_running (get x.recs n)) same ∙ h
allowed limits w sound (UnRtt g ipa level) r k = λ d e same n h. ap (λ (x : RealmRow). is_rec_running (get x.recs n)) same ∙ h
allowed limits w sound (UnData g ipa) r k = λ d e same n h. ap (λ (x : RealmRow). is_rec_running (get x.recs n)) same ∙ h
allowed limits w sound (UnRec g aux m) r k = λ d rec there ready n h.
    ap is_rec_running (get-remove nat_cmp_total d.recs m n)
    ∙ elim (eq_by_cmp nat_cmp n m) as (λ t. is_rec_running (cond t None (get d.recs n)) ≡ false) [ true ↦ refl | false ↦ h ]
allowed limits w sound (UnRealm rd root v) r k = cc
allowed limits w sound _ r k = cc

module _ (limits : Limits) (b : ℕ) (w v : World) (kept : IsKept b w) (kept_v : IsKept b v) (act : Act) (back : is_reverse act ≡ true) (s : step limits w (by b act) ≡ Some v) where
  own : step limits (part_of w b) (by b act) ≡ Some (part_of v b)
  own = step-part_of limits b w v (by b act) refl s

  square : IsSquare (part_of w b)
  square = IsSquare-part_of w b kept.sound.square

  not_made : (act : Act) → is_reverse act ≡ true → (k : ℕ) (e : RealmRow) → IsMade limits (part_of w b) act k e → ⊥
  unfolding is_reverse
  not_made (Realm rd root vmid) r k e m = cc
  not_made _ r k e m = m

  -- the build's realm has the same running RECs in the world as in the build's part of the world
  runs_in : (w : World) (kept : IsKept b w) (k : ℕ) (d : RealmRow) → (cell_at (part_of w b).machine k).descriptor ≡ Some d → (n : ℕ) → rec_runs (realm_of b w) n ≡ is_rec_running (get d.recs n)
  runs_in w kept k d is n = ap (λ o. rec_runs o n) (found b w kept k d is) ∙ ap (λ o. elim o [ Some r ↦ is_rec_running (get r.recs n) | None ↦ false ]) is

  turned : (k : ℕ) (d e : RealmRow) → (cell_at (part_of w b).machine k).descriptor ≡ Some d → (cell_at (part_of v b).machine k).descriptor ≡ Some e → Rests d e
  turned k d e was is = by_act act back own
    where
      by_act : (act : Act) → is_reverse act ≡ true → step limits (part_of w b) (by b act) ≡ Some (part_of v b) → Rests d e
      by_act (UnRealm rd root vmid) r s =
          absurd (no_descriptor (cell_at (part_of v b).machine k) e ((realm_gone_step limits b (part_of w b) (part_of v b) rd root vmid square kept.sound.part s).0 k) is)
      by_act act r s =
          let then = turned_by limits b (part_of w b) (part_of v b) act Rests square kept.sound.part (λ none. none_there b w kept (sym (realm_of-part_of b w) ∙ none))
          (allowed limits (part_of w b) kept.sound.part act r refl) s k d was in
          subst (Rests d) (same_Some _ _ (sym then.1 ∙ is)) then.2

  pub rests_still : (n : ℕ) → rec_runs (realm_of b w) n ≡ false → rec_runs (realm_of b v) n ≡ false
  rests_still n rest = elim (part_realm b v kept_v) [
    | inl none ↦ ap (λ o. rec_runs o n) none
    | inr there ↦ elim (realm_before limits (part_of w b) (part_of v b) b act square own there.0 there.1 there.2) [
      | inl was ↦ runs_in v kept_v there.0 there.1 there.2 n ∙ turned there.0 was.0 there.1 was.1 there.2 n (sym (runs_in w kept there.0 was.0 was.1 n) ∙ rest)
      | inr made ↦ absurd (not_made act back there.0 there.1 made)
    ]
  ]

  one_still : (a : Act) → is_running (realm_of b w) a ≡ false → is_running (realm_of b v) a ≡ false
  one_still (Rec g aux n) rest = rests_still n rest
  one_still _ rest = refl

  -- if none of the RECs that the listed operations created runs, none of them runs after a reverse operation
  pub none_run_still : (acts : List Act) → list_any (is_running (realm_of b w)) acts ≡ false → list_any (is_running (realm_of b v)) acts ≡ false
  none_run_still [] h = refl
  none_run_still (a ∷ acts) h =
      let parts = or_parts (is_running (realm_of b w) a) _ h in
      λ i. one_still a parts.0 i || none_run_still acts parts.1 i

-- if no REC of the realm runs, no operation is one that created a running REC of the realm
pub not_running : (realm : Option Seen) → ((n : ℕ) → rec_runs realm n ≡ false) → (act : Act) → is_running realm act ≡ false
not_running realm rest (Rec g aux n) = rest n
not_running realm rest _ = refl

pub none_run : (realm : Option Seen) (acts : List Act) → ((n : ℕ) → rec_runs realm n ≡ false) → list_any (is_running realm) acts ≡ false
none_run realm [] rest = refl
none_run realm (a ∷ acts) rest = λ i. not_running realm rest a i || none_run realm acts rest i
