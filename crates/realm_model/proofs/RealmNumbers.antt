-- The proof that a realm's next REC number is at most the number of its build's events.
use Rattle.std.proofs.Common.{◌≡◌, ℕ, ◌+◌, ◌≤◌, false, inl, inr, ⊎_elim, List, [], ◌∷◌, ◌++◌, length, Some, None, refl, sym, ap, ◌∙◌, subst, arith}
use Rattle.std.proofs.lemmas.Bool.{cases_eq}
use Rattle.std.proofs.lemmas.Option.{same_Some}
use Rattle.std.proofs.lemmas.List.{length-append}
use Rattle.realm_model.specs.declared.act.Act.{Act}
use Rattle.realm_model.specs.declared.act.Act.TheVariants.{Realm, UnRealm, Rec, UnRec, Enter, Exit}
use Rattle.realm_model.specs.declared.act.Event.{Event}
use Rattle.realm_model.specs.Machine.{Limits, RealmRow, Cell, cell_at}
use Rattle.realm_model.specs.Outcome.{fits}
use Rattle.realm_model.specs.Command.Realm.{new_realm}
use Rattle.realm_model.specs.World.{World, opening, realm_of, part_of}
use Rattle.realm_model.specs.Step.{step}
use Rattle.realm_model.specs.History.{acts_of, replay, IsLegal}
use Rattle.realm_model.specs.OpenRealm.{NumbersAreFew}
use Rattle.realm_model.specs.Undoing.{by}
use Rattle.realm_model.proofs.Booleans.{none_is}
use Rattle.realm_model.proofs.Growth.{acts_of-own, acts_of-other}
use Rattle.realm_model.proofs.HiddenSteps.{step-part_of, part_of-other_step}
use Rattle.realm_model.proofs.Parts.{IsSoundPart}
use Rattle.realm_model.proofs.PartRealm.{none_there, none_at_first}
use Rattle.realm_model.proofs.Reached.{of_legal}
use Rattle.realm_model.proofs.RealmAfter.{Allows, turned_by, is_realm_destroy, realm_made_step, realm_gone_step}
use Rattle.realm_model.proofs.RealmOf.{IsAt, IsAt-realm_of, realm_of-part_of}
use Rattle.realm_model.proofs.RoleChanges.{no_descriptor}
use Rattle.realm_model.proofs.SoundParts.{IsSquare-part_of}
use Rattle.realm_model.proofs.StepBack.{asked}
use Rattle.realm_model.proofs.Vmids.{IsMade, realm_before}
use Rattle.realm_model.proofs.Written.{IsSquare}
use Rattle.realm_model.proofs.ZeroPages.{IsKept, kept_reached}

-- ---- an operation adds at most one to the next number

abbrev Counts : RealmRow → RealmRow → Type 0
Counts d e = e.next ≤ d.next + 1

one_more : (m n : ℕ) → n ≡ m → n ≤ m + 1
one_more m n same = omega arith

counts : (limits : Limits) (w : World) (sound : IsSoundPart w) (act : Act) → is_realm_destroy act ≡ false → Allows limits w sound Counts act
counts limits w sound (Realm rd root v) k = tt
counts limits w sound (UnRealm rd root v) k = cc
counts limits w sound (Rec g aux n) k = λ d rec m ready. least d.next
  where
    least : (n : ℕ) → n + 1 ≤ n + 1
    least n = omega arith
counts limits w sound (UnRec g aux n) k = λ d rec there ready. one_more d.next d.next refl
counts limits w sound (Enter n) k = λ d rec h there ready. one_more d.next d.next refl
counts limits w sound (Exit n) k = λ d rec h there ready. one_more d.next d.next refl
counts limits w sound act k = λ d e same. one_more d.next e.next (ap (λ (x : RealmRow). x.next) same)

module _ (limits : Limits) (b : ℕ) (w v : World) (kept : IsKept b w) (act : Act) (s : step limits w (by b act) ≡ Some v) where
  abbrev W : World
  W = part_of w b

  abbrev V : World
  V = part_of v b

  square : IsSquare W
  square = IsSquare-part_of w b kept.sound.square

  own : step limits W (by b act) ≡ Some V
  own = step-part_of limits b w v (by b act) refl s

  no_rows : realm_of b W ≡ None → (k : ℕ) → (cell_at W.machine k).descriptor ≡ None
  no_rows none = none_there b w kept (sym (realm_of-part_of b w) ∙ none)

  -- the next REC number of a newly created realm is 0
  made_next : (act : Act) → step limits W (by b act) ≡ Some V → (k : ℕ) (e : RealmRow) → IsMade limits (part_of w b) act k e → (cell_at V.machine k).descriptor ≡ Some e → e.next ≡ 0
  unfolding fits new_realm
  made_next (Realm rd root vmid) to k e made is =
      let none : realm_of b W ≡ None = none_is _ (asked limits b W V (Realm rd root vmid) to).fit in
      ap (λ (x : RealmRow). x.next) (realm_made_step limits b W V rd root vmid square (no_rows none) to k e is)
  made_next _ to k e made is = absurd made

  was_next : (act : Act) → step limits W (by b act) ≡ Some V → (k : ℕ) (d e : RealmRow) → (cell_at W.machine k).descriptor ≡ Some d → (cell_at V.machine k).descriptor ≡ Some e → e.next ≤ d.next + 1
  was_next (UnRealm rd root vmid) to k d e was is = absurd (no_descriptor (cell_at V.machine k) e ((realm_gone_step limits b W V rd root vmid square kept.sound.part to).0 k) is)
  was_next act to k d e was is =
      let then = turned_by limits b W V act Counts square kept.sound.part no_rows (counts limits W kept.sound.part act refl) to k d was in
      subst (λ (x : RealmRow). x.next ≤ d.next + 1) (same_Some _ _ (sym then.1 ∙ is)) then.2

  next_after : (n : ℕ) → ((k : ℕ) (d : RealmRow) → (cell_at W.machine k).descriptor ≡ Some d → d.next ≤ n)
      → (k : ℕ) (e : RealmRow) → (cell_at V.machine k).descriptor ≡ Some e → e.next ≤ n + 1
  next_after n below k e is = elim (realm_before limits W V b act square own k e is) [
    | inl was ↦ let more = was_next act own k was.0 e was.1 is in let less = below k was.0 was.1 in omega arith
    | inr made ↦ let none = made_next act own k e made is in omega arith
  ]

-- ---- over a history

abbrev Few : ℕ → List Event → World → Type 0
Few b history w = (k : ℕ) (d : RealmRow) → (cell_at (part_of w b).machine k).descriptor ≡ Some d → d.next ≤ length (acts_of b history)

few_step : (limits : Limits) (b : ℕ) (before : List Event) (w v : World) (e : Event) → replay limits before ≡ Some w → Few b before w → step limits w e ≡ Some v → Few b (before ++ e ∷ []) v
few_step limits b before w v e at_w few s = ⊎_elim
    (λ same. λ k d is.
    let more : length (acts_of b (before ++ e ∷ [])) ≡ length (acts_of b before) + 1 =
    ap (λ n. length (acts_of n (before ++ e ∷ []))) (sym same) ∙ ap length (acts_of-own before e) ∙ length-append (acts_of e.build before) (e.act ∷ [])
    ∙ ap (λ n. length (acts_of n before) + 1) same in
    let stepped : step limits w (by b e.act) ≡ Some v = ap (λ n. step limits w (by n e.act)) (sym same) ∙ s in
    subst (λ n. d.next ≤ n) (sym more) (next_after limits b w v (kept_reached limits b before w at_w) e.act stepped (length (acts_of b before)) few k d is))
    (λ apart. λ k d is.
    let part = part_of-other_step limits b w v e apart (kept_reached limits b before w at_w).sound.clean s in
    subst (λ n. d.next ≤ n) (sym (ap length (acts_of-other b before e apart)))
    (few k d (ap (λ (x : World). (cell_at x.machine k).descriptor) (sym part) ∙ is)))
    (cases_eq e.build b)

few_at_first : (limits : Limits) (b : ℕ) → Few b [] (opening limits)
few_at_first limits b k d is = absurd (no_descriptor (cell_at (part_of (opening limits) b).machine k) d (none_at_first limits b k) is)

pub rec_numbers_are_bounded : (limits : Limits) (history : List Event) (w : World) (b : ℕ) → IsLegal limits history → replay limits history ≡ Some w → NumbersAreFew history w b
rec_numbers_are_bounded limits history w b legal at_w rd realm at is =
    let few = of_legal limits (Few b) (λ before w v e legal at_w few turn s. few_step limits b before w v e at_w few s) (few_at_first limits b) history w legal at_w in
    let place : cell_at (part_of w b).machine rd.number ≡ rd.cell = subst (IsAt (part_of w b).machine) (realm_of-part_of b w ∙ at) (IsAt-realm_of b (part_of w b)) in
    few rd.number realm (ap (λ (c : Cell). c.descriptor) place ∙ is)
