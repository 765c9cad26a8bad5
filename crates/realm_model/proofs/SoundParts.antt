-- The proof that, after any history, the invariants of a build's part hold for each build.
use Rattle.std.proofs.Common.{◌≡◌, ℕ, zero, suc, Bool, true, false, cond, List, [], ◌∷◌, map, length, pred, Option, Some, None, Ok, Err, refl, sym, ap, ◌∙◌, subst, arith}
use Rattle.std.specs.Prelude.{is_some, ◌==◌, replicate}
use Rattle.std.proofs.lemmas.Bool.{and_parts, eqb-true, eqb-false}
use Rattle.std.proofs.lemmas.Option.{same_Some, option_and_then_some}
use Rattle.std.proofs.lemmas.List.{length-map}
use Rattle.realm_model.specs.declared.act.Act.{Act}
use Rattle.realm_model.specs.declared.act.Act.TheVariants.{Realm}
use Rattle.realm_model.specs.declared.act.Event.{Event}
use Rattle.realm_model.specs.Machine.{Limits, Cell, Machine, Seen, blank, cell_at, seen}
use Rattle.realm_model.specs.Update.{Outcome}
use Rattle.realm_model.specs.Act.{named}
use Rattle.realm_model.specs.Outcome.{fits}
use Rattle.realm_model.specs.World.{World, each, unleased, hidden, is_of_other, realm_of, part_of, opening}
use Rattle.realm_model.specs.Step.{step, after_outcome, is_allowed}
use Rattle.realm_model.specs.History.{after, replay}
use Rattle.realm_model.specs.Undoing.{by}
use Rattle.realm_model.proofs.Booleans.{guarded, none_is, true_false}
use Rattle.realm_model.proofs.SoundCells.{blank_sound, good_updated_all, good, StandsAt, AllGood, AllCells}
use Rattle.realm_model.proofs.LeftOut.{each-replicate, IsClean-opening}
use Rattle.realm_model.proofs.StepBack.{done}
use Rattle.realm_model.proofs.RealmOf.{realm_of-part_of, IsAt-realm_of, no_row}
use Rattle.realm_model.proofs.Clean.{IsClean, scrubbed}
use Rattle.realm_model.proofs.Lists.{head_or, tail}
use Rattle.realm_model.proofs.HiddenSteps.{step-part_of, IsClean-step, part_of-other_step}
use Rattle.realm_model.proofs.Written.{IsSquare-updated_all, IsSquare}
use Rattle.realm_model.proofs.Leases.{cell_at-replicate}
use Rattle.realm_model.proofs.Parts.{IsSoundCell, IsSoundPart, IsSoundFor}

-- if free granules are blank, free granules are blank with builds hidden too; by `part_length`, hiding builds does not
-- change the number of granules
module _ (p : Option ℕ → Bool) where
  part_clean : (leases : List (Option ℕ)) (machine : Machine) → each scrubbed leases machine ≡ machine
      → each scrubbed (map (unleased p) leases) (each (hidden p) leases machine) ≡ each (hidden p) leases machine
  part_clean [] machine h = refl
  part_clean (l ∷ leases) [] h = refl
  part_clean (l ∷ leases) (c ∷ machine) h = λ i. one i ∷ part_clean leases machine (ap tail h) i
    where
      one : scrubbed (unleased p l) (hidden p l c) ≡ hidden p l c
      one = elim (p l) as (λ t. scrubbed (cond t None l) (cond t blank c) ≡ cond t blank c) [ true ↦ refl | false ↦ ap (head_or blank) h ]

  part_length : (leases : List (Option ℕ)) (machine : Machine) → length leases ≡ length machine → length (each (hidden p) leases machine) ≡ length machine
  part_length [] [] h = refl
  part_length [] (c ∷ machine) h = absurd (omega arith)
  part_length (l ∷ leases) [] h = refl
  part_length (l ∷ leases) (c ∷ machine) h = ap suc (part_length leases machine (ap pred h))

pub IsClean-part_of : (w : World) (b : ℕ) → IsClean w → IsClean (part_of w b)
IsClean-part_of w b clean = part_clean (is_of_other b) w.leases w.machine clean

pub IsSquare-part_of : (w : World) (b : ℕ) → IsSquare w → IsSquare (part_of w b)
IsSquare-part_of w b h = length-map w.leases (unleased (is_of_other b)) ∙ h ∙ sym (part_length (is_of_other b) w.leases w.machine h)

-- a cell without a realm's row that satisfies `IsSoundCell` for one RD satisfies `IsSoundCell` for every RD
sound_anywhere : (o p g : ℕ) (c : Cell) → IsSoundCell o g c → c.descriptor ≡ None → IsSoundCell p g c
sound_anywhere o p g c h none = record { realm = h.realm; descriptor = h.descriptor; alone = λ e. absurd (true_false _ e (sym h.descriptor ∙ ap is_some none)); itself = h.itself; row = h.row }

pub record IsSound (b : ℕ) (w : World) : Type 0 where
  pub clean : IsClean w
  pub square : IsSquare w
  pub part : IsSoundFor b w

-- the RD of a build's realm after an operation
abbrev stand : ℕ → Act → ℕ
stand o (Realm rd root v) = rd
stand o _ = o

stands : (o : ℕ) (act : Act) → StandsAt (stand o act) act
stands o (Realm rd root v) = refl
stands o _ = tt

all_stand : (w : World) (o : ℕ) → AllCells o w → (act : Act) (realm : Option Seen) (gs : List Seen) → (realm ≡ None → (g : ℕ) → (cell_at w.machine g).descriptor ≡ None)
    → fits act realm gs ≡ true → AllCells (stand o act) w
unfolding fits
all_stand w o all (Realm rd root vmid) realm gs none fit g = sound_anywhere o rd g (cell_at w.machine g) (all g) (none (none_is realm fit) g)
all_stand w o all _ realm gs none fit g = all g

-- a step of the build preserves `IsSoundPart`, if no granule has a realm's row while the build has no realm
part_step : (limits : Limits) (b : ℕ) (w v : World) (act : Act) → IsSoundPart w → (realm_of b w ≡ None → (g : ℕ) → (cell_at w.machine g).descriptor ≡ None)
    → step limits w (by b act) ≡ Some v → IsSoundPart v
unfolding step
part_step limits b w v act part none s =
    let gs = map (seen w.machine) (named act) in
    let both = guarded (is_allowed limits w (by b act)) _ v s in
    let fit : fits act (realm_of b w) gs ≡ true = (and_parts _ _ both.0).1 in
    let all = all_stand w part.rd part.cells act (realm_of b w) gs none fit in
    let did = done limits b w v act (AllGood (stand part.rd act)) (good limits w (stand part.rd act) all act (realm_of b w) (stands part.rd act) (IsAt-realm_of b w)) s in
    record { rd = stand part.rd act; cells = good_updated_all (stand part.rd act) b did.0 w v did.1 all did.2 }

square_step : (limits : Limits) (w v : World) (e : Event) → IsSquare w → step limits w e ≡ Some v → IsSquare v
unfolding step
square_step limits w v e square s = of_plan _ (guarded (is_allowed limits w e) _ v s).1
  where
    of_plan : (o : Outcome) → after_outcome e.build o w ≡ Some v → IsSquare v
    of_plan (Ok us) h = IsSquare-updated_all e.build us w v square h
    of_plan (Err rmi) h = cc

pub IsSound-step : (limits : Limits) (b : ℕ) (w v : World) (e : Event) → IsSound b w → step limits w e ≡ Some v → IsSound b v
IsSound-step limits b w v e sound s = record {
  clean = IsClean-step limits w v e sound.clean s;
  square = square_step limits w v e sound.square s;
  part = elim (e.build == b) as (λ t. (e.build == b) ≡ t → IsSoundFor b v) [
    | true ↦ λ own. of_own (eqb-true e.build b own)
    | false ↦ λ other. subst IsSoundPart (sym (part_of-other_step limits b w v e (eqb-false e.build b other) sound.clean s)) sound.part
  ] refl;
}
  where
    of_own : e.build ≡ b → IsSoundFor b v
    of_own own =
        let same : e ≡ by b e.act = λ i. record { build = own i; act = e.act } in
        part_step limits b (part_of w b) (part_of v b) e.act sound.part
        (λ none. no_row b 0 w.leases w.machine sound.clean (sym (realm_of-part_of b w) ∙ none))
        (subst (λ d. step limits (part_of w b) d ≡ Some (part_of v b)) same (step-part_of limits b w v e own s))

opening_cells : (o n g : ℕ) → IsSoundCell o g (cell_at (replicate n blank) g)
opening_cells o n g = subst (IsSoundCell o g) (sym (cell_at-replicate n g)) (blank_sound o g)

abbrev nobody : Option ℕ
nobody = None

pub IsSound-opening : (limits : Limits) (b : ℕ) → IsSound b (opening limits)
IsSound-opening limits b = record {
  clean = IsClean-opening limits;
  square = lengths limits.pages;
  part = record { rd = 0; cells = λ g. subst (λ m. IsSoundCell 0 g (cell_at m g)) (sym (each-replicate (hidden (is_of_other b)) refl limits.pages)) (opening_cells 0 limits.pages g) };
}
  where
    lengths : (n : ℕ) → length (replicate n nobody) ≡ length (replicate n blank)
    lengths zero = refl
    lengths (suc n) = ap suc (lengths n)

pub IsSound-after : (limits : Limits) (b : ℕ) (es : List Event) (w v : World) → IsSound b w → after limits es w ≡ Some v → IsSound b v
unfolding after
IsSound-after limits b [] w v sound h = subst (IsSound b) (same_Some _ _ h) sound
IsSound-after limits b (e ∷ es) w v sound h =
    option_and_then_some (after limits es) (step limits w e) v h (λ x stepped rest. IsSound-after limits b es x v (IsSound-step limits b w x e sound stepped) rest)

pub sound_after : (limits : Limits) (b : ℕ) (history : List Event) (w : World) → replay limits history ≡ Some w → IsSound b w
sound_after limits b history w at_w = IsSound-after limits b history (opening limits) w (IsSound-opening limits b) at_w
