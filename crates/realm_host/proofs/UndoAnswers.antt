-- Proofs that an undo gets the first refusal whose condition holds, or the reply for the undone operation if no
-- condition holds.
use Rattle.std.proofs.Common.{◌≡◌, ℕ, ◌-◌, ◌<◌, ◌≤◌, Bool, true, false, cond, List, [], ◌∷◌, length, Option, Some, None, refl, ap, ◌∙◌, arith}
use Rattle.std.specs.Prelude.{nat_lt, nat_le, option_and_then, IsSome}
use Rattle.std.specs.List.{last_or}
use Rattle.std.proofs.lemmas.Bool.{ltb-false, le-leb, lt-leb, le-ltb}
use Rattle.realm_model.specs.Kind.{act_kind}
use Rattle.realm_model.specs.declared.act.Kind.{Kind}
use Rattle.realm_model.specs.declared.act.Act.{Act}
use Rattle.realm_model.specs.declared.act.Act.TheVariants.{Take, Delegate, Realm, Rtt, Data, Unknown, Rec}
use Rattle.realm_model.specs.Act.{is_paired, reverse_of}
use Rattle.realm_model.specs.Running.{is_running}
use Rattle.realm_model.specs.World.{realm_of}
use Rattle.realm_host.specs.Call.{Undo}
use Rattle.host_commands.specs.declared.refusal.Refusal.{Refusal}
use Rattle.host_commands.specs.declared.refusal.Refusal.TheVariants.{NoBuild, NothingToUndo, RecRunning}
use Rattle.host_ledger.specs.View.{HostView, world_of, open_of}
use Rattle.realm_host.specs.Refusals.{is_newest_running, refusal_of}
use Rattle.realm_host.specs.Answer.{IsUndone}
use Rattle.realm_host.specs.Acting.{IsBack, IsRecorded}

some_later : (act : Act) (acts : List Act) → last_or (Some act) acts ≡ None → ⊥
some_later act [] e = cc
some_later act (x ∷ acts) e = some_later x acts e

none_open : (acts : List Act) → last_or None acts ≡ None → nat_lt (length acts) 1 ≡ true
none_open [] e = refl
none_open (x ∷ acts) e = absurd (some_later x acts e)

pub some_open : (acts : List Act) (act : Act) → last_or None acts ≡ Some act → 1 ≤ length acts
some_open [] act e = cc
some_open (x ∷ acts) act e = omega arith

module _ (host : HostView) (build : ℕ) where
  -- the refusal for the first of three conditions that is true; none if all are false
  first_of_three : Bool → Bool → Bool → Option Refusal
  first_of_three a b c = cond a (Some NoBuild) (cond b (Some NothingToUndo) (cond c (Some RecRunning) None))

  refusal_is : (a b c : Bool) → nat_le host.limits.builds build ≡ a → nat_lt (length (open_of host build)) 1 ≡ b → is_newest_running host build ≡ c
      → refusal_of host build Undo ≡ first_of_three a b c
  unfolding refusal_of first_of_three
  refusal_is a b c is_a is_b is_c = λ i. cond (is_a i) (Some NoBuild) (cond (is_b i) (Some NothingToUndo) (cond (is_c i) (Some RecRunning) None))

  pub no_build_there : nat_lt build host.limits.builds ≡ false → refusal_of host build Undo ≡ Some NoBuild
  unfolding first_of_three
  no_build_there none = refusal_is true (nat_lt (length (open_of host build)) 1) (is_newest_running host build) (le-leb host.limits.builds build (ltb-false build host.limits.builds none)) refl refl

  module _ (there : build < host.limits.builds) where
    is_there : nat_le host.limits.builds build ≡ false
    is_there = lt-leb host.limits.builds build there

    pub nothing_there : last_or None (open_of host build) ≡ None → refusal_of host build Undo ≡ Some NothingToUndo
    unfolding first_of_three
    nothing_there none = refusal_is false true (is_newest_running host build) is_there (none_open (open_of host build) none) refl

    module _ (newest : Act) (newest_is : last_or None (open_of host build) ≡ Some newest) where
      some_there : nat_lt (length (open_of host build)) 1 ≡ false
      some_there = le-ltb (length (open_of host build)) 1 (some_open (open_of host build) newest newest_is)

      runs_as : is_newest_running host build ≡ is_running (realm_of build (world_of host)) newest
      runs_as = ap (λ (o : Option Act). elim o [ Some act ↦ is_running (realm_of build (world_of host)) act | None ↦ false ]) newest_is

      pub rec_runs : is_running (realm_of build (world_of host)) newest ≡ true → refusal_of host build Undo ≡ Some RecRunning
      unfolding first_of_three
      rec_runs runs = refusal_is false false true is_there some_there (runs_as ∙ runs)

      pub not_refused : is_running (realm_of build (world_of host)) newest ≡ false → refusal_of host build Undo ≡ None
      unfolding first_of_three
      not_refused rests = refusal_is false false false is_there some_there (runs_as ∙ rests)

      pub undone_is : (back : Act) → reverse_of newest ≡ Some back → is_running (realm_of build (world_of host)) newest ≡ false → (kind : Kind) → act_kind newest ≡ Some kind
          → (left : ℕ) → left ≡ length (open_of host build) - 1 → (new : HostView) → IsRecorded host build back new → IsUndone host build (record { kind = kind; left = left }) new
      undone_is back back_is rests kind kind_is left left_is new recorded = record {
        act = back;
        accepted = record {
          not_refused = not_refused rests;
          act_of = ap (option_and_then reverse_of) newest_is ∙ back_is;
          legal = recorded.legal;
          grows = recorded.grows;
        };
        kind = ap (option_and_then act_kind) newest_is ∙ kind_is;
        left = left_is;
      }

      pub is_back : (back : Act) → reverse_of newest ≡ Some back → is_running (realm_of build (world_of host)) newest ≡ false → IsBack host build back
      is_back back back_is rests = record { newest = newest; newest_is = newest_is; back_is = back_is; rests = rests }

pub has_kind : (act : Act) → is_paired act ≡ true → IsSome (act_kind act)
unfolding reverse_of
has_kind (Take order first) p = refl
has_kind (Delegate granule) p = refl
has_kind (Realm rd root vmid) p = refl
has_kind (Rtt granule ipa level) p = refl
has_kind (Data granule ipa source) p = refl
has_kind (Unknown granule ipa) p = refl
has_kind (Rec granule auxiliaries number) p = refl
has_kind _ p = cc
