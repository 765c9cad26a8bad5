use Rattle.std.proofs.Common.{◌≡◌, ℕ, ◌<◌, ◌≤◌, inr, length, get_or, replicate, Option, Some, None, refl, sym, ap, subst, ⊎_elim}
use Rattle.std.specs.Prelude.{IfSome}
use Rattle.std.proofs.lemmas.Bool.{cases_lt}
use Rattle.std.proofs.lemmas.List.{length-replicate, get_or-replicate, get_or_past}
use Rattle.rmi_abi.specs.declared.call.Call.{Call}
use Rattle.rmi_abi.specs.declared.registers.Registers.{Registers}
use Rattle.rmi_abi.specs.Call.{call_in}
use Rattle.rmm_model.specs.Call.{command_of, performed, rmi, rmi_at}
use Rattle.rmm_model.specs.Machine.{Machine, granule_at, page_in}
use Rattle.rmm_granules.specs.Inside.{platform_machine}
use Rattle.rmm_model.specs.declared.granule.RmmGranule.{RmmGranule}
use Rattle.rmm_model.specs.declared.granule.RmmGranuleState.TheVariants.{Undelegated}
use Rattle.rmm_model.specs.Granule.{of_no_realm, realm_of}
use Rattle.rmm_model.specs.Realm.{IsServed}
use Rattle.rmm_laws.specs.Owner.{IsOrderly}
use Rattle.rmm_laws.specs.Proper.{IsProper}
use Rattle.rmm_laws.specs.Role.{Used, has_user, uses, IsSound}
use Rattle.rmm_laws.proofs.Guests.{entry_proper, step_proper, exit_proper, interrupt_kept, given_kept}
use Rattle.rmm_laws.proofs.Passed.{kept}
use Rattle.rmm_laws.proofs.ProperCalls.{after}
use Rattle.rmm_laws.proofs.Plain.{stored, filled}
use Rattle.rmm_laws.proofs.Ordering.{store_ordered, fill_ordered}
use Rattle.rmm_laws.proofs.Walks.{right, one_place}
use Rattle.rmm_laws.proofs.Writes.{is_user, uses-plain}
use Rattle.rmm_laws.proofs.law.granules_have_one_role.Goals as goal

-- a valid machine whose granules are all UNDELEGATED, without an owner, satisfies `IsProper`
fresh : (m : Machine) → IsSound m → ((g : ℕ) → granule_at m g ≡ of_no_realm Undelegated) → IsProper m
fresh m sound all =
    let state : (g : ℕ) → (granule_at m g).state ≡ Undelegated = λ g. ap (λ (r : RmmGranule). r.state) (all g) in
    record {
      linked = record {
        sound = sound;
        level = λ g. 0;
        roles = λ g. inr (record {
          none = λ x i k u gives number. (let none : uses m (λ (h : ℕ). 0) x i k ≡ None = uses-plain m (λ (h : ℕ). 0) x i k (ap is_user (state x)) in let some = gives in absurd (cc));
          role = ap has_user (state g);
        });
        most = λ table is. (let free = state table in absurd (cc));
        inside = λ table i is lt. (let free = state table in absurd (cc));
      };
      ordered = record {
        each = λ g. subst (λ (r : RmmGranule). IsOrderly m r.state r.owner (page_in m g)) (sym (all g)) refl;
        recs = λ rd realm is. (let free = state rd in absurd (cc));
        halves = record {
          level = λ g. 0;
          place = λ g. 0;
          is = record {
            wide = λ rd realm is. (let free = state rd in absurd (cc));
            start = λ rd k realm is lt. (let free = state rd in absurd (cc));
            below = λ table i child is lt leads. (let free = state table in absurd (cc));
            half = λ rd table i ipa realm is owned lt covers. (let free = state rd in absurd (cc));
            block = λ table i is lt mapped. (let free = state table in absurd (cc));
          };
        };
      };
    }

pub returns-clause-start : goal.returns-clause-start
returns-clause-start c = fresh

free_at : (count g : ℕ) → get_or (replicate count (of_no_realm Undelegated)) g (of_no_realm Undelegated) ≡ of_no_realm Undelegated
free_at count g =
    ⊎_elim
    (λ (lt : g < count). get_or-replicate count g (of_no_realm Undelegated) (of_no_realm Undelegated) lt)
    (λ (past : count ≤ g). get_or_past (replicate count (of_no_realm Undelegated)) g (of_no_realm Undelegated) (subst (λ (n : ℕ). n ≤ g) (sym (length-replicate count (of_no_realm Undelegated))) past))
    (cases_lt g count)

pub returns-clause-opened : goal.returns-clause-opened
returns-clause-opened c = λ s pages platform few whole.
    let m : Machine = platform_machine s pages in
    let count : length m.granules ≡ length pages = length-replicate (length pages) (of_no_realm Undelegated) in
    let all : (g : ℕ) → granule_at m g ≡ of_no_realm Undelegated = free_at (length pages) in
    fresh m
    (record {
      platform = platform;
      few = subst (λ (n : ℕ). n ≤ 4096) (sym count) few;
      pages = sym count;
      whole = λ g lt. whole g (subst (λ (n : ℕ). g < n) count lt);
      tables = record {
        each = λ g. subst (λ (r : RmmGranule). IfSome (realm_of r.state) (IsServed (length m.granules))) (sym (all g)) tt;
      };
    })
    all

-- ---- calls

by_call : (o : Option Call) (r : Registers) (m : Machine) → IsProper m → IsProper (rmi_at o r m).1
unfolding performed
by_call None r m proper = proper
by_call (Some call) r m proper = kept IsProper (command_of call m) m proper (after call m proper)

pub returns-clause-calls : goal.returns-clause-calls
unfolding rmi
returns-clause-calls c = λ r m proper. by_call (call_in r) r m proper

pub returns-clause-stores : goal.returns-clause-stores
returns-clause-stores c = λ m address word proper. record { linked = stored m address word proper.linked; ordered = store_ordered m address word proper.ordered }

pub returns-clause-fills : goal.returns-clause-fills
returns-clause-fills c = λ m address value proper. record { linked = filled m address value proper.linked; ordered = fill_ordered m address value proper.ordered }

pub returns-clause-steps : goal.returns-clause-steps
returns-clause-steps c = given_kept

pub returns-clause-interrupts : goal.returns-clause-interrupts
returns-clause-interrupts c = interrupt_kept

pub returns-clause-entries : goal.returns-clause-entries
returns-clause-entries c = λ m g address flags run. entry_proper m g run address flags

pub returns-clause-guests : goal.returns-clause-guests
returns-clause-guests c = λ m g flags run. step_proper m g run flags

pub returns-clause-exits : goal.returns-clause-exits
returns-clause-exits c = λ m g exit last run. exit_proper m g run exit last

pub returns-clause-used : goal.returns-clause-used
returns-clause-used c = λ m proper user index part u gives. sym (ap (λ (v : Used). v.attributes) (right m proper.linked user index part u gives))

pub returns-clause-once : goal.returns-clause-once
returns-clause-once c = λ m proper x i k y j l u v one two same. one_place m proper.linked x i k y j l u v one two same
