-- The proof that the count of a build's running RECs is 0 if and only if no REC of its realm runs.
use Rattle.std.proofs.Common.{◌≡◌, ℕ, ◌<◌, false, List, Option, Some, None, refl, ap, ◌∙◌, arith}
use Rattle.std.specs.FinMap.{get}
use Rattle.std.specs.List.{range_with_len}
use Rattle.realm_model.specs.declared.act.Event.{Event}
use Rattle.realm_model.specs.Machine.{Limits, RealmRow, RecRow, Cell, Seen}
use Rattle.realm_model.specs.World.{World, realm_of}
use Rattle.realm_model.specs.History.{replay}
use Rattle.realm_model.specs.Running.{is_rec_running, rec_runs, next_number, running_count, IsAtRest, RestIsOfAll}
use Rattle.realm_model.proofs.PartRealm.{counted}
use Rattle.realm_model.proofs.Reachable.{reachable_worlds}
use Rattle.realm_model.proofs.RealmOf.{IsAt, IsAt-realm_of}
use Rattle.realm_model.proofs.RunningRecs.{runs, running, none_pass, none_passed}

-- ---- RECs that run, if their numbers are below the next
module _ (realm : RealmRow) (below : (number : ℕ) (rec : RecRow) → get realm.recs number ≡ Some rec → number < realm.next) where
  all_rest : running realm.recs realm.next ≡ 0 → (number : ℕ) → runs realm.recs number ≡ false
  all_rest none number = by_rec (get realm.recs number) refl
    where
      by_rec : (o : Option RecRow) → get realm.recs number ≡ o → runs realm.recs number ≡ false
      by_rec None is = ap is_rec_running is
      by_rec (Some rec) is =
          let high = below number rec is in
          none_passed (runs realm.recs) 0 realm.next number (omega arith) (omega arith) none

pub rest_from : (realm : Option Seen) → ((n : ℕ) → rec_runs realm n ≡ false) → IsAtRest realm
unfolding running_count
rest_from realm none = none_pass (rec_runs realm) (range_with_len 0 (next_number realm)) none

pub rest_is_of_all : (limits : Limits) (history : List Event) (b : ℕ) (w : World) → replay limits history ≡ Some w → RestIsOfAll w b
unfolding running_count
rest_is_of_all limits history b w at_w = (none_runs (realm_of b w) (IsAt-realm_of b w), rest_from (realm_of b w))
  where
    by_row : (o : Option RealmRow) → ((d : RealmRow) → o ≡ Some d → (number : ℕ) (rec : RecRow) → get d.recs number ≡ Some rec → number < d.next)
        → counted o ≡ 0 → (n : ℕ) → elim o [ Some d ↦ runs d.recs n | None ↦ false ] ≡ false
    by_row None below none n = refl
    by_row (Some d) below none n = all_rest d (below d refl) none n

    none_runs : (o : Option Seen) → IsAt w.machine o → IsAtRest o → (n : ℕ) → rec_runs o n ≡ false
    none_runs None at none n = refl
    none_runs (Some rd) at none n = by_row rd.cell.descriptor (λ d is. (reachable_worlds limits history w at_w).recs rd.number d (ap (λ (c : Cell). c.descriptor) at ∙ is)) none n
