-- A proof that a sound host with an empty history, together with event counts of 0, satisfies the invariant of the data
-- under a shared host's lock.
use Rattle.std.proofs.Common.{◌≡◌, ℕ, Bool, true, false, List, [], ◌∷◌, length, get_or, refl, sym, ap, ◌∙◌, arith}
use Rattle.std.proofs.lemmas.List.{get_or-replicate}
use Rattle.realm_model.specs.declared.act.Event.{Event}
use Rattle.realm_model.specs.History.{open_entries, events_of}
use Rattle.host_ledger.specs.View.{HostView, is_aborting}
use Rattle.host_ledger.proofs.Empty.{none_open}
use Rattle.build_seats.specs.Kept.{IsSound, IsKeptBehindLock}

-- if the history of a sound host is empty, no operation is open, so no build is in abort
none_aborts : (host : HostView) → IsSound host → host.history ≡ [] → (build : ℕ) → is_aborting host build ≡ false
none_aborts host sound empty build = at (is_aborting host build) refl
  where
    at : (t : Bool) → is_aborting host build ≡ t → is_aborting host build ≡ false
    at false is = is
    at true is =
        let some = (sound.points build).in_abort is in
        let none = ap length (ap (open_entries build) empty ∙ none_open build) in
        absurd (omega (arith, some, none))

pub kept_at_start : (opened host : HostView) (books : List ℕ) → IsSound host → host.history ≡ [] → host ≡ opened → books ≡ 0 ∷ 0 ∷ 0 ∷ 0 ∷ 0 ∷ 0 ∷ 0 ∷ 0 ∷ []
    → IsKeptBehindLock opened (record { host = host; books = books })
kept_at_start opened host books sound empty same zeros = record {
  shared = record { sound = sound; no_abort = none_aborts host sound empty };
  counted = record {
    whole = ap length zeros;
    each = λ build below. ap (λ bs. get_or bs build 0) zeros ∙ get_or-replicate 8 build 0 0 below ∙ sym (ap (λ (h : List Event). length (events_of build h)) empty);
  };
  of_start = record { limits = ap (λ (h : HostView). h.limits) same; capacity = ap (λ (h : HostView). h.capacity) same };
}
