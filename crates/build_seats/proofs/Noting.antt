-- Proofs that recording one more event preserves the invariant of the data under a shared host's lock.
use Rattle.std.proofs.Common.{◌≡◌, ◌≢◌, ℕ, ◌+◌, ◌<◌, inl, inr, List, [], ◌∷◌, ◌++◌, Bool, true, false, ◌&&◌, ◌==◌, cond, length, get_or, set}
use Rattle.std.proofs.Common.{refl, sym, ap, ◌∙◌, subst, arith, add-zero, length-set, length-append, get_or-set_same, get_or-set_other}
use Rattle.std.proofs.lemmas.Bool.{eq-eqb, ne_eqb, cases_eq}
use Rattle.std.proofs.lemmas.List.Elements.{filter-append}
use Rattle.std.specs.Prelude.{nat_lt}
use Rattle.realm_model.specs.declared.act.Act.{Act}
use Rattle.realm_model.specs.declared.act.Event.{Event}
use Rattle.realm_model.specs.History.{open_entries, events_of}
use Rattle.realm_model.specs.Undoing.{by}
use Rattle.realm_model.specs.StepLaw.{set_each}
use Rattle.realm_model.specs.Command.Check.{is_in}
use Rattle.realm_model.proofs.SetEach.{get_or-set_each}
use Rattle.host_ledger.specs.View.{HostView, is_aborting, with_event}
use Rattle.build_seats.specs.Kept.{KeptView, IsSound, IsShared, IsCounted, IsKeptBehindLock}
use Rattle.build_seats.specs.Seats.{SeatView, with_noted}
use Rattle.build_seats.specs.Start.{IsOfStart}
use Rattle.build_seats.specs.Told.{IsBehind}

-- ---- counts

one_if : (t : Bool) (event : Event) → length (cond t (event ∷ []) []) ≡ cond t 1 0
one_if true event = refl
one_if false event = refl

count_more : (build : ℕ) (history : List Event) (event : Event)
    → length (events_of build (history ++ event ∷ [])) ≡ length (events_of build history) + cond (event.build == build) 1 0
count_more build history event =
    ap length (filter-append (λ (e : Event). e.build == build) history (event ∷ []))
    ∙ length-append (events_of build history) (cond (event.build == build) (event ∷ []) [])
    ∙ ap (λ n. length (events_of build history) + n) (one_if (event.build == build) event)

one_more : (build : ℕ) (history : List Event) (act : Act) → length (events_of build (history ++ by build act ∷ [])) ≡ length (events_of build history) + 1
one_more build history act = count_more build history (by build act) ∙ ap (λ t. length (events_of build history) + cond t 1 0) (eq-eqb build build refl)

as_many : (other build : ℕ) (history : List Event) (act : Act) → other ≢ build → length (events_of other (history ++ by build act ∷ [])) ≡ length (events_of other history)
as_many other build history act apart =
    count_more other history (by build act) ∙ ap (λ t. length (events_of other history) + cond t 1 0) (ne_eqb build other (λ e. apart (sym e)))
    ∙ add-zero (length (events_of other history))

-- ---- aborts

both_false : (t : Bool) → cond t false false ≡ false
both_false true = refl
both_false false = refl

no_abort_set : (flags : List Bool) (build : ℕ) (flag : Bool) → flag ≡ false → ((other : ℕ) → get_or flags other false ≡ false)
    → (other : ℕ) → get_or (set flags build flag) other false ≡ false
unfolding set_each
no_abort_set flags build flag is none other =
    ap (λ f. get_or (set flags build f) other false) is
    ∙ get_or-set_each false (build ∷ []) flags other
    ∙ ap (λ f. cond (is_in other (build ∷ [])) false f) (none other)
    ∙ both_false (is_in other (build ∷ []))

pub no_abort_after : (host : HostView) (build : ℕ) (act : Act) → ((other : ℕ) → is_aborting host other ≡ false) → (other : ℕ) → is_aborting (with_event host build act) other ≡ false
no_abort_after host build act none =
    no_abort_set host.aborting build _ (ap (λ t. t && nat_lt 0 (length (open_entries build (host.history ++ by build act ∷ [])))) (none build)) none

-- ---- the content of the lock, after one more event

module _ (opened : HostView) (kept : KeptView) (is_kept : IsKeptBehindLock opened kept) (build count : ℕ) (below : build < 8) (had : get_or kept.books build 0 ≡ count) where
  pub count_before : length (events_of build kept.host.history) ≡ count
  count_before = sym (is_kept.counted.each build below) ∙ had

  module _ (act : Act) (host : HostView) (grows : host ≡ with_event kept.host build act) where
    pub count_after : length (events_of build host.history) ≡ count + 1
    count_after = ap (λ (h : HostView). length (events_of build h.history)) grows ∙ one_more build kept.host.history act ∙ ap (λ n. n + 1) count_before

    of_start_after : IsOfStart opened host
    of_start_after = subst (IsOfStart opened) (sym grows) (record { limits = is_kept.of_start.limits; capacity = is_kept.of_start.capacity })

    pub shared_after : IsSound host → IsShared host
    shared_after sound = record {
      sound = sound;
      no_abort = subst (λ (h : HostView). (other : ℕ) → is_aborting h other ≡ false) (sym grows) (no_abort_after kept.host build act is_kept.shared.no_abort);
    }

    module _ (books : List ℕ) (books_is : books ≡ set kept.books build (count + 1)) where
      counted_after : IsCounted (kept.host.history ++ by build act ∷ []) (set kept.books build (count + 1))
      counted_after = record {
        whole = length-set kept.books build (count + 1) ∙ is_kept.counted.whole;
        each = λ other low. elim (cases_eq other build) [
          | inl same ↦
              let there : build < length kept.books = let whole = is_kept.counted.whole in omega arith in
              ap (λ k. get_or (set kept.books build (count + 1)) k 0) same ∙ get_or-set_same kept.books build (count + 1) 0 there
              ∙ sym (ap (λ k. length (events_of k (kept.host.history ++ by build act ∷ []))) same ∙ one_more build kept.host.history act ∙ ap (λ n. n + 1) count_before)
          | inr apart ↦
              get_or-set_other kept.books build other (count + 1) 0 apart ∙ is_kept.counted.each other low ∙ sym (as_many other build kept.host.history act apart)
        ];
      }

      pub kept_after : IsSound host → IsKeptBehindLock opened (record { host = host; books = books })
      kept_after sound = record {
        shared = shared_after sound;
        counted = subst (λ (h : HostView). IsCounted h.history books) (sym grows) (subst (IsCounted (kept.host.history ++ by build act ∷ [])) (sym books_is) counted_after);
        of_start = of_start_after;
      }

-- ---- as a call finds it, with the build's seat

module _ (opened : HostView) (kept : KeptView) (is_kept : IsKeptBehindLock opened kept) (first : KeptView) (first_is : kept ≡ first) (seat : SeatView) (below : seat.build < 8)
    (behind : IsBehind opened first.host seat) (build : ℕ) (build_is : build ≡ seat.build) (act : Act) (host : HostView) (grew : host ≡ with_event kept.host build act) (now : SeatView) (same : now ≡ seat) where
  had : get_or kept.books seat.build 0 ≡ seat.count
  had = is_kept.counted.each seat.build below ∙ ap (λ (k : KeptView). length (events_of seat.build k.host.history)) first_is ∙ behind.counted

  grows : host ≡ with_event kept.host seat.build act
  grows = grew ∙ ap (λ b. with_event kept.host b act) build_is

  pub seat_counts : length (events_of now.build host.history) ≡ now.count + 1
  seat_counts =
      ap (λ (s : SeatView). length (events_of s.build host.history)) same
      ∙ count_after opened kept is_kept seat.build seat.count below had act host grows ∙ sym (ap (λ (s : SeatView). s.count + 1) same)

  module _ (sound : IsSound host) where
    pub kept_noted : (books : List ℕ) → books ≡ set kept.books now.build (now.count + 1) → IsKeptBehindLock opened (record { host = host; books = books })
    kept_noted books books_is =
        kept_after opened kept is_kept seat.build seat.count below had act host grows books
        (books_is ∙ ap (λ (s : SeatView). set kept.books s.build (s.count + 1)) same) sound

    pub behind_noted : (new : SeatView) → ((before : List Event) (event : Event) → host.history ≡ before ++ event ∷ [] → new ≡ with_noted now event) → IsBehind opened host new
    behind_noted new noted =
        let seat_is = noted kept.host.history (by seat.build act) (ap (λ (h : HostView). h.history) grows) in
        record {
          shared = shared_after opened kept is_kept seat.build seat.count below had act host grows sound;
          of_start = of_start_after opened kept is_kept seat.build seat.count below had act host grows;
          counted = ap (λ (s : SeatView). length (events_of s.build host.history)) seat_is ∙ seat_counts ∙ sym (ap (λ (s : SeatView). s.count) seat_is);
        }
