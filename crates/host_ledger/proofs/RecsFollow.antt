-- Proofs that the ledger's update of a build's RECs gives the RECs after one more operation. Numbers that rise along
-- the list still rise with one more REC at its end, exactly if the number of that REC is above all others.
use Rattle.std.proofs.Common.{◌≡◌, ℕ, ◌+◌, ◌-◌, ◌<◌, ◌≤◌, ⊎_elim, List, [], ◌∷◌, ◌++◌, length, take, refl, sym, ap, ◌∙◌, subst, arith}
use Rattle.std.specs.List.{flat_map}
use Rattle.std.proofs.lemmas.Bool.{cases_lt}
use Rattle.std.proofs.lemmas.List.{length-append, get_or_append_left, get_or-append-add}
use Rattle.std.proofs.Math.Seq.{take-append_seam}
use Rattle.realm_model.specs.declared.act.Act.{Act}
use Rattle.realm_model.specs.declared.act.Act.TheVariants.{Rec, UnRec}
use Rattle.realm_model.specs.declared.act.Event.{Event}
use Rattle.realm_model.specs.Act.{is_reverse, reverse_of}
use Rattle.realm_model.specs.History.{IsInTurn}
use Rattle.realm_model.specs.Undoing.{by}
use Rattle.realm_model.specs.RecsOpen.{rec_made, recs_open, number_at, IsRising}
use Rattle.realm_model.proofs.RecsOpen.{rec_removed, removed_as_made}
use Rattle.host_ledger.specs.Recs.{IsAbove}
use Rattle.host_ledger.specs.Kept.{recs_after}
use Rattle.host_ledger.proofs.Made.{opens, closes, stays}

all_but_last : (recs left : List (ℕ × ℕ)) (rec : ℕ × ℕ) → recs ≡ left ++ rec ∷ [] → left ≡ take (length recs - 1) recs
all_but_last recs left rec e =
    let long : length recs ≡ length left + 1 = ap length e ∙ length-append left (rec ∷ []) in
    let count : length recs - 1 ≡ length left = omega arith in
    sym (take-append_seam left (rec ∷ [])) ∙ (λ i. take (sym count i) (sym e i))

pub recs_follow : (history : List Event) (build : ℕ) (act : Act) → IsInTurn history (by build act)
    → recs_open build (history ++ by build act ∷ []) ≡ recs_after (recs_open build history) act
unfolding reverse_of is_reverse
recs_follow history build (Rec granule auxiliaries number) turn = opens rec_made rec_removed removed_as_made history build (Rec granule auxiliaries number) turn refl
recs_follow history build (UnRec granule auxiliaries number) turn =
    all_but_last (recs_open build history) _ (number, granule) (closes rec_made rec_removed removed_as_made history build (UnRec granule auxiliaries number) turn refl refl)
recs_follow history build act turn = stays rec_made rec_removed removed_as_made history build act turn refl refl

-- ---- no more RECs than open acts

pub few_recs : (acts : List Act) → length (flat_map rec_made acts) ≤ length acts
few_recs [] = omega arith
few_recs (Rec granule auxiliaries number ∷ acts) = let rest = few_recs acts in omega arith
few_recs (_ ∷ acts) = let rest = few_recs acts in omega arith

-- ---- numbers that rise

-- a list of RECs with one more REC at its end
module _ (recs : List (ℕ × ℕ)) (number granule : ℕ) where
  abbrev more : List (ℕ × ℕ)
  more = recs ++ (number, granule) ∷ []

  long : length more ≡ length recs + 1
  long = length-append recs ((number, granule) ∷ [])

  before : (i : ℕ) → i < length recs → number_at more i ≡ number_at recs i
  before i inside = ap (λ (r : ℕ × ℕ). r.0) (get_or_append_left recs ((number, granule) ∷ []) (0, 0) i inside)

  last : (i : ℕ) → i ≡ length recs + 0 → number_at more i ≡ number
  last i place = ap (number_at more) place ∙ ap (λ (r : ℕ × ℕ). r.0) (get_or-append-add recs ((number, granule) ∷ []) 0 (0, 0))

  -- if the numbers rise in a list with one more REC at its end, the number of that REC is above all numbers before it
  pub above_others : IsRising more → IsAbove recs number
  above_others rising i inside =
      let less = rising i (length recs) inside (let more = long in omega (arith, more)) in
      omega (arith, less, before i inside, last (length recs) (omega arith))

  -- if the numbers of a list rise, they still do after a REC with a number above all of them is added at the end
  pub rising_with : IsRising recs → IsAbove recs number → IsRising more
  rising_with rising above i j less inside =
      ⊎_elim
      (λ within. let lower = rising i j less within in omega (arith, lower, before i (omega arith), before j within))
      (λ past.
      let end = long in
      let here : i < length recs = omega (arith, end) in
      let lower = above i here in
      omega (arith, lower, before i here, last j (omega (arith, end))))
      (cases_lt j (length recs))

pub none_rise : (recs : List (ℕ × ℕ)) → recs ≡ [] → IsRising recs
none_rise recs none = subst IsRising (sym none) (λ i j less inside. absurd (omega arith))
