-- Proofs that each REC after a single write was a REC of the same owner before, if the write creates no REC.
use Rattle.std.proofs.Common.{◌≡◌, ◌≢◌, ℕ, ◌<◌, length, Some, None, refl, sym, ap, subst, ◌∙◌, ⊎_elim}
use Rattle.std.proofs.lemmas.Bool.{cases_eq}
use Rattle.std.proofs.lemmas.List.{length-set}
use Rattle.rmm_model.specs.declared.granule.RmmGranule.{RmmGranule}
use Rattle.rmm_model.specs.declared.granule.RmmGranuleState.TheVariants.{Rec as IsRec}
use Rattle.rmm_model.specs.declared.rec.RmmRec.{RmmRec}
use Rattle.rmm_model.specs.Granule.{rec_of}
use Rattle.rmm_model.specs.Machine.{Machine, granule_at, with_granule}
use Rattle.rmm_model.specs.Command.PsciComplete.{with_rec}
use Rattle.rmm_laws.specs.Owner.{IsRecOf}
use Rattle.rmm_laws.proofs.Writes.{granule_at-same, granule_at-other, taken_inside}

-- each REC of the second machine was a REC of the same owner in the first
abbrev pub RecsStay : Machine → Machine → Type 0
RecsStay m n = (g : ℕ) (rec : RmmRec) → (granule_at n g).state ≡ IsRec rec → IsRecOf m g (granule_at n g).owner

pub recs_all : (m : Machine) → RecsStay m m
recs_all m g rec is = (rec, is, refl)

-- a REC in a granule that is not written was a REC of the same owner before
beside : (m k : Machine) (x g : ℕ) (kept : RmmGranule) (rec : RmmRec) → g ≢ x → RecsStay m k → (granule_at (with_granule k x kept) g).state ≡ IsRec rec → IsRecOf m g (granule_at (with_granule k x kept) g).owner
beside m k x g kept rec other stay is =
    let same : granule_at (with_granule k x kept) g ≡ granule_at k g = granule_at-other k x g kept other in
    subst (λ (r : RmmGranule). IsRecOf m g r.owner) (sym same) (stay g rec (sym (ap (λ (r : RmmGranule). r.state) same) ∙ is))

-- writing a granule that is no REC after the write keeps `RecsStay`
pub recs_plain : (m k : Machine) (x : ℕ) (kept : RmmGranule) → rec_of kept.state ≡ None → RecsStay m k → RecsStay m (with_granule k x kept)
recs_plain m k x kept plain stay g rec is =
    let n : Machine = with_granule k x kept in
    ⊎_elim
    (λ (here : g ≡ x).
    let there : (granule_at n x).state ≡ IsRec rec = subst (λ (y : ℕ). (granule_at n y).state ≡ IsRec rec) here is in
    let within : x < length k.granules = subst (λ (c : ℕ). x < c) (length-set k.granules x kept) (taken_inside n x (λ free. cc)) in
    let state : kept.state ≡ IsRec rec = sym (ap (λ (r : RmmGranule). r.state) (granule_at-same k x kept within)) ∙ there in
    let some : rec_of kept.state ≡ Some rec = ap rec_of state in
    absurd (cc))
    (λ (other : g ≢ x). beside m k x g kept rec other stay is)
    (cases_eq g x)

-- writing the attributes of a REC keeps `RecsStay`
pub recs_rec : (m k : Machine) (x : ℕ) (new old : RmmRec) → (granule_at k x).state ≡ IsRec old → RecsStay m k → RecsStay m (with_rec k x new)
recs_rec m k x new old was stay g rec is =
    let kept : RmmGranule = record (granule_at k x) { state = IsRec new } in
    let n : Machine = with_granule k x kept in
    ⊎_elim
    (λ (here : g ≡ x).
    let within : x < length k.granules = taken_inside k x (λ free. cc) in
    let same : granule_at n g ≡ kept = ap (granule_at n) here ∙ granule_at-same k x kept within in
    subst (λ (r : RmmGranule). IsRecOf m g r.owner) (sym same) (subst (λ (y : ℕ). IsRecOf m y (granule_at k x).owner) (sym here) (stay x old was)))
    (λ (other : g ≢ x). beside m k x g kept rec other stay is)
    (cases_eq g x)
