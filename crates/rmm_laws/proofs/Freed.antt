-- Proofs that a granule becomes DELEGATED and zero when RTT_DESTROY, RTT_FOLD, DATA_DESTROY or REC_DESTROY removes it
-- from its realm.
use Rattle.std.proofs.Common.{◌≡◌, ◌≢◌, ℕ, ◌+◌, ◌-◌, ◌^◌, ◌<◌, ◌≤◌, ◌&&◌, List, [], ◌∷◌, Bool, true, false, not, length, Option, Some, None, unwrap_or, refl, sym, ap, subst, ◌∙◌, ⊎_elim, arith}
use Rattle.std.specs.Prelude.{nat_le, is_some}
use Rattle.std.proofs.lemmas.Bool.{cases_Bool, and_parts, both_ways, eqb-true, leb-true, ltb-true, not-true, cond-true, cond-false}
use Rattle.std.proofs.lemmas.List.{length-set}
use Rattle.granule_addr.specs.Page.{zero_page}
use Rattle.rmi_abi.specs.declared.registers.SmcResult.{SmcResult}
use Rattle.rmi_abi.specs.declared.word.Word.TheVariants.{Success}
use Rattle.rmi_abi.specs.declared.call.Call.{Call}
use Rattle.rmi_abi.specs.declared.call.Call.TheVariants.{RecDestroy, RttDestroy, RttFold, DataDestroy}
use Rattle.rmi_abi.specs.Word.{is_success}
use Rattle.rmm_model.specs.declared.answer.FailedCondition.{FailedCondition}
use Rattle.rmm_model.specs.declared.entry.RmmRttEntry.{RmmRttEntry}
use Rattle.rmm_model.specs.declared.entry.RmmRttEntry.TheVariants.{Assigned, Table}
use Rattle.rmm_model.specs.declared.granule.RmmGranule.{RmmGranule}
use Rattle.rmm_model.specs.declared.granule.RmmGranuleState.TheVariants.{Delegated, Rd, Data, Rtt}
use Rattle.rmm_model.specs.declared.realm.RmmRealm.{RmmRealm}
use Rattle.rmm_model.specs.declared.realm.RttWalk.{RttWalk}
use Rattle.rmm_model.specs.Call.{command_of, performed}
use Rattle.rmm_model.specs.Check.{Command, Check, first_failing, decided}
use Rattle.rmm_model.specs.Entry.{descriptor_of}
use Rattle.rmm_model.specs.Granule.{of_no_realm}
use Rattle.rmm_model.specs.Level.{entry_index}
use Rattle.rmm_model.specs.Machine.{Machine, granule_at, page_in, number_of, state_at, with_granule, with_page, with_blank}
use Rattle.rmm_model.specs.Realm.{is_in_space}
use Rattle.rmm_model.specs.Walk.{entry_at, table_below, memory_below, walk}
use Rattle.rmm_model.specs.Command.DataDestroy.{data_destroy}
use Rattle.rmm_model.specs.Command.Operand.{realm_at}
use Rattle.rmm_model.specs.Command.RecDestroy.{rec_destroy}
use Rattle.rmm_model.specs.Command.RttDestroy.{rtt_destroy}
use Rattle.rmm_model.specs.Command.RttFold.{rtt_fold}
use Rattle.rmm_laws.specs.Back.{ComesBack, RecComesBack}
use Rattle.rmm_laws.specs.Proper.{IsProper}
use Rattle.rmm_laws.specs.Role.{IsSound, IsBegin, LeadsInside}
use Rattle.rmm_laws.proofs.Accesses.{named_number}
use Rattle.rmm_laws.proofs.Mappings.{served, place_is, protected_within, some_of}
use Rattle.rmm_laws.proofs.Ordering.{memory_is}
use Rattle.rmm_laws.proofs.Passed.{Passed, passed, rec_named, yes_from, realm_of-some}
use Rattle.rmm_laws.proofs.RecsGone.{destroyed_back, destroyed_beside}
use Rattle.rmm_laws.proofs.Walks.{IsPlace, next, entry_index-few}
use Rattle.rmm_laws.proofs.Writes.{granule_at-same, granule_at-other, page_in-same, taken_inside}

-- ---- commands that succeed

-- no check of a list refuses with RMI_SUCCESS
abbrev pub none_succeeds : List Check → Bool
none_succeeds [] = true
none_succeeds (c ∷ cs) = not (is_success c.refusal.answer.word) && none_succeeds cs

pub same_refusal : {a b : FailedCondition} → Some a ≡ Some b → a ≡ b
same_refusal is = cc

refusal_fails : (cs : List Check) (refusal : FailedCondition) → none_succeeds cs ≡ true → first_failing cs ≡ Some refusal → is_success refusal.answer.word ≡ false
refusal_fails [] refusal none is = absurd (cc)
refusal_fails (c ∷ cs) refusal none is =
    let parts = and_parts (not (is_success c.refusal.answer.word)) (none_succeeds cs) none in
    ⊎_elim
    (λ (fails : c.fails ≡ true).
    let it : c.refusal ≡ refusal = same_refusal (sym (cond-true c.fails (Some c.refusal) (first_failing cs) fails) ∙ is) in
    ap (λ (f : FailedCondition). is_success f.answer.word) (sym it) ∙ not-true (is_success c.refusal.answer.word) parts.0)
    (λ (passes : c.fails ≡ false). refusal_fails cs refusal parts.1 (sym (cond-false c.fails (Some c.refusal) (first_failing cs) passes) ∙ is))
    (cases_Bool c.fails)

-- if no check of a command refuses with RMI_SUCCESS and the command succeeds, all checks pass, and the outcome is the
-- command's answer and machine
success_at : (P : Type 0) (f : Option FailedCondition) (command : Command) (m : Machine) → none_succeeds command.checks ≡ true → first_failing command.checks ≡ f → (decided f command m).0.word ≡ Success
    → (Passed command.checks → decided f command m ≡ (command.answer, command.machine) → P) → P
success_at P (Some refusal) command m none is success then_do = absurd (both_ways (is_success refusal.answer.word) (refusal_fails command.checks refusal none is) (ap is_success success))
success_at P None command m none is success then_do = then_do (passed command.checks is) refl

pub succeeded : (P : Type 0) (call : Call) (m : Machine) → none_succeeds (command_of call m).checks ≡ true → (performed call m).0.word ≡ Success
    → (Passed (command_of call m).checks → performed call m ≡ ((command_of call m).answer, (command_of call m).machine) → P) → P
unfolding performed
succeeded P call m none success then_do = success_at P (first_failing (command_of call m).checks) (command_of call m) m none refl success then_do

-- ---- what comes back

-- after the contents of granule `t` are written and granule `g` is wiped, `g` is DELEGATED and zero, and each other
-- granule keeps its attributes
blanked : (m : Machine) (g t rd : ℕ) (page : List ℕ) (address : ℕ) → IsSound m → g < length m.granules → g ≡ number_of m address
    → (granule_at (with_blank (with_page m t page) g Delegated) (number_of m address) ≡ of_no_realm Delegated) × (page_in (with_blank (with_page m t page) g Delegated) (number_of m address) ≡ zero_page)
    × ((x : ℕ) → x ≢ number_of m address → granule_at (with_blank (with_page m t page) g Delegated) x ≡ granule_at m x)
blanked m g t rd page address sound inside same =
    let k : Machine = with_page m t page in
    let pages = sound.pages in
    let count = length-set m.pages t page in
    subst (λ (x : ℕ). (granule_at (with_blank k g Delegated) x ≡ of_no_realm Delegated) × (page_in (with_blank k g Delegated) x ≡ zero_page)
    × ((y : ℕ) → y ≢ x → granule_at (with_blank k g Delegated) y ≡ granule_at m y)) same
    (granule_at-same k g (of_no_realm Delegated) inside, page_in-same (with_granule k g (of_no_realm Delegated)) g zero_page (omega arith), λ y other. granule_at-other k g y (of_no_realm Delegated) other)

-- the descriptor of an entry that leads to a table is the address where that table begins
pub table_address : (m : Machine) (entry : RmmRttEntry) (g : ℕ) → LeadsInside m entry → table_below m entry ≡ Some g → IsBegin m (descriptor_of entry) × (g ≡ number_of m (descriptor_of entry))
table_address m (Table address) g leads named = (leads, (named_number m address g named).1)
table_address m _ g leads named = absurd (cc)

-- the descriptor of an entry that leads to memory is the address where that memory begins
memory_address : (m : Machine) (entry : RmmRttEntry) (g : ℕ) → LeadsInside m entry → memory_below m entry ≡ Some g → IsBegin m (descriptor_of entry) × (g ≡ number_of m (descriptor_of entry))
memory_address m (Assigned ripas address) g leads named = (leads, (named_number m address g named).1)
memory_address m _ g leads named = absurd (cc)

module _ (m : Machine) (proper : IsProper m) (rd ipa level : ℕ) (is : (granule_at m (number_of m rd)).state ≡ Rd (realm_at m rd)) (within : ipa < 2 ^ (realm_at m rd).s2sz) (least : (realm_at m rd).start_level ≤ level) (page : List ℕ) where
  abbrev found : RttWalk
  found = walk m (realm_at m rd) ipa level

  end : IsPlace m proper.linked (number_of m rd) ipa found
  end = place_is m proper.linked (number_of m rd) ipa level (realm_at m rd) is within least

  pub leads_at : LeadsInside m (entry_at m (walk m (realm_at m rd) ipa level) ipa)
  unfolding entry_at
  leads_at = proper.linked.inside found.table (entry_index found.level ipa) (ap (λ (r : RmmGranule). r.state) end.table) (entry_index-few found.level ipa)

  pub table_back : is_some (table_below m (entry_at m (walk m (realm_at m rd) ipa level) ipa)) ≡ true
      → ComesBack m (with_blank (with_page m (walk m (realm_at m rd) ipa level).table page) (unwrap_or (table_below m (entry_at m (walk m (realm_at m rd) ipa level) ipa)) 0) Delegated) (number_of m rd) Rtt
      (descriptor_of (entry_at m (walk m (realm_at m rd) ipa level) ipa))
  table_back below =
      let entry : RmmRttEntry = entry_at m found ipa in
      let g : ℕ = unwrap_or (table_below m entry) 0 in
      let named : table_below m entry ≡ Some g = some_of (table_below m entry) below in
      let there = table_address m entry g leads_at named in
      let table = (next m proper.linked (number_of m rd) ipa found g end named).table in
      let state : (granule_at m g).state ≡ Rtt = ap (λ (r : RmmGranule). r.state) table in
      let then_is = blanked m g found.table (number_of m rd) page (descriptor_of entry) proper.linked.sound (taken_inside m g (λ free. cc)) there.1 in
      record { begins = there.0; was = ap (granule_at m) (sym there.1) ∙ table; is = then_is.0; blank = then_is.1; others = then_is.2 }

pub rtt_destroy_back : (m : Machine) (rd ipa level : ℕ) → IsProper m → (performed (RttDestroy rd ipa level) m).0.word ≡ Success
    → ComesBack m (performed (RttDestroy rd ipa level) m).1 (number_of m rd) Rtt (performed (RttDestroy rd ipa level) m).0.x1
unfolding rtt_destroy
rtt_destroy_back m rd ipa level proper success =
    succeeded (ComesBack m (performed (RttDestroy rd ipa level) m).1 (number_of m rd) Rtt (performed (RttDestroy rd ipa level) m).0.x1) (RttDestroy rd ipa level) m refl success
    (λ ok now.
    let realm : RmmRealm = realm_at m rd in
    let is = realm_of-some (state_at m rd) ok.1.1.0 in
    let least : realm.start_level + 1 ≤ level = leb-true _ _ (and_parts (nat_le (realm.start_level + 1) level) (nat_le level 3) (yes_from _ ok.1.1.1.0)).0 in
    let within : ipa < 2 ^ realm.s2sz = ltb-true _ _ (yes_from (is_in_space realm ipa) ok.1.1.1.1.1.0) in
    subst (λ (p : SmcResult × Machine). ComesBack m p.1 (number_of m rd) Rtt p.0.x1) (sym now)
    (table_back m proper rd ipa (level - 1) is within (omega arith) _ (yes_from _ ok.1.1.1.1.1.1.1.0)))

pub rtt_fold_back : (m : Machine) (rd ipa level : ℕ) → IsProper m → (performed (RttFold rd ipa level) m).0.word ≡ Success
    → ComesBack m (performed (RttFold rd ipa level) m).1 (number_of m rd) Rtt (performed (RttFold rd ipa level) m).0.x1
unfolding rtt_fold
rtt_fold_back m rd ipa level proper success =
    succeeded (ComesBack m (performed (RttFold rd ipa level) m).1 (number_of m rd) Rtt (performed (RttFold rd ipa level) m).0.x1) (RttFold rd ipa level) m refl success
    (λ ok now.
    let realm : RmmRealm = realm_at m rd in
    let is = realm_of-some (state_at m rd) ok.1.1.0 in
    let least : realm.start_level + 1 ≤ level = leb-true _ _ (and_parts (nat_le (realm.start_level + 1) level) (nat_le level 3) (yes_from _ ok.1.1.1.0)).0 in
    let within : ipa < 2 ^ realm.s2sz = ltb-true _ _ (yes_from (is_in_space realm ipa) ok.1.1.1.1.1.0) in
    subst (λ (p : SmcResult × Machine). ComesBack m p.1 (number_of m rd) Rtt p.0.x1) (sym now)
    (table_back m proper rd ipa (level - 1) is within (omega arith) _ (yes_from _ ok.1.1.1.1.1.1.1.0)))

pub data_destroy_back : (m : Machine) (rd ipa : ℕ) → IsProper m → (performed (DataDestroy rd ipa) m).0.word ≡ Success
    → ComesBack m (performed (DataDestroy rd ipa) m).1 (number_of m rd) Data (performed (DataDestroy rd ipa) m).0.x1
unfolding data_destroy
data_destroy_back m rd ipa proper success =
    succeeded (ComesBack m (performed (DataDestroy rd ipa) m).1 (number_of m rd) Data (performed (DataDestroy rd ipa) m).0.x1) (DataDestroy rd ipa) m refl success
    (λ ok now.
    let realm : RmmRealm = realm_at m rd in
    let is = realm_of-some (state_at m rd) ok.1.1.0 in
    let within = protected_within realm ipa (yes_from _ ok.1.1.1.1.0) in
    let least = (served m (number_of m rd) realm proper.linked is).level in
    let reaches : (walk m realm ipa 3).level ≡ 3 = eqb-true _ _ (yes_from _ ok.1.1.1.1.1.0) in
    let entry : RmmRttEntry = entry_at m (walk m realm ipa 3) ipa in
    let g : ℕ = unwrap_or (memory_below m entry) 0 in
    let named : memory_below m entry ≡ Some g = some_of (memory_below m entry) (yes_from _ ok.1.1.1.1.1.1.0) in
    let there = memory_address m entry g (leads_at m proper rd ipa 3 is within least []) named in
    let page = memory_is m proper.linked rd ipa is within reaches g named in
    let state : (granule_at m g).state ≡ Data = ap (λ (r : RmmGranule). r.state) page in
    let then_is = blanked m g (walk m realm ipa 3).table (number_of m rd) _ (descriptor_of entry) proper.linked.sound (taken_inside m g (λ free. cc)) there.1 in
    subst (λ (p : SmcResult × Machine). ComesBack m p.1 (number_of m rd) Data p.0.x1) (sym now)
    (record { begins = there.0; was = ap (granule_at m) (sym there.1) ∙ page; is = then_is.0; blank = then_is.1; others = then_is.2 }))

pub rec_destroy_back : (m : Machine) (rec : ℕ) → IsProper m → (performed (RecDestroy rec) m).0.word ≡ Success → RecComesBack m (performed (RecDestroy rec) m).1 rec
unfolding rec_destroy
rec_destroy_back m rec proper success =
    succeeded (RecComesBack m (performed (RecDestroy rec) m).1 rec) (RecDestroy rec) m refl success
    (λ ok now.
    let back = destroyed_back rec m proper ok in
    subst (λ (p : SmcResult × Machine). RecComesBack m p.1 rec) (sym now)
    (record { was = rec_named m rec ok.0 ok.1.0 ok.1.1.0; ready = ok.1.1.1.0; is = back.0.0; blank = back.0.1; aux = back.1; others = λ g beside. destroyed_beside rec m proper ok g beside }))
