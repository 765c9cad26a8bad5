-- A proof that decoding a call from registers and encoding the call again gives the same X0 and the same operand
-- registers.
use Rattle.std.proofs.Common.{◌≡◌, ℕ, ◌==◌, Bool, true, false, cond, Option, Some, None, refl, ap, ◌∙◌, subst, nat_le}
use Rattle.std.proofs.lemmas.Bool.{eqb-true}
use Rattle.rmi_abi.specs.declared.call.Call.{Call}
use Rattle.rmi_abi.specs.declared.call.Call.TheVariants.{Version, GranuleDelegate, GranuleUndelegate, DataCreate, DataCreateUnknown, DataDestroy, RealmActivate, RealmCreate, RealmDestroy, RecCreate, RecDestroy, RecEnter}
use Rattle.rmi_abi.specs.declared.call.Call.TheVariants.{RttCreate, RttDestroy, RttMapUnprotected, RttReadEntry, RttUnmapUnprotected, PsciComplete, Features, RttFold, RecAuxCount, RttInitRipas, RttSetRipas}
use Rattle.rmi_abi.specs.declared.registers.Registers.{Registers}
use Rattle.rmi_abi.specs.Call.{call_in, first_call_in, last_call_in, registers_of, operand_count, with_operands}

-- X0 and the operand registers hold the call's encoding; the registers after these may have any value
abbrev pub Agrees : Registers → Call → Type 0
Agrees r call = with_operands (operand_count call) r ≡ registers_of call

-- registers agree with the decoded call, which is `c` or the call of `rest`, if they agree with the call of `rest` and,
-- when X0 is `function`, with `c`
found : (r : Registers) (call c : Call) (rest : Option Call) (function : ℕ) → (r.x0 ≡ function → Agrees r c) → (rest ≡ Some call → Agrees r call)
    → (same : Bool) → (same ≡ true → r.x0 ≡ function) → cond same (Some c) rest ≡ Some call → Agrees r call
found r call c rest function here more true same is = let it : c ≡ call = cc in subst (Agrees r) it (here (same refl))
found r call c rest function here more false same is = more is

module _ (r : Registers) (call : Call) where
  -- registers with the operands of `c` agree with the decoded call, which is `c` if X0 is `function`, and otherwise the
  -- call of `rest`, with which they agree
  one : (function : ℕ) (c : Call) (rest : Option Call) → record (with_operands (operand_count c) r) { x0 = function } ≡ registers_of c
      → (rest ≡ Some call → Agrees r call) → cond (r.x0 == function) (Some c) rest ≡ Some call → Agrees r call
  one function c rest agrees more =
      found r call c rest function (λ same. ap (λ (x : ℕ). record (with_operands (operand_count c) r) { x0 = x }) same ∙ agrees) more (r.x0 == function) (eqb-true r.x0 function)

  none : None ≡ Some call → Agrees r call
  none is = cc

  first : first_call_in r ≡ Some call → Agrees r call
  first =
      one 0xC4000150 (Version r.x1) _ refl
      (one 0xC4000151 (GranuleDelegate r.x1) _ refl
      (one 0xC4000152 (GranuleUndelegate r.x1) _ refl
      (one 0xC4000153 (DataCreate r.x1 r.x2 r.x3 r.x4 r.x5) _ refl
      (one 0xC4000154 (DataCreateUnknown r.x1 r.x2 r.x3) _ refl
      (one 0xC4000155 (DataDestroy r.x1 r.x2) _ refl
      (one 0xC4000157 (RealmActivate r.x1) _ refl
      (one 0xC4000158 (RealmCreate r.x1 r.x2) _ refl
      (one 0xC4000159 (RealmDestroy r.x1) _ refl
      (one 0xC400015A (RecCreate r.x1 r.x2 r.x3) _ refl
      (one 0xC400015B (RecDestroy r.x1) _ refl
      (one 0xC400015C (RecEnter r.x1 r.x2) _ refl none)))))))))))

  last : last_call_in r ≡ Some call → Agrees r call
  last =
      one 0xC400015D (RttCreate r.x1 r.x2 r.x3 r.x4) _ refl
      (one 0xC400015E (RttDestroy r.x1 r.x2 r.x3) _ refl
      (one 0xC400015F (RttMapUnprotected r.x1 r.x2 r.x3 r.x4) _ refl
      (one 0xC4000161 (RttReadEntry r.x1 r.x2 r.x3) _ refl
      (one 0xC4000162 (RttUnmapUnprotected r.x1 r.x2 r.x3) _ refl
      (one 0xC4000164 (PsciComplete r.x1 r.x2 r.x3) _ refl
      (one 0xC4000165 (Features r.x1) _ refl
      (one 0xC4000166 (RttFold r.x1 r.x2 r.x3) _ refl
      (one 0xC4000167 (RecAuxCount r.x1) _ refl
      (one 0xC4000168 (RttInitRipas r.x1 r.x2 r.x3) _ refl
      (one 0xC4000169 (RttSetRipas r.x1 r.x2 r.x3 r.x4) _ refl none))))))))))

  -- registers agree with the call that is decoded from them
  pub decoded : call_in r ≡ Some call → Agrees r call
  decoded = either (nat_le r.x0 0xC400015C) (first_call_in r) (last_call_in r) first last
    where
      either : (b : Bool) (x y : Option Call) → (x ≡ Some call → Agrees r call) → (y ≡ Some call → Agrees r call) → cond b x y ≡ Some call → Agrees r call
      either true x y low high is = low is
      either false x y low high is = high is
