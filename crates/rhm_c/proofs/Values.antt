-- Lemmas about `HeldHost` in separation logic: it is a pointer that owns a host, or a null pointer that owns nothing.
-- The proofs assume `Logic`, the interface of the separation logic.
use Rattle.std.proofs.Common.{◌≡◌, ℕ, List, [], ◌∷◌, ◌++◌, refl, subst, w64}
use mathlib.Core.Bool.{Bool, true, not}
use lib.Dec.{T}
use seplogic.Ra.Ura.{Ura}
use mir.Raw.{raw as bare}
use mir.Val.{Val, vint, vptr, vstruct, vcons, vnil, of_list}
use base.Logic.{never, fst∗}
use types.Logic.{Logic, sem}
use types.Kit.{Item, Goal, Seq, Step, step, ‵, ◌$◌, drop, fsplit, fjoin, fpick, fpack, rewrite, feq_i, feq_l}
use denote.RattleType.{RattleType, Valss}
use denote.Builtin.{RawPtr}
use denote.Memory.{lone}
use denote.RawPtr.{Ptr, block_ptr, null_ptr, ptr_val, in_a_block}
use denote.Steps.{nothing}
use denote.Struct.Struct.{within}
use denote.Struct.Owning.{shape}
use Rattle.std.specs.Prelude.{Option, Some, None, is_some}
use Rattle.std_alloc.specs.Box.Ownership.{box_owns}
use Rattle.box_parts.specs.Owned.{right, held_owns}
use Rattle.rhm_c.specs.declared.placed_host.PlacedHost.{PlacedHost}
use Rattle.rhm_c.specs.contracts.placed_host.PlacedHost.{the_row as host_row}
use Rattle.rhm_c.specs.contracts.held.HeldHost as held

pub record Full {A : Type 0} (o : Option A) : Type 0 where
  pub value : A
  pub is : o ≡ Some value

pub full : {A : Type 0} (o : Option A) → is_some o ≡ true → Full o
full (Some x) e = record { value = x; is = refl }
full None e = absurd (subst (λ (b : Bool). T (not b)) e tt)

abbrev pub one : Val → Val
one v = vstruct (vcons v vnil)

abbrev pub HeldHost : RattleType
HeldHost = held.the_row

module _ {M : Type 1} {𝓤 : Ura M} {𝓛 : Logic 𝓤} {K : Type 0} {Γ : List (Item 𝓤)} {G : Goal 𝓤 𝓛.H} where
  pub held_out : K → (d : HeldHost.Denot) (vs : List Val) → is_some d.host ≡ true
      → ((b o : ℕ) (x : PlacedHost) → d.at ≡ block_ptr b o → d.host ≡ Some x → vs ≡ one (vptr b o) ∷ [] → Seq K 𝓛 (‵ (box_owns right host_row (block_ptr b o) x) ∷ Γ) G)
      → Seq K 𝓛 (‵ (HeldHost.own_val d vs) ∷ Γ) G
  held_out t d vs some k = let it = full d.host some in
      fsplit t $ fpick t (λ vss. fsplit t $ feq_l t (λ ev. fsplit t $ feq_l t (λ ep. drop t $
      rewrite t 0 (λ (o : Option PlacedHost). ‵ (held_owns host_row d.at o)) it.is refl $
      in_a_block t d.at (λ p. box_owns right host_row p it.value) (fst∗ 𝓤 (never 𝓤) (sem 𝓛 (right (bare (lone host_row.mir)) null_ptr))) (λ b o e. k b o it.value e it.is
      (subst (λ (p : Ptr). vs ≡ vstruct (of_list (ptr_val p ∷ [])) ∷ []) e
      (subst (λ (ps : List Val). vs ≡ vstruct (of_list (ps ++ [])) ∷ []) ep ev))))))

  pub held_in : K → (b o : ℕ) (x : PlacedHost)
      → Step K 𝓛 (‵ (HeldHost.own_val (record { at = block_ptr b o; host = Some x }) (one (vptr b o) ∷ [])) ∷ Γ) G (‵ (box_owns right host_row (block_ptr b o) x) ∷ Γ) G
  held_in t b o x = step (λ s. let v : Val = one (vptr b o) in
      nothing t $ feq_i t (List Val) (vptr b o ∷ []) (vptr b o ∷ []) refl $ fjoin t $ feq_i t (List Val) (v ∷ []) (v ∷ []) refl $ fjoin t $
      fpack t (Valss (RawPtr ∷ [])) (within (shape held.the_type) (block_ptr b o, tt) (v ∷ [])) (vptr b o ∷ [], tt) $ fjoin t $ s)

  pub none_in : K → Step K 𝓛 (‵ (HeldHost.own_val (record { at = null_ptr; host = None }) (one (vint w64 0) ∷ [])) ∷ Γ) G Γ G
  none_in t = step (λ s. let v : Val = one (vint w64 0) in
      nothing t $ nothing t $ feq_i t (List Val) (vint w64 0 ∷ []) (vint w64 0 ∷ []) refl $ fjoin t $ feq_i t (List Val) (v ∷ []) (v ∷ []) refl $ fjoin t $
      fpack t (Valss (RawPtr ∷ [])) (within (shape held.the_type) (null_ptr, tt) (v ∷ [])) (vint w64 0 ∷ [], tt) $ fjoin t $ s)
