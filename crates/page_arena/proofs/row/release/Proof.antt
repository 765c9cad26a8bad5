-- The proof of `release`, which frees the memory of an array without dropping the array's items. Assumes the separation
-- logic `Logic`.
use Rattle.page_arena.proofs.Steps.{◌*◌, ◌<◌, ◌≤◌, ◌^◌, ◌≡◌, ◌∙◌, ◌∷◌, ◌∵◌, ◌⊛◌, ◌$◌, !, Ended, List, Stays, Val, [], ap, arith, align_word, alloc_all}
use Rattle.page_arena.proofs.Steps.{and_then, at_ret, await, bin, block_ptr, blocks, done, drop, ends_at, enter, env, exec, fact, feq_i, first, fjoin}
use Rattle.page_arena.proofs.Steps.{flft, fld, framed, free_all, froom, fsplit, get, get_in, given, Goes-dropped, group, heard, in_a_block, inst_fn}
use Rattle.page_arena.proofs.Steps.{is, join, keep, lands_last, later, learn, length, look_at, move, named, no, no_more, nothing, of_opd, pass_all}
use Rattle.page_arena.proofs.Steps.{plain, proved, ptr_val, qed, raw, refl, returns, rewrite, sets, size_word, split, split3, stay_dropped, stop, sub}
use Rattle.page_arena.proofs.Steps.{subst, suffices, sym, tables, ty_array, unit_lit, usize, use1, vint, vunit, w64, walk_of, whole, yes, ℕ, ‵, after}
use base.Fml.{Incl-trans}
use lib.Dec.{T as Yes}
use mir.Syntax.{ty_unit}
use mir.Val.{has_ty, WT}
use prog.Memory.{align, capped}
use prog.Capped.{capped_fits}
use denote.Builtin.{RefOf}
use denote.Ref.{shr_vals, shr_Tells}
use denote.RattleType.{owns}
use denote.Signature.{types_at}
use denote.Triple.Call.{calls_at_last}
use denote.Triple.Entry.{Vals}
use denote.Plain.{uint_vals, uint_Tells}
use contract.BorrowLft.{◌⊑◌}
use Rattle.core.specs.Allocator.{array_of}
use Rattle.core.proofs.alloc.Calls.{Goes-blank, Gives, at_gives, Gives-goes, Gives-Gives}
use Rattle.core.proofs.mem.Param.{El as Elements}
use Rattle.core.proofs.slots.Leases.{uncapped, block_size, block_align}
use Rattle.std_alloc.proofs.RawLayout.{as_raw}
use Rattle.std_alloc.proofs.RcSteps.{word-Good}
use Rattle.std_alloc.proofs.VecSteps.El.{El, R, P, args, sz, elτ}
use Rattle.page_arena.specs.Owned.{Reaches, row_owns}
use Rattle.page_arena.proofs.Rows.{null_owns, right, Starts, Owner, all_room, Others, start_val, start_lowers, owner_val, owner_lowers}
use Rattle.page_arena.specs.contracts.row.release as f
use Rattle.page_arena.proofs.row.release.Statement.{statement}
use Rattle.page_arena.proofs.row.release.Code as code

module _ (E : El) where
  abbrev T : Ended
  T = f.ended E.row E.al.row E.al.g E.al.d E.al.drops

  abbrev stayed : Stays T.signature.params T.kept
  stayed = (stay_dropped _ yes, (stay_dropped _ no, (stay_dropped _ yes, (stay_dropped _ no, tt))))

  abbrev Asks : E.al.row.Denot → (Starts E).Denot → ℕ → (Owner E).Denot → Type 0
  Asks by start room row = (row.at ≡ start.first) × (row.room ≡ room) × (length row.items ≤ room) × (row.alloc ≡ by) × Reaches (R E) room

pub release_spec : {M : Type 1} → statement M
release_spec 𝓤 𝓛 𝓜 𝓡 wired X W LX LW g d dd met md =
    let E : El = record { row = X; laws = LX; al = record { row = W; laws = LW; g = g; d = d; drops = dd } } in let Z = E.al in
    let c = f.clauses X W g d dd 𝓛 𝓜.mem 𝓡.returns in let 𝓣 = tables 𝓤 𝓛.H 𝓜 𝓡 𝓡.env in let fn = inst_fn (args E) code.function in
    proved 𝓛 (T E) (stayed E) c 𝓜 𝓡 (
      Goes-dropped 𝓛 3 (RefOf (0 ∷ []) tt (plain (λ _. P E)) (λ _. tt)) yes (λ κs x w. refl),
      (Goes-dropped 𝓛 3 (plain (λ _. Starts E)) no (λ κs x w. refl), (Goes-dropped 𝓛 3 (plain (λ _. usize)) yes (λ κs x w. refl), (Goes-blank 𝓛 3 (plain (λ _. Owner E)) no (λ κs x w. tt), tt))),
    )
    (f.Key.name (args E)) fn (code.unfolded 𝓤 𝓛.H 𝓜 𝓡 wired (X, (W, tt)) d dd)
    (λ κs. (shr_vals, (start_val E, (uint_vals w64, (owner_val E, tt))))) (λ κs.
    (shr_Tells (named 0) κs.0 (P E), ((start_lowers E).val_is, (uint_Tells w64, ((owner_lowers E).val_is, tt))))) (λ κs qs bounds a n are.
    let self = a.0 in let start = a.1.0 in let room = a.1.1.0 in let row = a.1.1.1.0 in let κ = κs.0 in let q = qs.0 in let S = (T E).signature in let s = sz E in let by = self.now in
    let vss : Vals S κs = (shr_vals self, (start_val E start, (uint_vals w64 room, (owner_val E row, tt)))) in let W' = walk_of 𝓛 (T E) (stayed E) c in
    let y : W'.Ghost = ((κs, qs, bounds, a, vss), tt) in
    qed 𝓛 (((‵ (flft κ q) ⊛ Others 𝓛 κs qs) ⊛ ‵ (owns (types_at S.params κs) a vss))
    ∷ (raw (fact 𝓤 (κs.1.0 ⊑ X.lives)) ⊛ raw (fact 𝓤 (κs.1.1.0 ⊑ W.lives)) ⊛ raw (fact 𝓤 (Asks E by start room row))) ∷ []) ∵
    move ! (1 ∷ []) $ split3 ! $ drop ! $ heard ! _ (λ lives. heard ! _ (λ asked. split ! $ split ! $
    move ! (2 ∷ []) $ fsplit ! $ fsplit ! $ drop ! $ move ! (1 ∷ []) $ fsplit ! $ drop ! $ fsplit ! $ drop ! $ fsplit ! $ fsplit ! $ keep ! (1 ∷ 3 ∷ 4 ∷ 5 ∷ []) $
    -- [what the row owns; what a `&` to the allocator holds; the token; the other tokens]
    enter ! _ _ _ _ _ $ alloc_all ! (λ l. pass_all ! refl ((tt, tt), (word-Good [] start.first, ((tt, record { fits = are.1.1.0.1 }), ((tt, (tt, tt)), tt)))) $
    in_a_block ! row.at (λ p. row_owns (right E row.alloc) (R E) p row.room row.items) (null_owns E 𝓛 (right E row.alloc) row.room row.items) (λ b o e.
    let small : room * s < 2 ^ 63 = asked.4.0 in let bytes : room * s < 2 ^ 64 = omega arith in let al : ℕ = capped (align (elτ E)) in let τ = array_of (R E) room in
    let el : Elements = record { row = X; laws = LX } in
    rewrite ! 0 (λ (m : W.Denot × ℕ). ‵ (row_owns (right E m.0) (R E) (block_ptr b o) m.1 row.items)) (λ i. (asked.3 i, asked.1 i)) refl $
    use1 𝓛 (‵ (froom (ty_array (elτ E) room) b o) ⊛ ‵ (right E by τ (block_ptr b o))) (all_room E 𝓛 (right E by) b o room row.items asked.2) $ split ! $ as_raw ! (ty_array (elτ E) room) b o $
    first ! $ blocks ! $
    sets ! (is ! (of_opd ! (get_in ! (fld ! refl (stop !)) (sub ! 0 refl (whole !)))) (ap ptr_val (sym asked.0 ∙ e))) refl (tt, tt) $
    sets ! (is ! (bin ! (get ! refl) (size_word !) (record { fits = subst (λ (k : ℕ). k < 2 ^ 64) (sym (uncapped room s bytes)) bytes })) (ap (vint w64) (uncapped room s bytes)))
    refl (tt, record { fits = bytes }) $
    let z : (Gives Z 𝓛 𝓜.mem 𝓡.returns).Ghost = at_gives Z 𝓛 𝓜.mem 𝓡.returns κ q self.ref_ptr by b o (room * s) al τ in
    group ! 4 $ use1 𝓛 (raw ((Gives Z 𝓛 𝓜.mem 𝓡.returns).pre z)) (Gives-goes Z 𝓛 𝓜.mem 𝓡.returns κ q self.ref_ptr by (Incl-trans bounds.0 lives) b o
    (room * s) al τ (block_size el room bytes) (block_align el room) bytes (capped_fits (align (elτ E)))) $
    calls_at_last ! (framed 𝓤 𝓛.H 𝓜 𝓣) (Gives Z 𝓛 𝓜.mem 𝓡.returns) (met.deallocate dd) z
    (and_then ! (get ! refl) (and_then ! (get ! refl) (and_then ! (get ! refl) (and_then ! (align_word !) (no_more !))))) (λ v.
    use1 𝓛 (later (given (v ≡ vunit) (‵ (flft κ q)))) (Gives-Gives Z 𝓛 𝓜.mem 𝓡.returns κ q self.ref_ptr by b o (room * s) al τ v) $ await ! tt $ learn ! (λ ended.
    lands_last ! refl (subst (λ (u : Val). Yes (has_ty ty_unit u) × WT u) (sym ended) (tt, tt)) $ exec ! 𝓣.C 𝓣.Λ (env fn.locals l) (after 1 fn.body) (at_ret _ (W'.post y)) $
    sets ! (of_opd ! (unit_lit !)) refl (tt, tt) $ returns ! (look_at ! 0 refl) $ free_all ! refl $ keep ! (0 ∷ 1 ∷ []) $
    suffices ! _ (ends_at 𝓛 (T E) (stayed E) c y vunit tt (tt, (tt, (tt, (tt, tt)))) (tt, (tt, (tt, (tt, tt))))) $
    join ! $ feq_i ! (List Val) (vunit ∷ []) (vunit ∷ []) refl $ nothing ! $ nothing ! $ fjoin ! $ nothing ! $ fjoin ! $ nothing ! $ fjoin ! $ nothing
    ! $ fjoin ! $ join ! $ move ! (1 ∷ 0 ∷ []) $ join ! $
    nothing ! $ move ! (1 ∷ 0 ∷ []) $ done !)))))))
