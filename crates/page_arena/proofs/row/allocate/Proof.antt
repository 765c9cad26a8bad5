-- The proof of `allocate`, which returns an empty array in a new allocation, with the right to free the memory. Assumes
-- the separation logic `Logic`.
use Rattle.page_arena.proofs.Steps.{◌*◌, ◌<◌, ◌^◌, ◌∷◌, ◌∵◌, ◌⊛◌, ◌$◌, !, Ended, Stays, Val, [], agg, ap, arith, align_word, alloc_all, and_then}
use Rattle.page_arena.proofs.Steps.{at_ret, await, bin, block_ptr, done, drop, ends_at, enter, env, exec, fact, first, fjoin, flft, fld, framed}
use Rattle.page_arena.proofs.Steps.{free_all, fsplit, get, get_in, get_tag, Goes-dropped, heard, inst_fn, is, join, keep, lands_as, later}
use Rattle.page_arena.proofs.Steps.{layout, lit, look_at, move, named, no_more, nothing, of_opd, owned, pass_all, plain, proved, qed, raw, refl}
use Rattle.page_arena.proofs.Steps.{returns, says, sets, sets_last, size_word, RattleType, split, split3, stay_dropped, stop, subst, suffices}
use Rattle.page_arena.proofs.Steps.{switches_on, sym, tables, usize, use0, use1, use2, vcons, vint, vnil, vstruct, w64, walk_of, whole, yes, ℕ, ‵}
use base.Fml.{Incl-trans}
use lib.Dec.{lit<}
use mir.Syntax.{Body}
use prog.Memory.{align, capped}
use prog.Capped.{capped_fits}
use prog.Wp.{Wp, after_seq, at_return}
use types.Kit.{Post as After, any_q}
use types.Match.{live, vrt, in_variant}
use denote.Builtin.{RefOf}
use denote.Laws.{Is}
use denote.Ref.{shr_vals, shr_Tells}
use denote.RattleType.{owns}
use denote.Signature.{types_at}
use denote.Struct.Declared as Declared
use denote.Struct.Struct.{Struct, Struct-Makes}
use denote.Struct.Tuple.{Tuple}
use denote.Triple.Call.{calls_at}
use denote.Triple.Entry.{Vals}
use denote.Plain.{uint_vals, uint_Tells}
use contract.BorrowLft.{◌⊑◌}
use Rattle.std.specs.Prelude.{Ok, Err, true, false}
use Rattle.core.specs.contracts.alloc.AllocError as refusal
use Rattle.core.specs.contracts.result.Result as result
use Rattle.core.specs.Allocator.{array_of}
use Rattle.core.proofs.alloc.Calls.{Answer-typed, Takes, at_takes, Answered, Takes-goes, Takes-gives, answers}
use Rattle.core.proofs.mem.Param.{El as Elements}
use Rattle.core.proofs.slots.Leases.{uncapped, block_size, block_align}
use Rattle.std_alloc.proofs.Pairs.{pair_val, pair_Typed, pair_of}
use Rattle.std_alloc.proofs.RcSteps.{first_Good, word, word-Good}
use Rattle.std_alloc.proofs.ResultValues.{ok_of, err_of}
use Rattle.std_alloc.proofs.VecSteps.El.{El, R, P, args, sz, elτ}
use Rattle.std_alloc.proofs.VecSteps.Shapes.{after, head, arm_body}
use Rattle.page_arena.specs.Owned.{Reaches}
use Rattle.page_arena.proofs.Rows.{right, Starts, Owner, Mark, All, fresh, mark, mark_made, start_made, Others}
use Rattle.page_arena.specs.contracts.row.allocate as f
use Rattle.page_arena.proofs.row.allocate.Statement.{statement}
use Rattle.page_arena.proofs.row.allocate.Code as code

module _ (E : El) where
  abbrev T : Ended
  T = f.ended E.row E.al.row E.al.g E.al.d E.al.drops

  abbrev stayed : Stays T.signature.params T.kept
  stayed = (stay_dropped _ yes, (stay_dropped _ yes, tt))

  abbrev Both : RattleType
  Both = Tuple (Starts E ∷ Owner E ∷ [])

  abbrev Out : RattleType
  Out = result.the_row Both refusal.the_row

pub allocate_spec : {M : Type 1} → statement M
allocate_spec 𝓤 𝓛 𝓜 𝓡 wired X W LX LW g d dd met md =
    let E : El = record { row = X; laws = LX; al = record { row = W; laws = LW; g = g; d = d; drops = dd } } in let Z = E.al in
    let c = f.clauses X W g d dd 𝓛 𝓜.mem 𝓡.returns in let 𝓣 = tables 𝓤 𝓛.H 𝓜 𝓡 𝓡.env in let fn = inst_fn (args E) code.function in
    proved 𝓛 (T E) (stayed E) c 𝓜 𝓡 (Goes-dropped 𝓛 3 (RefOf (0 ∷ []) tt (plain (λ _. P E)) (λ _. tt)) yes (λ κs x w. refl), (Goes-dropped 𝓛 3 (plain (λ _. usize)) yes (λ κs x w. refl), tt))
    (f.Key.name (args E)) fn (code.unfolded 𝓤 𝓛.H 𝓜 𝓡 wired (X, (W, tt)) d dd)
    (λ κs. (shr_vals, (uint_vals w64, tt))) (λ κs. (shr_Tells (named 0) κs.0 (P E), (uint_Tells w64, tt))) (λ κs qs bounds a n are.
    let self = a.0 in let room = a.1.0 in let κ = κs.0 in let q = qs.0 in let S = (T E).signature in let s = sz E in let by = self.now in
    let vss : Vals S κs = (shr_vals self, (uint_vals w64 room, tt)) in let W' = walk_of 𝓛 (T E) (stayed E) c in
    let y : W'.Ghost = ((κs, qs, bounds, a, vss), tt) in
    qed 𝓛 (((‵ (flft κ q) ⊛ Others 𝓛 κs qs) ⊛ ‵ (owns (types_at S.params κs) a vss)) ∷ (raw (fact 𝓤 (κs.1.0 ⊑ X.lives)) ⊛ raw (fact 𝓤 (κs.1.1.0 ⊑ W.lives)) ⊛ raw (fact 𝓤 (Reaches (R E) room))) ∷ []) ∵
    move ! (1 ∷ []) $ split3 ! $ drop ! $ heard ! _ (λ lives. heard ! _ (λ asked. split ! $ split ! $
    move ! (2 ∷ []) $ fsplit ! $ fsplit ! $ keep ! (1 ∷ 3 ∷ 4 ∷ []) $
    enter ! _ _ _ _ _ $ alloc_all ! (λ l. pass_all ! refl ((tt, tt), ((tt, record { fits = are.1.0.1 }), tt)) $
    -- [what a `&` to the allocator holds; the token; the other tokens]
    let En = env fn.locals l in let choice : Body = head (after 2 fn.body) in
    let Then : After 𝓤 𝓛.H = any_q (after_seq 𝓤 𝓛.H (Wp 𝓤 𝓛.H 𝓣.C 𝓣.Λ En (after 3 fn.body) (at_return 𝓤 𝓛.H En (W'.post y))) (at_return 𝓤 𝓛.H En (W'.post y))) in
    let small : room * s < 2 ^ 63 = asked.0 in let bytes : room * s < 2 ^ 64 = omega arith in let al : ℕ = capped (align (elτ E)) in let τ = array_of (R E) room in
    let el : Elements = record { row = X; laws = LX } in
    let z : (Takes Z 𝓛 𝓜.mem 𝓡.returns).Ghost = at_takes Z 𝓛 𝓜.mem 𝓡.returns κ q self.ref_ptr by (room * s) al τ in
    sets ! (is ! (bin ! (get ! refl) (size_word !) (record { fits = subst (λ (k : ℕ). k < 2 ^ 64) (sym (uncapped room s bytes)) bytes })) (ap (vint w64) (uncapped room s bytes)))
    refl (tt, record { fits = bytes }) $
    use2 𝓛 (raw ((Takes Z 𝓛 𝓜.mem 𝓡.returns).pre z)) (Takes-goes Z 𝓛 𝓜.mem 𝓡.returns κ q self.ref_ptr by (Incl-trans bounds.0 lives) (room * s) al τ
    (block_size el room bytes) (block_align el room) bytes (capped_fits (align (elτ E)))) $
    calls_at ! (framed 𝓤 𝓛.H 𝓜 𝓣) (Takes Z 𝓛 𝓜.mem 𝓡.returns) (met.allocate dd) z (and_then ! (get ! refl) (and_then ! (get ! refl) (and_then ! (align_word !) (no_more !)))) (λ v.
    use1 𝓛 (later (raw (Answered Z 𝓛 𝓜.mem 𝓡.returns by τ v) ⊛ ‵ (flft κ q))) (Takes-gives Z 𝓛 𝓜.mem 𝓡.returns κ q self.ref_ptr by (room * s) al τ v) $ await ! tt $ split ! $
    answers Z ! 𝓜.mem 𝓡.returns by τ v
    (λ b o e.
    let start : (Starts E).Denot = record { first = block_ptr b o } in let row : (Owner E).Denot = record { mark = record {}; at = block_ptr b o; room = room; items = []; alloc = by } in
    let made : Val = pair_val (word (block_ptr b o)) mark in
    let typed = pair_Typed (layout (Starts E)) (layout (Owner E)) (word (block_ptr b o)) mark (word-Good [] (block_ptr b o)) (tt, (tt, tt)) in let ok = first_Good (layout (Both E)) made typed in
    lands_as ! e refl (Answer-typed true b o) $ first ! $ switches_on ! (get_tag ! (vrt ! refl (fld ! refl (stop !))) (whole !)) $ exec ! 𝓣.C 𝓣.Λ En (arm_body 0 choice) Then $
    sets ! (of_opd ! (get_in ! (vrt ! refl (fld ! refl (stop !))) (in_variant ! 0 0 refl refl (whole !)))) refl (tt, tt) $ sets ! (of_opd ! (get ! refl)) refl (tt, tt) $
    sets ! (agg ! (and_then ! (get ! refl) (no_more !))) refl (word-Good [] (block_ptr b o)) $
    sets ! (agg ! (no_more !)) refl (tt, tt) $ sets ! (agg ! (and_then ! (get ! refl) (no_more !))) refl (tt, (tt, tt)) $
    sets ! (agg ! (and_then ! (get ! refl) (and_then ! (get ! refl) (no_more !)))) refl typed $
    sets_last ! (agg ! (and_then ! (lit ! tt) (and_then ! (get ! refl) (no_more !)))) refl ok $
    exec ! 𝓣.C 𝓣.Λ En (after 3 fn.body) (at_ret En (W'.post y)) $ sets ! (of_opd ! (get ! refl)) refl ok $
    -- [the unused memory; the right to free it; the token; the other tokens]
    use2 𝓛 (‵ (All E 𝓛 (right E by) b o room [])) (fresh E 𝓛 (right E by) b o room) $ use0 𝓛 (‵ (Mark E row (mark ∷ []))) (mark_made E 𝓛 row) $ fjoin ! $
    use0 𝓛 (‵ ((Starts E).own_val start (word (block_ptr b o) ∷ []))) (start_made E 𝓛 start) $
    use2 𝓛 (‵ ((Both E).own_val (start, row) (made ∷ []))) (pair_of 𝓛 (Starts E) (Owner E) start row (word (block_ptr b o)) mark) $
    use1 𝓛 (‵ ((Out E).own_val (Ok (start, row)) (live 0 (vcons made vnil) ∷ []))) (ok_of 𝓛 (Both E) refusal.the_row (start, row) made) $
    returns ! (look_at ! 0 refl) $ free_all ! refl $ keep ! (0 ∷ 1 ∷ 2 ∷ []) $
    suffices ! _ (ends_at 𝓛 (T E) (stayed E) c y (live 0 (vcons made vnil)) (Ok (start, row)) (tt, (tt, tt)) (tt, (tt, tt))) $ says ! (refl, refl, refl, refl) $
    nothing ! $ nothing ! $ fjoin ! $ nothing ! $ fjoin ! $ join ! $ move ! (1 ∷ 2 ∷ []) $ join ! $ join ! $ done !)
    (λ e.
    let Refusal : RattleType = Struct (Declared.shape refusal.the_type) in let none : Val = live 1 (vcons (vstruct vnil) vnil) in
    lands_as ! e refl (Answer-typed false 0 0) $ first ! $ switches_on ! (get_tag ! (vrt ! refl (fld ! refl (stop !))) (whole !)) $ exec ! 𝓣.C 𝓣.Λ En (arm_body 1 choice) Then $
    sets ! (of_opd ! (get_in ! (vrt ! refl (fld ! refl (stop !))) (in_variant ! 1 0 refl refl (whole !)))) refl (tt, tt) $
    sets_last ! (agg ! (and_then ! (lit ! tt) (and_then ! (get ! refl) (no_more !)))) refl (tt, (record { fits = lit< tt }, (tt, tt))) $
    exec ! 𝓣.C 𝓣.Λ En (after 3 fn.body) (at_ret En (W'.post y)) $ sets ! (of_opd ! (get ! refl)) refl (tt, (record { fits = lit< tt }, (tt, tt))) $
    owned ! Refusal (Is Refusal) (Struct-Makes 𝓛 (Declared.shape refusal.the_type) tt) tt (vstruct vnil ∷ []) (tt, (refl, tt)) $
    use1 𝓛 (‵ ((Out E).own_val (Err (record {})) (none ∷ []))) (err_of 𝓛 (Both E) refusal.the_row (record {}) (vstruct vnil)) $
    returns ! (look_at ! 0 refl) $ free_all ! refl $ keep ! (0 ∷ 1 ∷ 2 ∷ []) $
    suffices ! _ (ends_at 𝓛 (T E) (stayed E) c y none (Err (record {})) (tt, (tt, tt)) (tt, (tt, tt))) $ says ! tt $
    nothing ! $ nothing ! $ fjoin ! $ nothing ! $ fjoin ! $ join ! $ move ! (1 ∷ 2 ∷ []) $ join ! $ join ! $ done !))))))
