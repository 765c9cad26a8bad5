-- The proof of `two`, which returns a shared reference to one item of an array, and a mutable reference to another. A
-- write through the mutable reference changes the array. Assumes the separation logic `Logic`.
use Rattle.page_arena.proofs.Steps.{◌+◌, ◌*◌, ◌∙◌, ◌∷◌, ◌∵◌, ◌⊛◌, ◌$◌, !, Ended, GName, List, Logic, MutRef, Ptr, ShrRef, Stays, Val, [], addr, agg}
use Rattle.page_arena.proofs.Steps.{alloc_all, and_then, at_ret, await, bin, blocks, done, drop, ends_at, enter, env, exec, fact, fat, fbor, feq_i, first}
use Rattle.page_arena.proofs.Steps.{fjoin, fjoin3, flft, fld, fobs, frame, free_all, fsep, fsplit, fsplit3, ftrue, full_share, get, get_in, get_or}
use Rattle.page_arena.proofs.Steps.{give_at, Goes-dropped, Goes-spent_ref, group, heard, hidden_shr, id⊢, in_a_block, inst_fn, join, keep, later, layout}
use Rattle.page_arena.proofs.Steps.{length, look_at, mem, ent, Ura, Fml, move, named, no, no_more, nothing, of_opd, opens, part_at, pass_all, pick}
use Rattle.page_arena.proofs.Steps.{plain, proved, qed, raw, refl, returns, rewrite, says, sem, sets, sets_last, size_lit, some, split, split3}
use Rattle.page_arena.proofs.Steps.{stay_dropped, stop, sub, suffices, sym, tables, take_at, through, usize, use1, use2, vptr, w64, walk_of, whole, yes, ‵}
use base.Fml.{fseps, Incl-refl, Incl-trans}
use types.Follow.{takes_beside}
use types.SemTy.{Body as Borrowed}
use denote.Follow.{follows}
use denote.Param.Laws.{param_laws}
use denote.Ref.{mut_vals, mut_Tells}
use denote.RattleType.{owns}
use denote.Signature.{types_at}
use denote.Struct.Tuple.{Tuple}
use denote.Triple.Entry.{Vals}
use denote.Plain.{uint_vals, uint_Tells}
use contract.BorrowLft.{◌⊑◌}
use Rattle.std.proofs.Common.{◌≢◌}
use Rattle.std_alloc.proofs.Pairs.{pair_val, pair_Typed, pair_of}
use Rattle.std_alloc.proofs.RcSteps.{word, word-Good}
use Rattle.std_alloc.proofs.VecSteps.El.{El, R, args, sz}
use Rattle.page_arena.specs.Lends.{HasItem}
use Rattle.page_arena.specs.Owned.{row_owns}
use Rattle.page_arena.proofs.Rows.{found, begins_below, null_owns, right, Starts, Owner, Pair, pair, PairRest, written, pair_back, Others, start_val, start_lowers}
use Rattle.page_arena.specs.contracts.row.Row.two as f
use Rattle.page_arena.proofs.row.Row.two.Statement.{statement}
use Rattle.page_arena.proofs.row.Row.two.Code as code

kept : {M : Type 1} {𝓤 : Ura M} (𝓛 : Logic 𝓤) (P : Fml) → ent 𝓤 (sem 𝓛 (fsep P ftrue)) (sem 𝓛 (fseps (P ∷ [])))
unfolding fseps
kept {𝓤 = 𝓤} 𝓛 P = id⊢ 𝓤 (sem 𝓛 (fsep P ftrue))

pub two_spec : {M : Type 1} → statement M
two_spec 𝓤 𝓛 𝓜 𝓡 wired X W LX LW g d dd met md =
    let E : El = record { row = X; laws = LX; al = record { row = W; laws = LW; g = g; d = d; drops = dd } } in
    let T : Ended = f.ended X W g d dd in let stayed : Stays T.signature.params T.kept = (stay_dropped _ no, (stay_dropped _ no, (stay_dropped _ yes, (stay_dropped _ yes, tt)))) in
    let c = f.clauses X W g d dd 𝓛 𝓜.mem 𝓡.returns in let 𝓣 = tables 𝓤 𝓛.H 𝓜 𝓡 𝓡.env in
    proved 𝓛 T stayed c 𝓜 𝓡 (
      Goes-spent_ref 𝓛 3 (0 ∷ []) tt (plain (λ _. Owner E)),
      (
        Goes-dropped 𝓛 3 (plain (λ _. Starts E)) no (λ κs x w. refl),
        (Goes-dropped 𝓛 3 (plain (λ _. usize)) yes (λ κs x w. refl), (Goes-dropped 𝓛 3 (plain (λ _. usize)) yes (λ κs x w. refl), tt)),
      ),
    )
    (f.Key.name (args E)) (inst_fn (args E) code.function) (code.unfolded 𝓤 𝓛.H 𝓜 𝓡 wired (X, (W, tt)) d dd)
    (λ κs. (mut_vals, (start_val E, (uint_vals w64, (uint_vals w64, tt)))))
    (λ κs. (mut_Tells (named 0) κs.0 (Owner E), ((start_lowers E).val_is, (uint_Tells w64, (uint_Tells w64, tt))))) (λ κs qs bounds a n are.
    let self = a.0 in let start = a.1.0 in let read = a.1.1.0 in let write = a.1.1.1.0 in let row = self.now in let κ = κs.0 in let q = qs.0 in let γ = self.ghost_name in
    let rb = self.ref_ptr.0 in let ro = self.ref_ptr.1 in let S = T.signature in
    let vss : Vals S κs = (mut_vals self, (start_val E start, (uint_vals w64 read, (uint_vals w64 write, tt)))) in let W' = walk_of 𝓛 T stayed c in
    let y : W'.Ghost = ((κs, qs, bounds, a, vss), tt) in
    qed 𝓛 (((‵ (flft κ q) ⊛ Others 𝓛 κs qs) ⊛ ‵ (owns (types_at S.params κs) a vss))
    ∷ (raw (fact 𝓤 (κs.1.0 ⊑ X.lives)) ⊛ raw (fact 𝓤 (κs.1.1.0 ⊑ W.lives)) ⊛ raw (fact 𝓤 (HasItem (R E) start row read × HasItem (R E) start row write × (read ≢ write)))) ∷ []) ∵
    move ! (1 ∷ []) $ split3 ! $ heard ! _ (λ lives. drop ! $ heard ! _ (λ asked. split ! $ split ! $
    move ! (2 ∷ []) $ fsplit ! $ fsplit3 ! $ keep ! (1 ∷ 2 ∷ 4 ∷ 5 ∷ []) $
    enter ! _ _ _ _ _ $ alloc_all ! (λ l. pass_all ! refl ((tt, tt), (word-Good [] start.first, ((tt, record { fits = are.1.1.0.1 }), ((tt, record { fits = are.1.1.1.0.1 }), tt)))) $
    opens ! tt (Owner E) {h = row} rb ro (λ us. move ! (1 ∷ []) $ fsplit ! $ move ! (1 ∷ []) $
    in_a_block ! row.at (λ p. row_owns (right E row.alloc) (R E) p row.room row.items) (null_owns E 𝓛 (right E row.alloc) row.room row.items) (λ b o e.
    -- [the items; the mark; the row's cell; the open borrow; obs; auth; the other tokens]
    let near = begins_below E (length row.items) read asked.0.1 asked.0.2 in let far = begins_below E (length row.items) write asked.1.1 asked.1.2 in
    let from = read * sz E + o in let to = write * sz E + o in let shown = found row.items read asked.0.1 in let lent = found row.items write asked.1.1 in
    let both : Pair E 𝓛 (right E row.alloc) b o row.room row.items read write = pair E 𝓛 (right E row.alloc) b o row.room row.items read write asked.0.1 asked.1.1 asked.2 in
    let coded = (Owner E).coded.code row in let x : X.Denot = get_or row.items read shown.0 in let z : X.Denot = get_or row.items write shown.0 in
    take_at ! 2 $ rewrite ! 0 (λ (p : Ptr). ‵ (fat full_share (layout (Starts E)) (l 2) 0 (word p))) (asked.0.0 ∙ e) refl $ give_at ! 2 $ first ! $ blocks ! $
    sets ! (bin ! (get ! refl) (size_lit ! (record { fits = near.0 })) (record { fits = near.1 })) refl (tt, record { fits = near.1 }) $
    sets ! (bin ! (get_in ! (fld ! refl (stop !)) (sub ! 0 refl (whole !))) (get ! refl) tt) refl (tt, tt) $ sets ! (addr ! (through ! refl (stop !))) refl (tt, tt) $
    sets ! (bin ! (get ! refl) (size_lit ! (record { fits = far.0 })) (record { fits = far.1 })) refl (tt, record { fits = far.1 }) $
    sets ! (bin ! (get_in ! (fld ! refl (stop !)) (sub ! 0 refl (whole !))) (get ! refl) tt) refl (tt, tt) $ sets ! (addr ! (through ! refl (stop !))) refl (tt, tt) $
    let typed = pair_Typed (layout (ShrRef (named 0) κ (R E))) (layout (MutRef (named 0) κ (R E))) (vptr b from) (vptr b to) (tt, tt) (tt, tt) in
    sets_last ! (agg ! (and_then ! (get ! refl) (and_then ! (get ! refl) (no_more !)))) refl typed $ exec ! 𝓣.C 𝓣.Λ (env code.Mir.locals l) code.Mir.t-2 (at_ret _ (W'.post y)) $
    sets ! (of_opd ! (get ! refl)) refl typed $
    use1 𝓛 (‵ (part_at (R E) full_share x b from) ⊛ ‵ (part_at (R E) full_share z b to) ⊛ ‵ both.besides) (both.out shown.0) $ split3 ! $
    let Mine = written E 𝓛 row rb ro us b o e write in let Beside = PairRest E 𝓛 row rb ro us b o e read write both in
    let way = pair_back E 𝓛 row rb ro us b o e read write both shown.0 in let Qs = part_at (R E) full_share x b from ∷ [] in
    -- [the first item; the second item; the rest of the array; the mark; the row's cell; the open borrow; obs; auth;
    -- the other tokens]
    move ! (3 ∷ 4 ∷ []) $ fjoin ! $ move ! (3 ∷ 0 ∷ []) $ fjoin ! $ nothing ! $ move ! (2 ∷ 0 ∷ []) $ fjoin ! $ use1 𝓛 (‵ (fseps Qs)) (kept 𝓛 (part_at (R E) full_share x b from)) $
    move ! (3 ∷ 4 ∷ 5 ∷ 2 ∷ 0 ∷ 1 ∷ []) $ group ! 6 $
    use1 𝓛 (later (some (λ (δ : GName). ‵ (fobs δ ((R E).coded.code z)) ⊛ ‵ (fbor κ (Borrowed (mem (R E)) b to δ)) ⊛ ‵ (flft κ q) ⊛ ‵
    (follows (Owner E) (R E) γ δ Mine) ⊛ (‵ (fbor κ (part_at (R E) full_share x b from)) ⊛ ‵ ftrue))))
    (takes_beside 𝓛 (mem (Owner E)) (mem (R E)) Mine κ q rb ro b to γ Qs (sem 𝓛 Beside) way coded coded z) $ await ! tt $ pick ! (λ δ.
    let r : (ShrRef (named 0) κ (R E)).Denot = record { ref_ptr = (b, from); now = x } in let w : (MutRef (named 0) κ (R E)).Denot = record { ref_ptr = (b, to); ghost_name = δ; now = z } in
    split3 ! $ move ! (2 ∷ []) $ split3 ! $ move ! (2 ∷ []) $ split ! $ move ! (1 ∷ []) $ drop ! $
    -- [the borrow of the first item; the token; what follows; obs and the borrow of the second item; the other tokens]
    use2 𝓛 (later (‵ (hidden_shr (R E) κ x b from) ⊛ ‵ (flft κ q))) ((param_laws 0 X LX).shares 𝓛 x κ ((κ, q) ∷ []) b from (Incl-trans bounds.0 lives) (Incl-refl κ)) $ await ! tt $ split ! $
    feq_i ! (List Val) (vptr b from ∷ []) (vptr b from ∷ []) refl $ fjoin ! $ move ! (3 ∷ 4 ∷ []) $ feq_i ! (List Val) (vptr b to ∷ []) (vptr b to ∷ []) refl $ fjoin3 ! $ move ! (1 ∷ 0 ∷ []) $
    use2 𝓛 (‵ ((Tuple (ShrRef (named 0) κ (R E) ∷ MutRef (named 0) κ (R E) ∷ [])).own_val (r, w) (pair_val (vptr b from) (vptr b to) ∷ [])))
    (pair_of 𝓛 (ShrRef (named 0) κ (R E)) (MutRef (named 0) κ (R E)) r w (vptr b from) (vptr b to)) $
    returns ! (look_at ! 0 refl) $ free_all ! refl $ keep ! (0 ∷ 1 ∷ 2 ∷ 3 ∷ []) $
    suffices ! _ (ends_at 𝓛 T stayed c y (pair_val (vptr b from) (vptr b to)) (r, w) (tt, (tt, (tt, (tt, tt)))) (tt, (tt, (tt, (tt, tt))))) $
    nothing ! $ nothing ! $ fjoin ! $ nothing ! $ fjoin ! $ nothing ! $ fjoin ! $ nothing ! $ fjoin ! $ join ! $ move ! (1 ∷ 3 ∷ []) $ join ! $ join ! $ frame ! $
    says ! (shown.1 shown.0 ∙ sym (shown.1 x), lent.1 shown.0 ∙ sym (lent.1 z)) $ done !)))))))
