-- The proof of `get_mut`, which returns a mutable reference to one item of an array. A write through the reference
-- changes the array. Assumes the separation logic `Logic`.
use Rattle.page_arena.proofs.Steps.{◌+◌, ◌*◌, ◌∙◌, ◌∷◌, ◌∵◌, ◌⊛◌, ◌$◌, !, Ended, GName, MutRef, Ptr, Stays, [], addr, alloc_all, at_ret, await, bin}
use Rattle.page_arena.proofs.Steps.{blocks, done, drop, ends_at, enter, env, exec, fact, fat, fjoin, first, flft, fld, frame, free_all, fsplit, fsplit3}
use Rattle.page_arena.proofs.Steps.{full_share, get, get_in, get_or, give_at, Goes-dropped, Goes-spent_ref, group, heard, id⊢, in_a_block, inst_fn}
use Rattle.page_arena.proofs.Steps.{join, keep, later, layout, length, look_at, move, named, no, nothing, of_opd, opens, part_at, pass_all, pick}
use Rattle.page_arena.proofs.Steps.{plain, proved, qed, raw, refl, returns, rewrite, says, sem, sets, sets_last, size_lit, some, split, split3}
use Rattle.page_arena.proofs.Steps.{stay_dropped, stop, sub, suffices, sym, tables, take_at, through, usize, use1, vptr, w64, walk_of, whole, yes, ‵}
use denote.Follow.{follows, Part, lends_Part}
use denote.Ref.{mut_vals, mut_Tells}
use denote.RattleType.{owns}
use denote.Signature.{types_at}
use denote.Triple.Entry.{Vals}
use denote.Plain.{uint_vals, uint_Tells}
use contract.BorrowLft.{◌⊑◌}
use Rattle.std_alloc.proofs.RcSteps.{word, word-Good}
use Rattle.std_alloc.proofs.VecSteps.El.{El, R, args, sz}
use Rattle.page_arena.specs.Lends.{HasItem}
use Rattle.page_arena.specs.Owned.{row_owns}
use Rattle.page_arena.proofs.Rows.{found, begins_below, null_owns, right, Starts, Owner, Besides, item_out, Rest, written, one_back, Others, start_val, start_lowers}
use Rattle.page_arena.specs.contracts.row.Row.get_mut as f
use Rattle.page_arena.proofs.row.Row.get_mut.Statement.{statement}
use Rattle.page_arena.proofs.row.Row.get_mut.Code as code

pub get_mut_spec : {M : Type 1} → statement M
get_mut_spec 𝓤 𝓛 𝓜 𝓡 wired X W LX LW g d dd met md =
    let E : El = record { row = X; laws = LX; al = record { row = W; laws = LW; g = g; d = d; drops = dd } } in
    let T : Ended = f.ended X W g d dd in let stayed : Stays T.signature.params T.kept = (stay_dropped _ no, (stay_dropped _ no, (stay_dropped _ yes, tt))) in
    let c = f.clauses X W g d dd 𝓛 𝓜.mem 𝓡.returns in let 𝓣 = tables 𝓤 𝓛.H 𝓜 𝓡 𝓡.env in
    proved 𝓛 T stayed c 𝓜 𝓡 (
      Goes-spent_ref 𝓛 3 (0 ∷ []) tt (plain (λ _. Owner E)),
      (Goes-dropped 𝓛 3 (plain (λ _. Starts E)) no (λ κs x w. refl), (Goes-dropped 𝓛 3 (plain (λ _. usize)) yes (λ κs x w. refl), tt)),
    )
    (f.Key.name (args E)) (inst_fn (args E) code.function) (code.unfolded 𝓤 𝓛.H 𝓜 𝓡 wired (X, (W, tt)) d dd)
    (λ κs. (mut_vals, (start_val E, (uint_vals w64, tt)))) (λ κs. (mut_Tells (named 0) κs.0 (Owner E), ((start_lowers E).val_is, (uint_Tells w64, tt)))) (λ κs qs bounds a n are.
    let self = a.0 in let start = a.1.0 in let index = a.1.1.0 in let row = self.now in let κ = κs.0 in let q = qs.0 in let γ = self.ghost_name in
    let rb = self.ref_ptr.0 in let ro = self.ref_ptr.1 in let S = T.signature in
    let vss : Vals S κs = (mut_vals self, (start_val E start, (uint_vals w64 index, tt))) in let W' = walk_of 𝓛 T stayed c in
    let y : W'.Ghost = ((κs, qs, bounds, a, vss), tt) in
    qed 𝓛 (((‵ (flft κ q) ⊛ Others 𝓛 κs qs) ⊛ ‵ (owns (types_at S.params κs) a vss))
    ∷ (raw (fact 𝓤 (κs.1.0 ⊑ X.lives)) ⊛ raw (fact 𝓤 (κs.1.1.0 ⊑ W.lives)) ⊛ raw (fact 𝓤 (HasItem (R E) start row index))) ∷ []) ∵
    move ! (1 ∷ []) $ split3 ! $ drop ! $ drop ! $ heard ! _ (λ asked. split ! $ split ! $
    move ! (2 ∷ []) $ fsplit ! $ fsplit3 ! $ keep ! (1 ∷ 2 ∷ 4 ∷ 5 ∷ []) $
    enter ! _ _ _ _ _ $ alloc_all ! (λ l. pass_all ! refl ((tt, tt), (word-Good [] start.first, ((tt, record { fits = are.1.1.0.1 }), tt))) $
    opens ! tt (Owner E) {h = row} rb ro (λ us. move ! (1 ∷ []) $ fsplit ! $ move ! (1 ∷ []) $
    in_a_block ! row.at (λ p. row_owns (right E row.alloc) (R E) p row.room row.items) (null_owns E 𝓛 (right E row.alloc) row.room row.items) (λ b o e.
    -- [the items; the mark; the row's cell; the open borrow; obs; auth; the other tokens]
    let fits = begins_below E (length row.items) index asked.1 asked.2 in let at = index * sz E + o in let it = found row.items index asked.1 in let coded = (Owner E).coded.code row in
    take_at ! 2 $ rewrite ! 0 (λ (p : Ptr). ‵ (fat full_share (layout (Starts E)) (l 2) 0 (word p))) (asked.0 ∙ e) refl $ give_at ! 2 $ first ! $ blocks ! $
    sets ! (bin ! (get ! refl) (size_lit ! (record { fits = fits.0 })) (record { fits = fits.1 })) refl (tt, record { fits = fits.1 }) $
    sets ! (bin ! (get_in ! (fld ! refl (stop !)) (sub ! 0 refl (whole !))) (get ! refl) tt) refl (tt, tt) $
    use1 𝓛 (‵ (part_at (R E) full_share (get_or row.items index it.0) b at) ⊛ ‵ (Besides E 𝓛 (right E row.alloc) b o row.room row.items index asked.1))
    (item_out E 𝓛 (right E row.alloc) b o row.room row.items index asked.1 it.0) $ split ! $
    rewrite ! 0 (λ (x : X.Denot). ‵ (part_at (R E) full_share x b at)) (it.1 it.0) refl $
    sets_last ! (addr ! (through ! refl (stop !))) refl (tt, tt) $ exec ! 𝓣.C 𝓣.Λ (env code.Mir.locals l) code.Mir.t-2 (at_ret _ (W'.post y)) $ sets ! (of_opd ! (get ! refl)) refl (tt, tt) $
    let Mine = written E 𝓛 row rb ro us b o e index in let Beside = Rest E 𝓛 row rb ro us b o e index asked.1 in let way = one_back E 𝓛 row rb ro us b o e index asked.1 in
    move ! (2 ∷ 3 ∷ []) $ fjoin ! $ move ! (2 ∷ 0 ∷ []) $ fjoin ! $ move ! (2 ∷ 3 ∷ 4 ∷ 1 ∷ 0 ∷ []) $ group ! 5 $
    use1 𝓛 (later (some (λ (δ : GName). raw (Part 𝓛 (Owner E) (R E) Mine (named 0) κ q rb ro b at γ (sem 𝓛 Beside) way it.0 δ))))
    (lends_Part 𝓛 (Owner E) (R E) Mine (named 0) κ q rb ro b at γ (sem 𝓛 Beside) way coded coded it.0) $ await ! tt $ pick ! (λ δ.
    let lent : (MutRef (named 0) κ (R E)).Denot = record { ref_ptr = (b, at); ghost_name = δ; now = it.0 } in
    returns ! (look_at ! 0 refl) $ free_all ! refl $ keep ! (0 ∷ 1 ∷ []) $
    use1 𝓛 (‵ ((MutRef (named 0) κ (R E)).own_val lent (vptr b at ∷ [])) ⊛ ‵ (flft κ q) ⊛ ‵ (follows (Owner E) (R E) γ δ Mine)) (id⊢ 𝓤 _) $ split3 ! $
    suffices ! _ (ends_at 𝓛 T stayed c y (vptr b at) lent (tt, (tt, (tt, tt))) (tt, (tt, (tt, tt)))) $
    nothing ! $ nothing ! $ fjoin ! $ nothing ! $ fjoin ! $ nothing ! $ fjoin ! $ join ! $ move ! (1 ∷ 3 ∷ []) $ join ! $ join ! $ frame ! $ says ! (sym (it.1 it.0)) $ done !))))))
