-- The proof of `put`, which replaces an item of an array or adds an item at the end. Assumes the separation logic
-- `Logic`.
use Rattle.page_arena.proofs.Steps.{◌+◌, ◌*◌, ◌<◌, ◌≤◌, ◌≡◌, ◌∙◌, ◌∷◌, ◌++◌, ◌∵◌, ◌⊛◌, ◌$◌, !, Ended, List, Ptr, SProp, Stays, Val, [], alloc_all, assigns_last}
use Rattle.page_arena.proofs.Steps.{at_ret, bin, blocks, closes, done, drop, ends_at, ent, enter, env, exec, fact, fat, feq_i, first, fjoin, fjoin3, flft}
use Rattle.page_arena.proofs.Steps.{fld, free_all, froom, fsplit, fsplit3, full_share, get, get_in, give_at, Goes-dropped, Goes-ref, heard, in_a_block, init}
use Rattle.page_arena.proofs.Steps.{inst_fn, join, keep, layout, length, look_at, move, named, no, nothing, of_opd, opens, part_at, pass_all, plain}
use Rattle.page_arena.proofs.Steps.{proved_at, qed, raw, refl, returns, rewrite, says, sets, size_lit, split, split3, stay_dropped, stay_ref, stop, sub, subst}
use Rattle.page_arena.proofs.Steps.{suffices, sym, tables, take_at, through, unit_lit, usize, use1, use2, vptr, vunit, w64, walk_of, whole, yes, ℕ, ‵, after}
use prog.Wp.{WpFn}
use denote.Ref.{mut_vals, mut_Tells}
use denote.RattleType.{owns}
use denote.Signature.{types_at}
use denote.Plain.{uint_vals}
use contract.BorrowLft.{◌⊑◌}
use Rattle.core.proofs.mem.Param.{one as only_value}
use Rattle.std_alloc.proofs.RcSteps.{word, word-Good}
use Rattle.std_alloc.proofs.VecSteps.El.{El, R, args, sz, elτ, el_lawful}
use Rattle.std_alloc.proofs.VecSteps.Rows.{el_in}
use Rattle.page_arena.specs.Lends.{with_items}
use Rattle.page_arena.specs.Owned.{Reaches, row_owns, put_at}
use Rattle.page_arena.proofs.Rows.{begins_below, null_owns, right, Starts, Owner, Place, place, All, Others, start_val, start_lowers}
use Rattle.page_arena.specs.contracts.row.Row.put as f
use Rattle.page_arena.proofs.row.Row.put.Statement.{statement}
use Rattle.page_arena.proofs.row.Row.put.Code as code

module _ (E : El) where
  abbrev Asks : (Owner E).Denot → (Starts E).Denot → ℕ → Type 0
  Asks row start index = (start.first ≡ row.at) × (index ≤ length row.items) × (index < row.room) × Reaches (R E) row.room

pub put_spec : {M : Type 1} → statement M
put_spec 𝓤 𝓛 𝓜 𝓡 wired X W LX LW g d dd met md =
    let E : El = record { row = X; laws = LX; al = record { row = W; laws = LW; g = g; d = d; drops = dd } } in
    let T : Ended = f.ended X W g d dd in
    let stayed : Stays T.signature.params T.kept = (stay_ref (0 ∷ []) tt (plain (λ _. Owner E)), (stay_dropped _ no, (stay_dropped _ yes, (stay_dropped _ no, tt)))) in
    let c = f.clauses X W g d dd 𝓛 𝓜.mem 𝓡.returns in let 𝓣 = tables 𝓤 𝓛.H 𝓜 𝓡 𝓡.env in let fn = inst_fn (args E) code.function in
    proved_at 𝓛 T stayed c 𝓜 𝓡 (
      Goes-ref 𝓛 3 0 tt (plain (λ _. Owner E)),
      (
        Goes-dropped 𝓛 3 (plain (λ _. Starts E)) no (λ κs x w. refl),
        (Goes-dropped 𝓛 3 (plain (λ _. usize)) yes (λ κs x w. refl), (Goes-dropped 𝓛 3 (plain (λ _. R E)) no (λ κs x w. refl), tt)),
      ),
    )
    (f.Key.name (args E)) fn (code.unfolded 𝓤 𝓛.H 𝓜 𝓡 wired (X, (W, tt)) d dd) (λ y are.
    let κs = y.0.0 in let qs = y.0.1 in let a = y.0.3 in let vss = y.0.4 in let κ = κs.0 in let q = qs.0 in let S = T.signature in
    let self = a.0 in let start = a.1.0 in let index = a.1.1.0 in let item = a.1.1.1.0 in let row = self.now in let γ = self.ghost_name in
    let rb = self.ref_ptr.0 in let ro = self.ref_ptr.1 in let W' = walk_of 𝓛 T stayed c in
    let e0 : vss.0 ≡ mut_vals self = mut_Tells (named 0) κ (Owner E) self vss.0 are.0 in
    let e1 : vss.1.0 ≡ start_val E start = (start_lowers E).val_is start vss.1.0 are.1.0 in
    let e2 : vss.1.1.0 ≡ uint_vals w64 index = are.1.1.0.0 in
    let it = only_value (record { row = X; laws = LX }) vss.1.1.1.0 ((el_lawful E 𝓛).typed item vss.1.1.1.0 are.1.1.1.0) in let v : Val = it.0 in
    let Runs : List Val → SProp 𝓤 = λ vs. WpFn 𝓤 𝓛.H 𝓣.C 𝓣.Λ fn vs (W'.post y) in
    let as_passed : List Val × List Val × List Val × List Val → Type 1 = λ ws. ent 𝓤 (W'.pre y) (Runs (ws.0 ++ (ws.1 ++ (ws.2 ++ (ws.3 ++ []))))) in
    subst as_passed (λ j. (sym e0 j, sym e1 j, sym e2 j, sym it.1 j)) (
    qed 𝓛 (((‵ (flft κ q) ⊛ Others 𝓛 κs qs) ⊛ ‵ (owns (types_at S.params κs) a vss))
    ∷ (raw (fact 𝓤 (κs.1.0 ⊑ X.lives)) ⊛ raw (fact 𝓤 (κs.1.1.0 ⊑ W.lives)) ⊛ raw (fact 𝓤 (Asks E row start index))) ∷ []) ∵
    move ! (1 ∷ []) $ split3 ! $ drop ! $ drop ! $ heard ! _ (λ asked. split ! $ split ! $
    move ! (2 ∷ []) $ fsplit ! $ fsplit3 ! $ move ! (3 ∷ []) $ fsplit ! $ drop ! $ fsplit ! $ drop ! $ fsplit ! $ keep ! (3 ∷ 4 ∷ 5 ∷ 6 ∷ 0 ∷ []) $
    rewrite ! 4 (λ (us : List Val). ‵ ((R E).own_val item us)) it.1 refl $
    enter ! _ _ _ _ _ $ alloc_all ! (λ l. pass_all ! refl ((tt, tt), (word-Good [] start.first, ((tt, record { fits = are.1.1.0.1 }), (it.2, tt)))) $
    opens ! tt (Owner E) {h = row} rb ro (λ us. move ! (1 ∷ []) $ fsplit ! $ move ! (1 ∷ []) $
    in_a_block ! row.at (λ p. row_owns (right E row.alloc) (R E) p row.room row.items) (null_owns E 𝓛 (right E row.alloc) row.room row.items) (λ b o e.
    -- [the items; the mark; the row's cell; the open borrow; obs; auth; the other tokens; what the item owns]
    let fits = begins_below E row.room index asked.2 asked.3 in let at = index * sz E + o in
    let here : Place E 𝓛 (right E row.alloc) b o row.room row.items index = place E 𝓛 (right E row.alloc) b o row.room row.items index asked.1 asked.2 in
    let items : List X.Denot = put_at row.items index item in let new : (Owner E).Denot = with_items row items in
    take_at ! 2 $ rewrite ! 0 (λ (p : Ptr). ‵ (fat full_share (layout (Starts E)) (l 2) 0 (word p))) (asked.0 ∙ e) refl $ give_at ! 2 $ first ! $ blocks ! $
    sets ! (bin ! (get ! refl) (size_lit ! (record { fits = fits.0 })) (record { fits = fits.1 })) refl (tt, record { fits = fits.1 }) $
    sets ! (bin ! (get_in ! (fld ! refl (stop !)) (sub ! 0 refl (whole !))) (get ! refl) tt) refl (tt, tt) $
    use1 𝓛 (‵ (froom (elτ E) b at) ⊛ ‵ here.besides) here.out $ split ! $
    sets ! (of_opd ! (get ! refl)) refl it.2 $ assigns_last ! (of_opd ! (get ! refl)) (through ! refl (stop !)) (init ! 0 refl it.2) $
    exec ! 𝓣.C 𝓣.Λ (env fn.locals l) (after 1 fn.body) (at_ret _ (W'.post y)) $ sets ! (of_opd ! (unit_lit !)) refl (tt, tt) $
    move ! (0 ∷ 8 ∷ []) $ use2 𝓛 (‵ (part_at (R E) full_share item b at)) (el_in E 𝓛 full_share item b at v) $
    use2 𝓛 (‵ (All E 𝓛 (right E row.alloc) b o row.room items)) (here.back item) $
    rewrite ! 0 (λ (p : Ptr). ‵ (row_owns (right E row.alloc) (R E) p row.room items)) (sym e) refl $ move ! (1 ∷ 0 ∷ []) $ fjoin ! $ move ! (1 ∷ []) $ closes ! tt (Owner E) new us rb ro $
    returns ! (look_at ! 0 refl) $ free_all ! refl $ keep ! (0 ∷ 1 ∷ 2 ∷ 3 ∷ []) $
    suffices ! _ (ends_at 𝓛 T stayed c y vunit tt (new, (tt, (tt, (tt, tt)))) (tt, (tt, (tt, (tt, tt))))) $ says ! (refl, refl, refl, refl) $
    feq_i ! (List Val) vss.0 (vptr rb ro ∷ []) e0 $ fjoin3 ! $ nothing ! $ nothing ! $ fjoin ! $ nothing ! $ fjoin ! $ nothing ! $ fjoin ! $ move ! (1 ∷ 0 ∷ []) $ fjoin ! $
    feq_i ! (List Val) (vunit ∷ []) (vunit ∷ []) refl $ move ! (1 ∷ 0 ∷ []) $ join ! $ move ! (1 ∷ 2 ∷ []) $ join ! $ join ! $ done !))))))
