-- The proof of `get`, which returns a shared reference to one item of an array. Assumes the separation logic `Logic`.
use Rattle.page_arena.proofs.Steps.{◌+◌, ◌*◌, ◌∙◌, ◌∷◌, ◌∵◌, ◌⊛◌, ◌$◌, !, Ended, List, Ptr, ShrRef, Stays, Val, [], addr, alloc_all, at_ret, bin, blocks, done}
use Rattle.page_arena.proofs.Steps.{drop, ends_at, enter, env, exec, fact, fat, feq_i, first, fjoin, fld, free_all, fsplit, full_share, get, get_in, get_or}
use Rattle.page_arena.proofs.Steps.{give_at, Goes-dropped, heard, hide, in_a_block, inst_fn, join, keep, layout, length, look_at, move, named, no, nothing}
use Rattle.page_arena.proofs.Steps.{of_opd, pass_all, plain, proved, qed, raw, refl, returns, rewrite, says, sets, sets_last, shared_of, size_lit, split, split3}
use Rattle.page_arena.proofs.Steps.{stay_dropped, stop, sub, suffices, sym, tables, take_at, through, unhide, usize, use1, vptr, w64, walk_of, whole, yes, ‵}
use denote.Builtin.{RefOf}
use denote.RattleType.{owns}
use denote.Signature.{types_at}
use denote.Triple.Entry.{Vals, alive}
use contract.BorrowLft.{◌⊑◌}
use Rattle.page_arena.specs.Lends.{HasItem}
use Rattle.page_arena.specs.Owned.{row_lends}
use denote.Ref.{shr_vals, shr_Tells}
use denote.Plain.{uint_vals, uint_Tells}
use Rattle.std_alloc.proofs.VecSteps.El.{El, R, args, sz}
use Rattle.std_alloc.proofs.RcSteps.{word, word-Good}
use Rattle.page_arena.proofs.Rows.{found, begins_below, null_lends, shows_one, Starts, Owner, start_val, start_lowers}
use Rattle.page_arena.specs.contracts.row.Row.get as f
use Rattle.page_arena.proofs.row.Row.get.Statement.{statement}
use Rattle.page_arena.proofs.row.Row.get.Code as code

pub get_spec : {M : Type 1} → statement M
get_spec 𝓤 𝓛 𝓜 𝓡 wired X W LX LW g d dd met md =
    let E : El = record { row = X; laws = LX; al = record { row = W; laws = LW; g = g; d = d; drops = dd } } in
    let T : Ended = f.ended X W g d dd in let stayed : Stays T.signature.params T.kept = (stay_dropped _ yes, (stay_dropped _ no, (stay_dropped _ yes, tt))) in
    let c = f.clauses X W g d dd 𝓛 𝓜.mem 𝓡.returns in let 𝓣 = tables 𝓤 𝓛.H 𝓜 𝓡 𝓡.env in
    proved 𝓛 T stayed c 𝓜 𝓡 (
      Goes-dropped 𝓛 3 (RefOf (0 ∷ []) tt (plain (λ _. Owner E)) (λ _. tt)) yes (λ κs x w. refl),
      (Goes-dropped 𝓛 3 (plain (λ _. Starts E)) no (λ κs x w. refl), (Goes-dropped 𝓛 3 (plain (λ _. usize)) yes (λ κs x w. refl), tt)),
    )
    (f.Key.name (args E)) (inst_fn (args E) code.function) (code.unfolded 𝓤 𝓛.H 𝓜 𝓡 wired (X, (W, tt)) d dd)
    (λ κs. (shr_vals, (start_val E, (uint_vals w64, tt)))) (λ κs. (shr_Tells (named 0) κs.0 (Owner E), ((start_lowers E).val_is, (uint_Tells w64, tt)))) (λ κs qs bounds a n are.
    let self = a.0 in let start = a.1.0 in let index = a.1.1.0 in let row = self.now in let κ = κs.0 in let S = T.signature in
    let vss : Vals S κs = (shr_vals self, (start_val E start, (uint_vals w64 index, tt))) in let W' = walk_of 𝓛 T stayed c in
    let y : W'.Ghost = ((κs, qs, bounds, a, vss), tt) in
    qed 𝓛 ((raw (alive 𝓛 S κs qs) ⊛ ‵ (owns (types_at S.params κs) a vss)) ∷ (raw (fact 𝓤 (κs.1.0 ⊑ X.lives)) ⊛ raw (fact 𝓤 (κs.1.1.0 ⊑ W.lives)) ⊛ raw
    (fact 𝓤 (HasItem (R E) start row index))) ∷ []) ∵
    move ! (1 ∷ []) $ split3 ! $ drop ! $ drop ! $ heard ! _ (λ asked. split ! $
    move ! (1 ∷ []) $ fsplit ! $ fsplit ! $ keep ! (1 ∷ 3 ∷ []) $
    -- [what a `&` to the row holds; the tokens]
    unhide ! $ fsplit ! $ drop ! $ in_a_block ! row.at (λ p. row_lends (R E) p row.items κ) (null_lends E 𝓛 row.items κ) (λ b o e. fsplit ! $ drop ! $ fsplit ! $ drop ! $
    let fits = begins_below E (length row.items) index asked.1 asked.2 in let at = index * sz E + o in let it = found row.items index asked.1 in
    let shown : (ShrRef (named 0) κ (R E)).Denot = record { ref_ptr = (b, at); now = it.0 } in
    enter ! _ _ _ _ _ $ alloc_all ! (λ l. pass_all ! refl ((tt, tt), (word-Good [] start.first, ((tt, record { fits = are.1.1.0.1 }), tt))) $
    take_at ! 2 $ rewrite ! 0 (λ (p : Ptr). ‵ (fat full_share (layout (Starts E)) (l 2) 0 (word p))) (asked.0 ∙ e) refl $ give_at ! 2 $ first ! $ blocks ! $
    sets ! (bin ! (get ! refl) (size_lit ! (record { fits = fits.0 })) (record { fits = fits.1 })) refl (tt, record { fits = fits.1 }) $
    sets ! (bin ! (get_in ! (fld ! refl (stop !)) (sub ! 0 refl (whole !))) (get ! refl) tt) refl (tt, tt) $
    use1 𝓛 (‵ (shared_of (R E) (get_or row.items index it.0) b at κ)) (shows_one E 𝓛 κ b row.items o index it.0 asked.1) $
    rewrite ! 0 (λ (x : X.Denot). ‵ (shared_of (R E) x b at κ)) (it.1 it.0) refl $ hide ! $
    sets_last ! (addr ! (through ! refl (stop !))) refl (tt, tt) $ exec ! 𝓣.C 𝓣.Λ (env code.Mir.locals l) code.Mir.t-2 (at_ret _ (W'.post y)) $
    sets ! (of_opd ! (get ! refl)) refl (tt, tt) $ feq_i ! (List Val) (vptr b at ∷ []) (vptr b at ∷ []) refl $ fjoin ! $
    returns ! (look_at ! 0 refl) $ free_all ! refl $ keep ! (0 ∷ 1 ∷ []) $
    suffices ! _ (ends_at 𝓛 T stayed c y (vptr b at) shown (tt, (tt, (tt, tt))) (tt, (tt, (tt, tt)))) $ says ! (sym (it.1 it.0)) $
    nothing ! $ nothing ! $ fjoin ! $ nothing ! $ fjoin ! $ nothing ! $ fjoin ! $ join ! $ move ! (1 ∷ 0 ∷ []) $ join ! $ done !))))
