-- The separation logic rules that the proofs of pointer code use.
pub use mathlib.Core.Path.{◌≡◌, refl, sym, ap, subst, ◌∙◌}
pub use mathlib.Core.List.{List, [], ◌∷◌, ◌++◌}
pub use Prim.Native.Nat.{ℕ, zero, suc, ◌+◌, ◌-◌, ◌*◌, ◌^◌, ◌<◌, ◌≤◌}
pub use native.Mathlib.Omega.{arith}
pub use lib.ListN.{length, get_or, set, length-set}
pub use seplogic.Ra.Ura.{Ura}
pub use base.Fraction.{full_share}
pub use base.Logic.{SProp, ent, sep, never, id⊢}
pub use base.Fml.{Lft, Share, GName, Fml, ftrue, fsep, fat, froom, flft, fhide, fobs, fbor}
pub use mir.Syntax.{Fn, Ty, named, w64, ty_array, ty_ptr}
pub use mir.MapTy.{inst_fn}
pub use mir.Val.{Val, vptr, vint, vunit, vstruct, vcons, vnil, of_list}
pub use types.Logic.{Logic, sem}
pub use contract.Monad.{fact}
pub use contract.Running.{tables}
pub use types.Kit.{Item, Goal, Seq, Step, step, ‵, raw, ◌⊛◌, some, given, later, prop, at_ret, ◌$◌, ◌∵◌, !, qed, by, done}
pub use types.Kit.{move, keep, drop, use0, use1, use2, use3, split, split3, join, group, fsplit, fsplit3, fjoin, fjoin3}
pub use types.Kit.{fpick, fpack, feq_i, feq_l, flt_i, flt_l, pick, learn, await, rewrite, regoal, suffices, frame}
pub use types.Part.{whole, sub, agg}
pub use types.Run.{enter, of_opd, lit, unit_lit, bin, size_lit, size_word, align_word, addr, load, look, store, init, stop, fld, hop, no_more}
pub use types.Run.{and_then, assigns, assigns_last, first, blocks, branches, skips, exec, returns, returns_within, well_typed, switches_on}
pub use types.ByLocal.{alloc_all, pass_all, free_all, look_at, get, get_in, get_tag, through, sets, sets_last, lands_as, lands_last, take_at, give_at, is, env}
pub use denote.Exit.{yes, no}
pub use denote.RattleType.{RattleType}
pub use denote.Array.{Array}
pub use denote.Memory.{mem, cell_at, part_at, shared_of, each_shared, hidden_shr}
pub use denote.Opens.{hide, unhide}
pub use denote.Param.{param, layout}
pub use denote.Param.Laws.{Laws}
pub use denote.RawPtr.{Ptr, RawPtr, block_ptr, null_ptr, ptr_val, in_a_block, lies_at, room_for, ◌+ₚ◌}
pub use denote.Ref.{Bor, MutBor, MutRef, ShrRef}
pub use denote.Builtin.{usize, unit}
pub use denote.Signature.{plain}
pub use denote.Steps.{nothing, owned, opens, closes, peeks, heard, only}
pub use denote.Struct.Lending.{lent_at}
pub use denote.Triple.Clauses.{Ended}
pub use denote.Triple.Table.{framed}
pub use denote.Triple.Walked.{Stays, stay_dropped, stay_ref, walk_of, says, needs, ends_at, Goes-dropped, Goes-ref, Goes-spent_ref}
pub use Rattle.std.proofs.raw_atomic.Walks.{proved, proved_at}
pub use Rattle.std_alloc.proofs.VecSteps.Shapes.{after}
