-- The proof that a shared borrow of a `Row` consists of the shared borrows of its items. The unused capacity and the
-- right to free the memory are not borrowed. Assumes the separation logic `Logic`.
use mathlib.Core.Path.{sym, subst}
use mathlib.Core.List.{[], ◌++◌}
use lib.ListN.{length}
use base.Fraction.{full_share}
use base.Fml.{Incl, Incl-trans}
use contract.BorrowLft.{meet_⊑_left}
use denote.RattleType.{RattleType}
use denote.Array.{Array, Array-row_laws}
use denote.ArrayMemory.{Single}
use denote.RawPtr.{RawPtr, lies_at}
use denote.Shares.{Shares-less, Shares-Array}
use denote.Param.Laws.{Laws}
use denote.Param.Shared.{copy_shared}
use denote.Struct.Laws.{field_copy}
use denote.Struct.Lending.{lent_at, lent_at_shr_laws, Lends-lies, Lends-first, of_Lends}
use Rattle.core.specs.declared.alloc.Allocator.{Ghosts}
use Rattle.core.specs.contracts.marker.PhantomData as phantom
use Rattle.page_arena.specs.contracts.row.Row as row
use Rattle.page_arena.proofs.row.Row.TheLaw.Statement.{statement}

pub shares : (R A : RattleType) (g : Ghosts A.Denot) (L : Laws R) (K : Laws A) → statement R A g L K
shares R A g L K =
    of_Lends (row.struct R A g) (row.the_codes R.Denot A.Denot R.coded A.coded (phantom.the_row RawPtr).coded) (row.the_heap R A g) (row.the_lent R A g)
    (λ r p. lent_at_shr_laws (Array R (length r.items)) (Array-row_laws R L.shr_laws (length r.items)) r.at r.items)
    (copy_shared (phantom.the_field RawPtr) (field_copy (phantom.the_type RawPtr) tt), tt)
    (λ M 𝓤 𝓛 r p.
    let l = (row.the_row R A g).lives in let n = length r.items in
    let inside : Incl l R.lives = Incl-trans (meet_⊑_left (R.lives ++ (A.lives ++ [])) _) (meet_⊑_left R.lives (A.lives ++ [])) in
    Lends-first 𝓛 (lies_at (Array R n) full_share r.at r.items) _ (lent_at (Array R n) r.at r.items) l
    (Lends-lies 𝓛 (Array R n) l r.at r.items (Shares-Array 𝓛 R (subst Single (sym L.one) tt) n l (Shares-less 𝓛 R R.lives l inside (L.shares 𝓛)) r.items)))
