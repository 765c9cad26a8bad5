-- The proof that a `Row` is `Send` if its items and its allocator are `Send`.
use base.Shift.{Keyless}
use mir.Syntax.{Ty, ty_array}
use mir.Raw.{raw}
use denote.Array.{Array}
use denote.Memory.{lone}
use denote.RattleType.{RattleType}
use denote.RawPtr.{Ptr, block_ptr, null_ptr, room_for, ◌+ₚ◌}
use denote.Struct.Struct.{exits_of}
use denote.Struct.Owning.{shape, fields, to}
use denote.Param.Send.{IsSend, Frees, AllSend, array_send, owning_send, struct_send, sendable}
use lib.ListN.{length}
use Prim.Native.Nat.{◌-◌, ◌*◌}
use Rattle.std.specs.Mem.{type_size}
use Rattle.core.specs.declared.alloc.Allocator.{Ghosts}
use Rattle.std_alloc.proofs.SendSync.{quiet, lies}
use Rattle.page_arena.specs.contracts.row.Row as row

room : (τ : Ty) (p : Ptr) → Keyless (room_for τ p)
room τ (block_ptr b o) = tt
room τ null_ptr = tt

pub send : (R A : RattleType) (g : Ghosts A.Denot) → IsSend R → IsSend A → Frees g g.dealloc_token → IsSend (row.the_row R A g)
send R A g s sa f =
    let O = row.the_type R A g in let all : AllSend (fields O) = (search sendable, tt) in
    owning_send O all
    (λ r. let n = length r.items in (
      lies (Array R n) (array_send R n s) r.at r.items,
      (room (raw (ty_array (lone R.mir) (r.room - n))) (r.at +ₚ n * type_size R), f.frees r.alloc (raw (ty_array (lone R.mir) r.room)) r.at),
    ))
    (λ k. quiet (to O) (exits_of k (fields O)) ((struct_send (shape O) all).leaving k))
