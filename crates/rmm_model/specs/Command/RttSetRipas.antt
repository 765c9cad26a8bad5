-- The command RMI_RTT_SET_RIPAS: its checks, its answer and its effect.
use Rattle.std.specs.Prelude.{ℕ, ◌+◌, ◌*◌, ◌==◌, ◌&&◌, ◌||◌, Bool, true, not, nat_le, Some, List, [], ◌∷◌, ◌++◌}
use Rattle.rmm_model.specs.declared.condition.Condition.TheVariants.{Size, TopGranAlign, BaseBound, TopBound, RdState, RecAlign, RecBound, RecGranState, RecState, RecOwner}
use Rattle.rmm_model.specs.declared.entry.Changeable.{Changeable}
use Rattle.rmm_model.specs.declared.realm.RmmRealm.{RmmRealm}
use Rattle.rmm_model.specs.declared.rec.RmmRec.{RmmRec}
use Rattle.rmm_model.specs.declared.rec.RipasRequest.{RipasRequest}
use Rattle.rmm_model.specs.Check.{Command, Check, check, success, error_input, error_rec}
use Rattle.rmm_model.specs.Level.{entry_size}
use Rattle.rmm_model.specs.Machine.{Machine, granule_at, number_of}
use Rattle.rmm_model.specs.Realm.{is_protected}
use Rattle.rmm_model.specs.Rec.{is_running}
use Rattle.rmm_model.specs.Walk.{walk}
use Rattle.rmm_model.specs.Command.Operand.{rd_checks, realm_at, rec_checks, rec_at, is_multiple}
use Rattle.rmm_model.specs.Command.PsciComplete.{is_same_owner, with_rec}
use Rattle.rmm_model.specs.Command.RipasRange.{size_checks, progress_checks, change_count, with_ripas}

-- the kinds of entries that a RIPAS request changes: they are UNASSIGNED or ASSIGNED, and may have RIPAS DESTROYED if
-- the request allows it
abbrev pub set_changeable : RipasRequest → Changeable
set_changeable request = record { assigned = true; destroyed = request.changes_destroyed }

-- A range ends at or below the top of a REC's RIPAS request. If the range is not empty and the REC belongs to the
-- realm, the range begins at a protected address. A guest can ask for protected addresses only, so each address of such
-- a range is protected.
abbrev pub is_within : RmmRealm → RmmRec → Bool → ℕ → ℕ → Bool
is_within realm asking is_owner base top =
    nat_le top asking.ripas.top && (not is_owner || (nat_le top base || is_protected realm base))

-- checks that a REC belongs to the realm and is not RUNNING, and that a range lies in the REC's RIPAS request. The
-- range begins at the base of the request, and ends at or below its top.
unfoldable pub ripas_request_checks : RmmRealm → RmmRec → Bool → ℕ → ℕ → List Check
ripas_request_checks realm asking is_owner base top =
    check TopGranAlign [] (not (is_multiple top 4096)) error_input
    ∷ check RecState (RecGranState ∷ []) (is_running asking.state) error_rec
    ∷ check RecOwner (RecGranState ∷ RdState ∷ []) (not is_owner) error_rec
    ∷ check BaseBound (RecState ∷ []) (not (base == asking.ripas.base)) error_input
    ∷ check TopBound (RecState ∷ []) (not (is_within realm asking is_owner base top)) error_input ∷ []

-- the REC at address `rec` belongs to the realm whose RD is at address `rd`
abbrev pub is_rec_of : Machine → ℕ → ℕ → Bool
is_rec_of m rd rec = is_same_owner (granule_at m (number_of m rec)).owner (Some (number_of m rd))

-- the REC after its RIPAS request has advanced to an address
abbrev pub with_base : RmmRec → ℕ → RmmRec
with_base rec base = record rec { ripas = record rec.ripas { base = base } }

-- The entries of one table from `base` to `top` get the RIPAS that a REC asked for. The change stops at the first
-- unchangeable entry, and the REC asks for the rest from then on. RMM 1.0, RMI_RTT_SET_RIPAS.
unfoldable pub rtt_set_ripas : ℕ → ℕ → ℕ → ℕ → Machine → Command
rtt_set_ripas rd rec base top m =
    let asking = rec_at m rec in
    let found = walk m (realm_at m rd) base 3 in
    let count = change_count m (set_changeable asking.ripas) found base top in
    let stop = base + count * entry_size found.level in
    record {
      checks = size_checks base top ++ rd_checks m rd ++ rec_checks RecAlign RecBound RecGranState m rec
          ++ ripas_request_checks (realm_at m rd) asking (is_rec_of m rd rec) base top
          ++ progress_checks (Size ∷ RecGranState ∷ RdState ∷ RecState ∷ RecOwner ∷ BaseBound ∷ TopBound ∷ []) m (set_changeable asking.ripas) found base top;
      answer = record success { x1 = stop };
      machine = with_rec (with_ripas m found base asking.ripas.ripas count) (number_of m rec) (with_base asking stop);
    }
