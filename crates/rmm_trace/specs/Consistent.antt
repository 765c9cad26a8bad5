-- The conditions that the numbers of a trace line are consistent: in a `platform` line, in a guest's access, and in a
-- repeated fill.
use Rattle.std.specs.Prelude.{ℕ, zero, suc, ◌+◌, ◌*◌, ◌%◌, ◌^◌, max, ◌==◌, nat_le, nat_lt, Bool, true, false, not, ◌&&◌, ◌||◌, if◌then◌else◌, List, [], ◌∷◌, Some}
use Rattle.rmm_trace.specs.declared.place.TheConstants.{FILL, GUEST, PLATFORM, READ, REPEAT, SECURE, WRITE}
use Rattle.rmm_trace.specs.declared.word.Atom.{Atom}
use Rattle.rmm_trace.specs.declared.word.Atom.TheVariants.{Name}
use Rattle.rmm_trace.specs.declared.word.TraceWord.{TraceWord}
use Rattle.rmm_trace.specs.Access.{number_or_zero, number_at, operand_at, after_name}

-- the granules of the `secure` setting, if there is one, are inside the machine
abbrev pub is_secure_right : List TraceWord → ℕ → ℕ → Bool
is_secure_right [] base end = true
is_secure_right (w ∷ ws) base end =
    nat_le base (operand_at (w ∷ ws) 0 0) && nat_le (operand_at (w ∷ ws) 0 0 + 4096 * operand_at (w ∷ ws) 1 0) end

-- no address of the machine exceeds 48 bits, and the granules of its `secure` setting are inside the machine
abbrev pub is_platform_right : List TraceWord → Bool
is_platform_right ws =
    let base = operand_at ws 0 0 in
    let end = base + 4096 * operand_at ws 1 0 in
    nat_le end (2 ^ 48) && is_secure_right (after_name SECURE ws) base end

-- the least number above all values of `width` bytes; any width but 2, 4 and 8 counts as 1
abbrev pub limit_of : ℕ → ℕ
limit_of width = if width == 2 then 2 ^ 16 else (if width == 4 then 2 ^ 32 else (if width == 8 then 2 ^ 64 else 2 ^ 8))

-- the IPA is a multiple of the width, and the value fits in `width` bytes, for a width of 1, 2, 4 or 8; width 0 counts
-- as 1
abbrev pub is_access : ℕ → ℕ → ℕ → Bool
is_access ipa width value = (ipa % max width 1 == 0) && nat_lt value (limit_of width)

abbrev pub is_named_step_right : ℕ → List TraceWord → Bool
is_named_step_right name ws =
    if name == WRITE then is_access (operand_at ws 0 0) (operand_at ws 2 0) (operand_at ws 1 0)
    else (if name == READ then is_access (operand_at ws 0 0) (operand_at ws 1 0) 0 else true)

abbrev pub is_step_by : Atom → List TraceWord → Bool
is_step_by (Name name) ws = is_named_step_right name ws
is_step_by _ ws = true

abbrev pub is_step_right : List TraceWord → Bool
is_step_right [] = true
is_step_right (w ∷ ws) = is_step_by w.value ws

abbrev pub is_guest_right : List TraceWord → Bool
is_guest_right [] = true
is_guest_right (rec ∷ step) = is_step_right step

-- the word's value is at most 255 in each of the first `rounds` rounds of a `repeat`
abbrev pub are_bytes : ℕ → TraceWord → Bool
are_bytes zero w = true
are_bytes (suc rounds) w = nat_le (number_at w rounds) 255 && are_bytes rounds w

abbrev pub is_fill_by : TraceWord → Atom → TraceWord → TraceWord → Bool
is_fill_by times (Name place) address byte =
    not (place == FILL) || ((number_or_zero address.step % 4096 == 0) && are_bytes (number_or_zero (Some times.value)) byte)
is_fill_by times _ address byte = true

abbrev pub is_fill_right : TraceWord → TraceWord → TraceWord → TraceWord → Bool
is_fill_right times name address byte = is_fill_by times name.value address byte

abbrev pub is_repeat_right : List TraceWord → Bool
is_repeat_right (times ∷ name ∷ address ∷ byte ∷ []) = is_fill_right times name address byte
is_repeat_right _ = true

abbrev pub is_consistent_by : Atom → List TraceWord → Bool
is_consistent_by (Name place) ws =
    if place == PLATFORM then is_platform_right ws
    else (if place == GUEST then is_guest_right ws
    else (if place == REPEAT then is_repeat_right ws else true))
is_consistent_by _ ws = false

-- the numbers in a trace line are consistent with each other: those of a `platform` line, a guest's access or a
-- repeated fill
abbrev pub is_consistent : List TraceWord → Bool
is_consistent [] = false
is_consistent (w ∷ ws) = is_consistent_by w.value ws
