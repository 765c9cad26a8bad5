-- The machine after the host has written the fields of a parameter page, as a trace requests. RMM 1.0, RmiRealmParams,
-- RmiRecParams and RmiRecEnter.
use Rattle.std.specs.Prelude.{ℕ, ◌+◌, ◌%◌, ◌^◌, ◌==◌, if◌then◌else◌, List, [], ◌∷◌, length}
use Rattle.rmm_model.specs.Host.{can_fill, after_fill, after_store}
use Rattle.rmm_model.specs.Machine.{Machine}
use Rattle.rmm_trace.specs.declared.place.TheConstants.{AUX}
use Rattle.rmm_trace.specs.declared.word.Atom.{Atom}
use Rattle.rmm_trace.specs.declared.word.Atom.TheVariants.{Name, Decimal, Hexadecimal}
use Rattle.rmm_trace.specs.declared.word.TraceWord.{TraceWord}
use Rattle.rmm_trace.specs.Access.{operand_at, after_name}
use Rattle.rmm_trace.specs.Compare.{rest_of}
use Rattle.rmm_answers.specs.declared.page.TheConstants.{REC_FIELDS, NUM_AUX}

-- the offset of the field with this name; 0 if no field has the name
abbrev pub offset_in : ℕ → List (ℕ × ℕ) → ℕ
offset_in name [] = 0
offset_in name (field ∷ fields) = if field.0 == name then field.1 else offset_in name fields

abbrev pub next_offset : List (ℕ × ℕ) → ℕ → Atom → ℕ
next_offset fields at (Name name) = offset_in name fields
next_offset fields at _ = (at + 8) % 2 ^ 64

abbrev pub with_stored : Machine → ℕ → Atom → Machine
with_stored m address (Name name) = m
with_stored m address (Decimal n) = after_store m address n
with_stored m address (Hexadecimal n) = after_store m address n

-- The machine after fields of a page are written as the words of a trace say. A field's name moves to its offset, and
-- each value fills the next eight bytes.
unfoldable pub with_fields : List (ℕ × ℕ) → ℕ → ℕ → List TraceWord → Machine → Machine
with_fields fields address at [] m = m
with_fields fields address at (w ∷ ws) m =
    with_fields fields address (next_offset fields at w.value) ws (with_stored m ((address + at) % 2 ^ 64) w.value)

-- The machine after a page is written with the fields that the words of a trace give, and zeros elsewhere; unchanged
-- if the host may not fill the page.
unfoldable pub after_page : List (ℕ × ℕ) → List TraceWord → Machine → Machine
after_page fields ws m =
    let address = operand_at ws 0 0 in
    if can_fill m address then with_fields fields address 0 (rest_of ws) (after_fill m address 0) else m

-- The machine after an RmiRecParams page is written; unchanged if the host may not fill the page. NUM_AUX is the number
-- of `aux` values.
unfoldable pub after_rec_params : List TraceWord → Machine → Machine
after_rec_params ws m =
    let address = operand_at ws 0 0 in
    if can_fill m address then after_store (after_page REC_FIELDS ws m) ((address + NUM_AUX) % 2 ^ 64) (length (after_name AUX ws)) else m
