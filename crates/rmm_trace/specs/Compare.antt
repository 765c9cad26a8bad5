-- The comparison of an answer in a trace with the model's answer. Parts that a call's answer in the trace omits are not
-- compared.
use Rattle.std.specs.Prelude.{ℕ, ◌-◌, ◌==◌, nat_le, nat_lt, Bool, true, false, not, ◌&&◌, ◌||◌, if◌then◌else◌, List, [], ◌∷◌, length, Option, Some, None, is_some, bit_and}
use Rattle.std.specs.List.{list_any, list_all, onto_first}
use Rattle.rmm_trace.specs.declared.place.TheConstants.{DASH, EMPTY, FILL, FIRST_CHECK, GPRS, INTERRUPT, PLATFORM, PSCI_DENIED, PSCI_SUCCESS, REPEAT, RMI_SUCCESS, SYNC, UNASSIGNED}
use Rattle.rmm_trace.specs.declared.word.Atom.{Atom}
use Rattle.rmm_trace.specs.declared.word.Atom.TheVariants.{Name, Decimal, Hexadecimal}
use Rattle.rmm_trace.specs.declared.word.TraceWord.{TraceWord}

-- ---- values

-- the index is one of the `count` indices from `first` on
abbrev pub is_name_among : ℕ → ℕ → ℕ → Bool
is_name_among first count place = nat_le first place && nat_lt (place - first) count

-- the number that a name represents, if it is the name of an entry state, a RIPAS, an exit reason or a PSCI status
abbrev pub ordinal : ℕ → Option ℕ
ordinal place =
    if is_name_among UNASSIGNED 3 place then Some (place - UNASSIGNED)
    else (if is_name_among EMPTY 3 place then Some (place - EMPTY)
    else (if is_name_among SYNC 7 place then Some (place - SYNC)
    else (if place == PSCI_SUCCESS then Some 0 else (if place == PSCI_DENIED then Some 0xFFFFFFFFFFFFFFFD else None))))

abbrev pub atom_number : Atom → Option ℕ
atom_number (Name place) = ordinal place
atom_number (Decimal n) = Some n
atom_number (Hexadecimal n) = Some n

-- the bits in which values are compared: those of the mask, or all bits if the mask is missing or a name
abbrev pub mask_of : Option Atom → ℕ
mask_of (Some (Decimal n)) = n
mask_of (Some (Hexadecimal n)) = n
mask_of (Some (Name place)) = 0xFFFFFFFFFFFFFFFF
mask_of None = 0xFFFFFFFFFFFFFFFF

abbrev pub is_same_number : ℕ → Option ℕ → Option ℕ → Bool
is_same_number mask (Some a) (Some b) = bit_and a mask == bit_and b mask
is_same_number mask _ _ = false

abbrev pub is_same_atom : ℕ → Atom → Atom → Bool
is_same_atom mask (Name place) (Name other) = place == other
is_same_atom mask a b = is_same_number mask (atom_number a) (atom_number b)

abbrev pub is_dash : Atom → Bool
is_dash (Name place) = place == DASH
is_dash _ = false

-- the trace's value is `-`, or agrees with the model's value in the bits of the trace's mask
abbrev pub is_same_value : TraceWord → TraceWord → Bool
is_same_value written ours = is_dash written.value || is_same_atom (mask_of written.mask) written.value ours.value

-- the word is `-` or represents a number, and has no comma after it
abbrev pub is_register : TraceWord → Bool
is_register w = not w.is_listed && (is_dash w.value || is_some (atom_number w.value))

abbrev pub is_same_register : TraceWord → TraceWord → Bool
is_same_register written ours = is_register written && is_same_value written ours

abbrev pub zero_word : TraceWord
zero_word = record { value = Decimal 0; mask = None; step = None; is_listed = false }

abbrev pub first_of : List TraceWord → TraceWord
first_of [] = zero_word
first_of (w ∷ ws) = w

abbrev pub rest_of : List TraceWord → List TraceWord
rest_of [] = []
rest_of (w ∷ ws) = ws

-- the trace's values agree one by one with the model's values, once zeros are added to the shorter list
abbrev pub are_values : List TraceWord → List TraceWord → Bool
are_values [] [] = true
are_values [] (y ∷ ys) = is_same_value zero_word y && are_values [] ys
are_values (x ∷ xs) [] = is_same_value x zero_word && are_values xs []
are_values (x ∷ xs) (y ∷ ys) = is_same_value x y && are_values xs ys

-- ---- the parts of an answer, each of which ends at a comma, before a check, or with the answer

-- the atom is the name of a check, such as `(version)`
abbrev pub is_check : Atom → Bool
is_check (Name place) = nat_le FIRST_CHECK place
is_check _ = false

abbrev pub starts_check : List TraceWord → Bool
starts_check [] = false
starts_check (w ∷ ws) = is_check w.value

abbrev pub ends_part : TraceWord → List TraceWord → Bool
ends_part w ws = w.is_listed || starts_check ws

abbrev pub parts : List TraceWord → List (List TraceWord)
parts [] = []
parts (w ∷ ws) = if ends_part w ws then (w ∷ []) ∷ parts ws else onto_first w (parts ws)

-- the name is an RMI status or `gprs`; values that are missing after it count as zeros
abbrev pub missing_values_are_zeros : Atom → Bool
missing_values_are_zeros (Name place) = place == GPRS || is_name_among RMI_SUCCESS 5 place
missing_values_are_zeros _ = false

abbrev pub is_same_name : Bool → TraceWord → TraceWord → Bool
is_same_name are_checks_compared written ours =
    if not are_checks_compared && is_check written.value && is_check ours.value then true else is_same_value written ours

abbrev pub is_same_part : Bool → List TraceWord → List TraceWord → Bool
is_same_part are_checks_compared (a ∷ xs) (b ∷ ys) =
    is_same_name are_checks_compared a b && (length xs == length ys || missing_values_are_zeros a.value) && are_values xs ys
is_same_part are_checks_compared _ _ = false

abbrev pub has_part : Bool → List TraceWord → List TraceWord → Bool
has_part are_checks_compared ours part = list_any (λ other. is_same_part are_checks_compared part other) (parts ours)

-- the model's answer has each part of the trace's answer
abbrev pub are_parts : Bool → List TraceWord → List TraceWord → Bool
are_parts are_checks_compared written ours = list_all (λ part. has_part are_checks_compared ours part) (parts written)

-- the first words of the model's answer agree with the words of the trace's answer
abbrev pub are_first : List TraceWord → List TraceWord → Bool
are_first [] ys = true
are_first (x ∷ xs) [] = false
are_first (x ∷ xs) (y ∷ ys) = (if x.is_listed then y.is_listed else not y.is_listed) && is_same_value x y && are_first xs ys

-- ---- checks

-- the pair consists of this command and this check
abbrev pub is_pair : ℕ → ℕ → ℕ × ℕ → Bool
is_pair command check pair = pair.0 == command && pair.1 == check

abbrev pub check_by : Atom → Option ℕ → Option ℕ
check_by (Name place) other = if nat_le FIRST_CHECK place then Some place else other
check_by _ other = other

-- the first check that an answer names, if any
abbrev pub check_in : List TraceWord → Option ℕ
check_in [] = None
check_in (w ∷ ws) = check_by w.value (check_in ws)

abbrev pub is_unsure_check : List (ℕ × ℕ) → ℕ → Option ℕ → Bool
is_unsure_check pairs command None = false
is_unsure_check pairs command (Some check) = list_any (is_pair command check) pairs

-- the first check that the answer names is listed in `pairs` for this command
abbrev pub is_unsure : List (ℕ × ℕ) → ℕ → List TraceWord → Bool
is_unsure pairs command words = is_unsure_check pairs command (check_in words)

-- ---- answers

-- the index of a name; for a number, the index of the name `-`
abbrev pub place_of : Atom → ℕ
place_of (Name place) = place
place_of _ = DASH

-- the index of the name that begins a trace line or, in a `repeat`, of the name of the repeated call or fill
abbrev pub command_in : List TraceWord → ℕ
command_in [] = DASH
command_in (w ∷ []) = place_of w.value
command_in (w ∷ times ∷ []) = place_of w.value
command_in (w ∷ times ∷ call ∷ ws) = if place_of w.value == REPEAT then place_of call.value else place_of w.value

-- the answers to a command, an interrupt or a fill agree part by part, and all other answers word by word
abbrev pub is_same_by : ℕ → Bool → List TraceWord → List TraceWord → Bool
is_same_by kind are_checks_compared written ours =
    if nat_lt kind PLATFORM || kind == INTERRUPT || kind == FILL then are_parts are_checks_compared written ours
    else (length written == length ours && are_first written ours)

abbrev pub is_same : List (ℕ × ℕ) → List TraceWord → List TraceWord → List TraceWord → Bool
is_same pairs question written ours =
    let command = command_in question in
    is_same_by command (not (is_unsure pairs command written || is_unsure pairs command ours)) written ours
