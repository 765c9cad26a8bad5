-- The grammar of a trace line before its ` = `: a sequence of word groups, each with a name and its values.
use Rattle.std.specs.Prelude.{ℕ, ◌+◌, ◌-◌, ◌%◌, ◌==◌, nat_le, nat_lt, Bool, true, false, not, ◌&&◌, ◌||◌, if◌then◌else◌, List, [], ◌∷◌, Option, Some, None, is_some, option_and_then, bit_and, bit_or}
use Rattle.rmm_trace.specs.declared.word.Atom.{Atom}
use Rattle.rmm_trace.specs.declared.word.Atom.TheVariants.{Name, Decimal, Hexadecimal}
use Rattle.rmm_trace.specs.declared.word.TraceWord.{TraceWord}
use Rattle.rmm_trace.specs.declared.grammar.ValueKind.{ValueKind}
use Rattle.rmm_trace.specs.declared.grammar.Group.{Group}
use Rattle.rmm_trace.specs.declared.grammar.Place.{Place}

-- the number is in the kind's range, a multiple of the kind's `unit`, and 0 or a divisor of the kind's `multiple`
abbrev pub is_number_of : ValueKind → ℕ → Bool
is_number_of kind n =
    if nat_lt n kind.least || nat_lt kind.most n then false
    else (if kind.unit == 0 || not (n % kind.unit == 0) then false else (n == 0 || kind.multiple % n == 0))

abbrev pub is_of_kind : ValueKind → Atom → Bool
is_of_kind kind (Name name) = nat_le kind.first_name name && nat_lt (name - kind.first_name) kind.name_count
is_of_kind kind (Decimal n) = is_number_of kind n
is_of_kind kind (Hexadecimal n) = is_number_of kind n

abbrev pub kind_at : Group → ℕ → ValueKind
kind_at group count = if count == 0 then group.first else (if count == 1 then group.second else (if count == 2 then group.third else group.others))

-- the group has this name, and may occur in this context
abbrev pub is_row : ℕ → ℕ → Group → Bool
is_row context name group = group.name == name && not (bit_and group.contexts context == 0)

-- the first group that has this name and may occur in this context, if there is one
abbrev pub row_of : ℕ → ℕ → List Group → Option Group
row_of context name [] = None
row_of context name (group ∷ groups) = if is_row context name group then Some group else row_of context name groups

-- the new position in the grammar, if the move to it succeeded
abbrev pub if_place : Bool → Place → Option Place
if_place true it = Some it
if_place false it = None

-- the position at the start of a group; none if a group that this one excludes came before
abbrev pub enter : Place → Group → Option Place
enter it group =
    if not (bit_and it.seen group.excludes == 0) then None
    else Some (record { group = group; context = it.group.opens; count = 0; seen = bit_or it.seen group.bit })

abbrev pub opened : List Group → Place → Atom → Option Place
opened groups it (Name name) = option_and_then (λ group. enter it group) (row_of it.group.opens name groups)
opened groups it (Decimal n) = None
opened groups it (Hexadecimal n) = None

-- the position after a word, if the word may come next: as a value of the current group, or as the name of a further
-- group. Only a value in a `repeat` may have a step.
abbrev pub next : List Group → Place → TraceWord → Option Place
next groups it w =
    if w.is_listed || is_some w.mask then None
    else (if is_some w.step && not (it.context == 2) then None
    else (if nat_lt it.count it.group.most && is_of_kind (kind_at it.group it.count) w.value then Some (record it { count = it.count + 1 })
    else (if is_some w.step || nat_lt it.count it.group.least then None else opened groups it w.value)))

abbrev pub is_complete : Place → Bool
is_complete it = it.group.is_last && nat_le it.group.least it.count

-- the grammar accepts the words, from the position on, up to the ` = ` or the end of a trace line
abbrev pub accepts : List Group → Option Place → List TraceWord → Bool
accepts groups None words = false
accepts groups (Some it) [] = is_complete it
accepts groups (Some it) (w ∷ ws) = accepts groups (next groups it w) ws
