-- Changes to the RIPAS of a range of IPAs in one table, and the checks of the range. RMM 1.0, RMI_RTT_INIT_RIPAS and
-- RMI_RTT_SET_RIPAS.
use Rattle.std.specs.Prelude.{ℕ, ◌+◌, ◌-◌, ◌/◌, not, nat_le, List, [], ◌∷◌, if◌then◌else◌}
use Rattle.rmm_model.specs.declared.condition.Condition.{Condition}
use Rattle.rmm_model.specs.declared.condition.Condition.TheVariants.{Size, BaseAlign, RtteState, NoProgress}
use Rattle.rmm_model.specs.declared.entry.Changeable.{Changeable}
use Rattle.rmm_model.specs.declared.entry.RmmRipas.{RmmRipas}
use Rattle.rmm_model.specs.declared.realm.RttWalk.{RttWalk as Walked}
use Rattle.rmm_model.specs.Check.{Check, check, error_input, error_rtt}
use Rattle.rmm_model.specs.Entry.{entry_word, can_change, entry_with_ripas}
use Rattle.rmm_model.specs.Level.{entry_size, entry_index}
use Rattle.rmm_model.specs.Machine.{Machine, page_in, with_page}
use Rattle.rmm_model.specs.Table.{entry_in_page, first_fixed, with_words_from}
use Rattle.rmm_model.specs.Walk.{entry_at}
use Rattle.rmm_model.specs.Command.Operand.{is_multiple}

-- ---- checks

-- checks that a range is not empty
abbrev pub size_checks : ℕ → ℕ → List Check
size_checks base top = check Size [] (nat_le top base) error_input ∷ []

-- checks that a range begins at the start of an entry, that this entry can be changed, and that the range covers the
-- whole entry
abbrev pub progress_checks : List Condition → Machine → Changeable → Walked → ℕ → ℕ → List Check
progress_checks after m changeable found base top =
    check BaseAlign after (not (is_multiple base (entry_size found.level))) (error_rtt found.level)
    ∷ check RtteState (BaseAlign ∷ []) (not (can_change changeable (entry_at m found base))) (error_rtt found.level)
    ∷ check NoProgress (BaseAlign ∷ []) (not (nat_le (base + entry_size found.level) top)) (error_rtt found.level) ∷ []

-- ---- the change

-- the number of a table's entries, from IPA `base` on, that are wholly below IPA `top`
unfoldable pub entries_below : Walked → ℕ → ℕ → ℕ
entries_below found base top =
    let rest = 512 - entry_index found.level base in
    let whole = (top - base) / entry_size found.level in
    if nat_le whole rest then whole else rest

-- the number of a table's entries, from IPA `base` on, that are wholly below `top` and before the first unchangeable
-- entry
unfoldable pub change_count : Machine → Changeable → Walked → ℕ → ℕ → ℕ
change_count m changeable found base top =
    let first = entry_index found.level base in
    first_fixed changeable (page_in m found.table) (entries_below found base top) first - first

-- the machine after `count` entries of a table, from entry `first` on, get a new RIPAS
unfoldable pub with_ripas_from : Machine → ℕ → ℕ → RmmRipas → ℕ → Machine
with_ripas_from m table first ripas count =
    let page = page_in m table in
    with_page m table (with_words_from first count (λ i. entry_word (entry_with_ripas ripas (entry_in_page page i))) page)

-- the machine after `count` entries of a table, from IPA `base` on, get a new RIPAS
abbrev pub with_ripas : Machine → Walked → ℕ → RmmRipas → ℕ → Machine
with_ripas m found base ripas count = with_ripas_from m found.table (entry_index found.level base) ripas count
