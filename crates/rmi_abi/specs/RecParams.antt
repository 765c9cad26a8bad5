-- The parameters with which a host creates a REC, as fields of a page. RMM 1.0, RmiRecParams: each field is one of the
-- page's 512 words.
use Rattle.std.specs.Prelude.{ℕ, ◌+◌, ◌%◌, ◌==◌, Bool, List}
use Rattle.page_arena.specs.Word.{word_of_page}

-- bit 0 of RmiRecCreateFlags, RUNNABLE, is set
abbrev pub is_runnable_in : List ℕ → Bool
is_runnable_in page = word_of_page page 0 % 2 == 1

abbrev pub mpidr_in : List ℕ → ℕ
mpidr_in page = word_of_page page 32

abbrev pub pc_in : List ℕ → ℕ
pc_in page = word_of_page page 64

-- the initial value of general-purpose register k of a new REC, k from 0 to 7
abbrev pub gpr_in : List ℕ → ℕ → ℕ
gpr_in page k = word_of_page page (96 + k)

-- the number of auxiliary granules, in the field num_aux
abbrev pub num_aux_in : List ℕ → ℕ
num_aux_in page = word_of_page page 256

-- the address of auxiliary granule k, k from 0 to 15
abbrev pub aux_in : List ℕ → ℕ → ℕ
aux_in page k = word_of_page page (257 + k)
