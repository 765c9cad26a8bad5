-- The GIC fields of a REC's run page, and the values that a host may set in them. RMM 1.0, RmiRecEnter and RmiRecExit;
-- Arm GIC Architecture Specification, ICH_HCR_EL2 and ICH_LR<n>_EL2.
use Rattle.std.specs.Prelude.{ℕ, ◌+◌, ◌/◌, ◌%◌, ◌^◌, ◌==◌, ◌&&◌, Bool, nat_le, List, if◌then◌else◌}
use Rattle.page_arena.specs.Word.{word_of_page}

-- the field gicv3_hcr in a run page: RmiRecEnter.gicv3_hcr
abbrev pub gicv3_hcr_in : List ℕ → ℕ
gicv3_hcr_in page = word_of_page page 96

-- list register k in a run page, k from 0 to 15: RmiRecEnter.gicv3_lrs
abbrev pub gicv3_lr_in : List ℕ → ℕ → ℕ
gicv3_lr_in page k = word_of_page page (97 + k)

-- A host may set each bit that is 1 in the value of gicv3_hcr. A host may set UIE, LRENPIE, NPIE, VGrp0EIE, VGrp0DIE,
-- VGrp1EIE and VGrp1DIE, from bit 1 on, and TDIR, bit 14.
abbrev pub is_gicv3_hcr : ℕ → Bool
is_gicv3_hcr hcr = hcr % 2 == 0 && hcr / 2 ^ 8 % 2 ^ 6 == 0 && hcr / 2 ^ 15 == 0

-- If list register k exists, its HW bit is 0; else all its bits in the page are 0. GICV3_NUM_LRS is the number of the
-- last list register.
abbrev pub is_gicv3_lr : ℕ → List ℕ → ℕ → Bool
is_gicv3_lr num_lrs page k = if nat_le k num_lrs then gicv3_lr_in page k / 2 ^ 61 % 2 == 0 else gicv3_lr_in page k == 0
