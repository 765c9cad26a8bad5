-- The valid MPIDR values of RECs, and the REC number that each of them names. RMM 1.0, RmiRecMpidr: Aff0 in bits 3:0,
-- Aff1 in 15:8, Aff2 in 23:16, Aff3 in 31:24.
use Rattle.std.specs.Prelude.{ℕ, ◌+◌, ◌*◌, ◌/◌, ◌%◌, ◌^◌, ◌&&◌, Bool, nat_lt}

-- all bits outside the affinity fields are 0
abbrev pub is_mpidr : ℕ → Bool
is_mpidr mpidr = nat_lt mpidr (2 ^ 32) && nat_lt (mpidr % 2 ^ 8) (2 ^ 4)

-- the REC number that an MPIDR names: Aff0 + 2^4 * Aff1 + 2^12 * Aff2 + 2^20 * Aff3
abbrev pub rec_number : ℕ → ℕ
rec_number mpidr = mpidr % 2 ^ 4 + mpidr / 2 ^ 8 * 2 ^ 4
