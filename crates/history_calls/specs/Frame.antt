-- The physical addresses of the granules of a history's machine, and of the host's own granules after them.
use Rattle.std.specs.Prelude.{ℕ, ◌<◌, ◌≤◌, ◌+◌, ◌*◌, ◌^◌}

-- the physical address range of a history's machine: the address of granule 0, and the number of granules
pub record Place : Type 0 where
  pub base : ℕ
  pub pages : ℕ

pub record IsFrame (base pages : ℕ) : Type 0 where
  pub low : base < 2 ^ 46
  pub few : pages ≤ 4096

-- the address of a granule of the machine. RMM 1.0, Granule
abbrev pub address : Place → ℕ → ℕ
address place granule = place.base + 4096 * granule

-- The address of one of the host's own granules, which follow those of the machine. They are for realm parameters, REC
-- parameters, and the runs of RECs.
abbrev pub host : Place → ℕ → ℕ
host place number = place.base + 4096 * (place.pages + number)

abbrev pub realm_params : Place → ℕ
realm_params place = host place 0

abbrev pub rec_params : Place → ℕ
rec_params place = host place 1

abbrev pub run_page : Place → ℕ → ℕ
run_page place run = host place (2 + run)
