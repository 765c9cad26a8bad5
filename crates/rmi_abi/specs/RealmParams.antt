-- The parameters with which a host creates a realm, as fields of a page. RMM 1.0, RmiRealmParams: each field is at the
-- start of one of the page's 512 words.
use Rattle.std.specs.Prelude.{ℕ, ◌%◌, ◌^◌, List}
use Rattle.page_arena.specs.Word.{word_of_page}
use Rattle.rmi_abi.specs.declared.realm_params.RealmParams.{RealmParams}

-- the first byte of 64-bit word i of a page
abbrev pub byte_of_page : List ℕ → ℕ → ℕ
byte_of_page page i = word_of_page page i % 2 ^ 8

-- The parameters of a realm, as a page holds them.
unfoldable pub realm_params_in : List ℕ → RealmParams
realm_params_in page = record {
  flags = word_of_page page 0;
  s2sz = byte_of_page page 1;
  sve_vl = byte_of_page page 2;
  num_bps = byte_of_page page 3;
  num_wps = byte_of_page page 4;
  pmu_num_ctrs = byte_of_page page 5;
  hash_algo = byte_of_page page 6;
  vmid = word_of_page page 256 % 2 ^ 16;
  rtt_base = word_of_page page 257;
  rtt_level_start = word_of_page page 258;
  rtt_num_start = word_of_page page 259 % 2 ^ 32;
}
