-- The encoding of RMI result words in X0. RMM 1.0, RmiCommandReturnCode: the status in bits 7:0, the index in bits
-- 15:8.
use Rattle.std.specs.Prelude.{ℕ, ◌+◌, ◌-◌, ◌*◌, ◌^◌, ◌/◌, ◌%◌, ◌==◌, ◌&&◌, Bool, true, false, nat_lt, Option, Some, None, if◌then◌else◌}
use Rattle.rmi_abi.specs.declared.word.Word.{Word}
use Rattle.rmi_abi.specs.declared.word.Word.TheVariants.{Success, ErrorInput, ErrorRealm, ErrorRec, ErrorRtt, Running}

-- the value of X0 that encodes the result word
abbrev pub number : Word → ℕ
number Success = 0
number ErrorInput = 1
number (ErrorRealm index) = 2 + 256 * index
number ErrorRec = 3
number (ErrorRtt index) = 4 + 256 * index
number Running = 2 ^ 64 - 2

-- the result word with the given status and index, or None if the standard has no such word
abbrev pub word_at : ℕ → ℕ → Option Word
word_at status index =
    if status == 2 then Some (ErrorRealm index) else
    (if status == 4 then Some (ErrorRtt index) else
    (if status == 0 && index == 0 then Some Success else
    (if status == 1 && index == 0 then Some ErrorInput else
    (if status == 3 && index == 0 then Some ErrorRec else None))))

-- the result word that a value of X0 encodes; None if the standard defines none for the value, as for that of `Running`
abbrev pub word_of : ℕ → Option Word
word_of x0 = if nat_lt x0 0x10000 then word_at (x0 % 256) (x0 / 256) else None

abbrev pub is_success : Word → Bool
is_success Success = true
is_success _ = false
