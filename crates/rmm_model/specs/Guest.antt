-- The simulated guest of a REC: at most 16 pending steps of its program, and the results of steps. Simulated guests are
-- this RMM's own. The steps are a ring in words 48 to 127 of the REC's granule, five words each. The results since the
-- last entry are in words 128 to 191, two words each. Words 192 to 208 are gicv3_hcr and the list registers of the last
-- entry.
use Rattle.std.specs.Prelude.{ℕ, ◌+◌, ◌-◌, ◌*◌, ◌%◌, ◌==◌, ◌&&◌, Bool, nat_lt, List, is_some, unwrap_or, if◌then◌else◌}
use Rattle.page_arena.specs.Word.{word_of_page}
use Rattle.rmm_model.specs.declared.rec.RmmRec.{RmmRec as Attributes}
use Rattle.rmm_model.specs.declared.step.Queued.{Queued}
use Rattle.rmm_model.specs.declared.step.Queued.TheVariants.{Queued as IsQueued, Full, NoRec}
use Rattle.rmm_model.specs.declared.step.GuestStep.{GuestStep}
use Rattle.rmm_model.specs.declared.step.GuestStep.TheVariants.{Write, Read, Fetch, HostCall, SetRipas, CpuOn, AffinityInfo, CpuOff, CpuSuspend, SystemOff, SystemReset}
use Rattle.rmm_model.specs.declared.step.GuestStep.TheVariants.{Wfi, Wfe, SystemRegister, Spin}
use Rattle.rmm_model.specs.declared.step.StepResult.{StepResult}
use Rattle.rmm_model.specs.declared.step.StepResult.TheVariants.{Done, Read as IsRead, Sea, Psci, RsiErrorInput, Accepted, Rejected, Returned}
use Rattle.rmm_model.specs.declared.step.StepWords.{StepWords}
use Rattle.rmm_model.specs.Access.{access_size}
use Rattle.rmm_model.specs.Granule.{rec_of}
use Rattle.rmm_model.specs.Machine.{Machine, granule_at, page_in, is_aligned, is_inside, number_of, state_at, with_word}
use Rattle.rmm_model.specs.Rec.{no_rec}
use Rattle.rmm_model.specs.Command.PsciComplete.{with_rec}

-- ---- steps

-- the guest step that the given words encode; `Spin` if their kind is unknown
abbrev pub step_of : StepWords → GuestStep
step_of w =
    if w.kind == 0 then Write w.a w.b (access_size w.c) else
    (if w.kind == 1 then Read w.a (access_size w.b) else
    (if w.kind == 2 then HostCall w.a w.b w.c w.d else
    (if w.kind == 3 then SetRipas w.a w.b w.c w.d else
    (if w.kind == 4 then CpuOn w.a w.b w.c else
    (if w.kind == 5 then AffinityInfo w.a w.b else
    (if w.kind == 6 then CpuOff else
    (if w.kind == 7 then CpuSuspend else
    (if w.kind == 8 then SystemOff else
    (if w.kind == 9 then SystemReset else
    (if w.kind == 10 then Wfi else
    (if w.kind == 11 then Wfe else
    (if w.kind == 13 then Fetch w.a else
    (if w.kind == 14 then SystemRegister w.a w.b else Spin)))))))))))))

-- the words that encode one step of a REC's guest, at position `place` of the ring of steps in the REC's granule
unfoldable pub words_at : List ℕ → ℕ → StepWords
words_at page place = record {
  kind = word_of_page page (48 + 5 * place);
  a = word_of_page page (48 + 5 * place + 1);
  b = word_of_page page (48 + 5 * place + 2);
  c = word_of_page page (48 + 5 * place + 3);
  d = word_of_page page (48 + 5 * place + 4);
}

-- ---- results

-- the number that encodes the kind of a step's result
abbrev pub result_code : StepResult → ℕ
result_code Done = 0
result_code (IsRead value) = 1
result_code Sea = 2
result_code (Psci value) = 6
result_code RsiErrorInput = 7
result_code (Accepted value) = 3
result_code (Rejected value) = 4
result_code (Returned value) = 5

-- the value of a step's result; 0 if it has none
abbrev pub result_value : StepResult → ℕ
result_value (IsRead value) = value
result_value (Psci value) = value
result_value (Accepted value) = value
result_value (Rejected value) = value
result_value (Returned value) = value
result_value _ = 0

-- ---- RECs by number

-- the attributes of the REC in a granule; `no_rec` if no REC is there
abbrev pub rec_in : Machine → ℕ → Attributes
rec_in m g = unwrap_or (rec_of (granule_at m g).state) no_rec

-- the machine after the words of a step are written to position `place` of a guest's ring of steps
abbrev pub with_step_at : Machine → ℕ → ℕ → StepWords → Machine
with_step_at m g place w =
    with_word (with_word (with_word (with_word (with_word m g (48 + 5 * place) w.kind) g (48 + 5 * place + 1) w.a) g (48 + 5 * place + 2) w.b)
    g (48 + 5 * place + 3) w.c) g (48 + 5 * place + 4) w.d

-- the next step of a guest: the first one in its ring of steps
abbrev pub first_step : Machine → ℕ → GuestStep
first_step m g = step_of (words_at (page_in m g) ((rec_in m g).first_step % 16))

-- the machine after the first step of a guest is removed from its ring of steps
unfoldable pub past_step : Machine → ℕ → Machine
past_step m g =
    let rec = rec_in m g in
    with_rec m g (record rec { first_step = (rec.first_step % 16 + 1) % 16; step_count = rec.step_count - 1 })

-- the machine after a result is added to the results of a REC's guest
unfoldable pub with_result : Machine → ℕ → StepResult → Machine
with_result m g r =
    let rec = rec_in m g in
    let place = rec.result_count % 32 in
    with_rec (with_word (with_word m g (128 + 2 * place) (result_code r)) g (128 + 2 * place + 1) (result_value r)) g (record rec { result_count = (place + 1) % 32 })

-- ---- steps from the host

-- there is a REC at the given address
abbrev pub is_rec_named : Machine → ℕ → Bool
is_rec_named m address = is_aligned address && is_inside m address && is_some (rec_of (state_at m address))

-- the machine after a step is added at the end of a guest's ring of steps
unfoldable pub with_step : Machine → ℕ → StepWords → Machine
with_step m g w =
    let rec = rec_in m g in
    with_rec (with_step_at m g ((rec.first_step % 16 + rec.step_count % 16) % 16) w) g (record rec { step_count = rec.step_count + 1 })

abbrev pub queued_at : Machine → ℕ → StepWords → Queued × Machine
queued_at m g w = if nat_lt (rec_in m g).step_count 16 then (IsQueued, with_step m g w) else (Full, m)

-- A step is queued for the guest of the REC at the given address, unless there is no such REC or 16 steps are queued
-- already.
abbrev pub queued : Machine → ℕ → StepWords → Queued × Machine
queued m address w = if is_rec_named m address then queued_at m (number_of m address) w else (NoRec, m)
