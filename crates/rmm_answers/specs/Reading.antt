-- The answers in a trace to questions about the states of granules, realms and RECs. No firmware offers such readings
-- to a host.
use Rattle.std.specs.Prelude.{ℕ, ◌+◌, ◌*◌, ◌%◌, ◌^◌, Bool, true, false, not, ◌||◌, if◌then◌else◌, List, [], take, Option, Some, None, option_and_then, unwrap_or}
use Rattle.std.specs.List.{sum}
use Rattle.rmi_abi.specs.declared.hash.HashAlgorithm.{HashAlgorithm}
use Rattle.rmi_abi.specs.declared.hash.HashAlgorithm.TheVariants.{Sha256 as BySha256, Sha512 as BySha512}
use Rattle.rmm.specs.Reading.{word_shown}
use Rattle.rmm_model.specs.declared.granule.RmmGranuleState.{RmmGranuleState}
use Rattle.rmm_model.specs.declared.granule.RmmGranuleState.TheVariants.{Undelegated, Delegated, Rd, Rec, RecAux, Data, Rtt}
use Rattle.rmm_model.specs.declared.realm.RmmRealm.{RmmRealm}
use Rattle.rmm_model.specs.declared.realm.RmmRealmState.{RmmRealmState}
use Rattle.rmm_model.specs.declared.realm.RmmRealmState.TheVariants.{New, Active, SystemOff}
use Rattle.rmm_model.specs.declared.rec.RmmRec.{RmmRec as Attributes}
use Rattle.rmm_model.specs.Command.PsciComplete.{is_pending}
use Rattle.rmm_model.specs.Granule.{realm_of}
use Rattle.rmm_model.specs.Host.{state_shown}
use Rattle.rmm_model.specs.Machine.{Machine, granule_at, is_inside, number_of, page_in}
use Rattle.rmm_model.specs.Rec.{is_running}
use Rattle.rmm_trace.specs.declared.place.TheConstants.{LEVEL, MPIDR, NONE, PC, RUNNABLE, RUNNING, S2SZ, VMID}
use Rattle.rmm_trace.specs.declared.word.Atom.{Atom}
use Rattle.rmm_trace.specs.declared.word.Atom.TheVariants.{Name, Decimal, Hexadecimal}
use Rattle.rmm_trace.specs.declared.word.TraceWord.{TraceWord}
use Rattle.rmm_answers.specs.declared.place.TheConstants.{ACTIVE, BASE, DATA_STATE, DELEGATED, GPR0, IS_SYSTEM_OFF, NEW, NEXT, OFF, PENDING, RD, RD_STATE, READY, RECS, REC_AUX, REC_STATE, RTT_STATE, TABLES, UNDELEGATED}
use Rattle.rmm_answers.specs.declared.reply.Digest.{Digest}
use Rattle.rmm_answers.specs.declared.reply.Digest.TheVariants.{Sha256, Sha512}
use Rattle.rmm_answers.specs.declared.reply.TraceReply.{TraceReply}
use Rattle.rmm_answers.specs.Put.{◌▷◌, put_word, put_flag, put_value}
use Rattle.rmm_answers.specs.Replies.{of_words}

-- ---- granules

-- the name of a granule state, as an index into the table of names
abbrev pub state_name : RmmGranuleState → ℕ
state_name Undelegated = UNDELEGATED
state_name Delegated = DELEGATED
state_name (Rd realm) = RD_STATE
state_name (Rec rec) = REC_STATE
state_name RecAux = REC_AUX
state_name Data = DATA_STATE
state_name Rtt = RTT_STATE

abbrev pub state_atom : Option RmmGranuleState → Atom
state_atom (Some state) = Name (state_name state)
state_atom None = Name NONE

-- a granule in this state holds the RMM's own data
abbrev pub holds_rmm_data : RmmGranuleState → Bool
holds_rmm_data (Rd realm) = true
holds_rmm_data (Rec rec) = true
holds_rmm_data Rtt = true
holds_rmm_data _ = false

-- the sum of the bytes of the granule at an address; 0 if the RMM has its own data there, or no granule is there
abbrev pub granule_sum : Machine → ℕ → RmmGranuleState → ℕ
granule_sum m address state = if holds_rmm_data state || not (is_inside m address) then 0 else sum (page_in m (number_of m address))

abbrev pub sum_atom : Machine → ℕ → Option RmmGranuleState → Atom
sum_atom m address (Some state) = Decimal (granule_sum m address state)
sum_atom m address None = Name NONE

-- ---- realms

-- the name of a realm state, as an index into the table of names
abbrev pub realm_state_name : RmmRealmState → ℕ
realm_state_name New = NEW
realm_state_name Active = ACTIVE
realm_state_name SystemOff = IS_SYSTEM_OFF

-- the realm whose RD is at an address, if an RD is there
abbrev pub realm_named : Machine → ℕ → Option RmmRealm
realm_named m address = option_and_then realm_of (state_shown m address)

-- the words for a realm's attributes, on a machine whose granules begin at `base`
unfoldable pub realm_words : RmmRealm → ℕ → List TraceWord
realm_words realm base =
    [] ▷ put_word (Name (realm_state_name realm.state)) ▷ put_value S2SZ (Decimal realm.s2sz) ▷ put_value LEVEL (Decimal realm.start_level)
    ▷ put_value TABLES (Decimal realm.table_count) ▷ put_value BASE (Hexadecimal ((base + 4096 * realm.first_table) % 2 ^ 64))
    ▷ put_value VMID (Decimal realm.vmid) ▷ put_value NEXT (Decimal realm.next_rec) ▷ put_value RECS (Decimal realm.rec_count)

abbrev pub realm_answer : Option RmmRealm → ℕ → List TraceWord
realm_answer (Some realm) base = realm_words realm base
realm_answer None base = [] ▷ put_word (Name NONE)

-- the digest that a realm's measurement holds, in the first 32 bytes for SHA-256, and in all bytes for SHA-512
abbrev pub digest_of : HashAlgorithm → List ℕ → Digest
digest_of BySha256 rim = Sha256 (take 32 rim)
digest_of BySha512 rim = Sha512 rim

abbrev pub rim_reply : Option RmmRealm → TraceReply
rim_reply (Some realm) = record { words = record { items = [] }; rim = Some (digest_of realm.hash realm.rim); refused = None }
rim_reply None = of_words ([] ▷ put_word (Name NONE))

-- ---- RECs

-- the address of the RD with this granule number; 0 if no number is given
abbrev pub rd_address : Machine → Option ℕ → ℕ
rd_address m (Some rd) = (m.settings.base + 4096 * rd) % 2 ^ 64
rd_address m None = 0

-- the RD address of the realm that owns the granule at an address; 0 if no realm does
unfoldable pub owner_address : Machine → ℕ → ℕ
owner_address m address = if is_inside m address then rd_address m (granule_at m (number_of m address)).owner else 0

unfoldable pub put_pending : Bool → List TraceWord → List TraceWord
put_pending is ws = if is then put_flag PENDING ws else ws

abbrev pub rec_page_word : Machine → ℕ → ℕ → ℕ
rec_page_word m rec i = unwrap_or (word_shown m rec i) 0

-- the words of an answer that show the state, the realm and the attributes of the REC at an address
unfoldable pub rec_words : Machine → ℕ → Attributes → List TraceWord
rec_words m address rec =
    [] ▷ put_word (Name (if is_running rec.state then RUNNING else READY)) ▷ put_value RD (Hexadecimal (owner_address m address))
    ▷ put_value MPIDR (Hexadecimal rec.mpidr) ▷ put_flag (if rec.is_runnable then RUNNABLE else OFF) ▷ put_pending (is_pending rec.psci)
    ▷ put_value PC (Hexadecimal (rec_page_word m address 31)) ▷ put_value GPR0 (Hexadecimal (rec_page_word m address 0))

abbrev pub rec_answer : Machine → ℕ → Option Attributes → List TraceWord
rec_answer m address (Some rec) = rec_words m address rec
rec_answer m address None = [] ▷ put_word (Name NONE)
