-- The printed texts of a host's replies and refusals, and of the kinds of undone operations.
use Rattle.std.specs.Prelude.{ℕ, List, [], ◌∷◌, ◌++◌, codes}
use Rattle.std.specs.Fmt.{decimal}
use Rattle.decimal_text.specs.Numbers.{spelled_numbers}
use Rattle.realm_model.specs.Rmi.{status_code}
use Rattle.host_commands.specs.declared.refusal.Refusal.{Refusal}
use Rattle.host_commands.specs.declared.refusal.Refusal.TheVariants as refusal
use Rattle.host_commands.specs.declared.reply.Reply.{Reply}
use Rattle.host_commands.specs.declared.reply.Reply.TheVariants as reply
use Rattle.realm_model.specs.declared.act.Kind.{Kind}
use Rattle.realm_model.specs.declared.act.Kind.TheVariants as kind

-- a number in decimal, after a space
abbrev pub then_number : ℕ → List ℕ
then_number n = 32 ∷ decimal n

abbrev pub kind_word : Kind → List ℕ
kind_word kind.Take = codes "take"
kind_word kind.Delegate = codes "delegate"
kind_word kind.Realm = codes "realm"
kind_word kind.Rtt = codes "rtt"
kind_word kind.Data = codes "data"
kind_word kind.Unknown = codes "unknown"
kind_word kind.Rec = codes "rec"

-- the number and the name of a refusal, as text
abbrev pub refusal_name : Refusal → List ℕ
refusal_name refusal.NoBuild = codes "1 NoBuild"
refusal_name refusal.Aborting = codes "2 Aborting"
refusal_name refusal.BadOrder = codes "3 BadOrder"
refusal_name (refusal.NotLeased page) = codes "4 NotLeased"
refusal_name refusal.RealmThere = codes "5 RealmThere"
refusal_name refusal.NoRealm = codes "6 NoRealm"
refusal_name refusal.NothingToUndo = codes "7 NothingToUndo"
refusal_name refusal.RecRunning = codes "8 RecRunning"
refusal_name refusal.JournalFull = codes "9 JournalFull"
refusal_name refusal.HistoryFull = codes "10 HistoryFull"
refusal_name (refusal.NoBlock order) = codes "11 NoBlock"
refusal_name refusal.NoVmid = codes "12 NoVmid"
refusal_name (refusal.Rmi rmi) = codes "13 Rmi"

-- the numbers that a refusal carries, if any: a page, the order of a block, or a status with its index
abbrev pub refusal_numbers : Refusal → List ℕ
refusal_numbers (refusal.NotLeased page) = page ∷ []
refusal_numbers (refusal.NoBlock order) = order ∷ []
refusal_numbers (refusal.Rmi rmi) = status_code rmi.status ∷ rmi.index ∷ []
refusal_numbers _ = []

abbrev pub refusal_text : Refusal → List ℕ
refusal_text refusal = refusal_name refusal ++ spelled_numbers (refusal_numbers refusal)

-- the number that a reply carries, if any: the page number at which a block begins, a byte, a VMID or a REC's number
abbrev pub reply_numbers : Reply → List ℕ
reply_numbers reply.Done = []
reply_numbers (reply.FirstPage page) = page ∷ []
reply_numbers (reply.Byte byte) = byte ∷ []
reply_numbers (reply.Vmid vmid) = vmid ∷ []
reply_numbers (reply.Number number) = number ∷ []

abbrev pub reply_text : Reply → List ℕ
reply_text reply = codes "ok" ++ spelled_numbers (reply_numbers reply)
