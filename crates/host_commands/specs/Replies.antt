-- The host's reply to a command, as a function of the command's operation.
use Rattle.std.specs.Prelude.{ℕ}
use Rattle.realm_model.specs.declared.act.Act.{Act}
use Rattle.realm_model.specs.declared.act.Act.TheVariants.{Take, Peek, Realm, Rec}
use Rattle.host_commands.specs.declared.reply.Reply.{Reply}
use Rattle.host_commands.specs.declared.reply.Reply.TheVariants.{Done, FirstPage, Byte, Vmid, Number}

-- The reply to an operation of a build that had `pages` pages before the operation. To a Take it is the number of the
-- first new page, to a Peek the byte, to a Realm its VMID, and to a Rec its number. To any other operation it is
-- `Done`.
abbrev pub reply_of : ℕ → Act → Reply
reply_of pages (Take order first) = FirstPage pages
reply_of pages (Peek granule offset byte) = Byte byte
reply_of pages (Realm rd root vmid) = Vmid vmid
reply_of pages (Rec granule auxiliaries number) = Number number
reply_of pages _ = Done
