-- Marks, the points in a history to which builds can be rolled back.
use Rattle.std.specs.Prelude.{ℕ, nat_le, Bool, ◌&&◌, ◌==◌, cond, Option, Some, None}
use Rattle.host_ledger.specs.declared.mark.Mark.{Mark}
use Rattle.realm_model.specs.Marks as marks

-- a host's mark as a mark of `realm_model`: with the same build, number of open operations, and index in the history
abbrev pub point_of : Mark → marks.Mark
point_of mark = record { build = mark.build; depth = mark.length; place = mark.place }

-- two marks have the same build, the same number of open operations and the same place in the history
abbrev pub is_same_mark : Mark → Mark → Bool
is_same_mark a b = a.build == b.build && (a.length == b.length && a.place == b.place)

-- the mark that a build still has if `opened` of its operations are open: none if `opened` is less than at the mark
abbrev pub mark_while : ℕ → Option Mark → Option Mark
mark_while opened None = None
mark_while opened (Some mark) = cond (nat_le mark.length opened) (Some mark) None
