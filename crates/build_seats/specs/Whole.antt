-- The build, the number of parts and the amount of a `Whole`, which is the only share of a build's ghost ledger.
use Rattle.std.specs.Prelude.{ℕ}
use Rattle.build_seats.specs.declared.ledgers.Whole.{Whole}
use Rattle.build_seats.specs.declared.ledgers.Whole.TheVariants.{Build0, Build1, Build2, Build3, Build4, Build5, Build6, Build7}

abbrev pub build_of : {L : Type 0} → Whole L → ℕ
build_of (Build0 share) = 0
build_of (Build1 share) = 1
build_of (Build2 share) = 2
build_of (Build3 share) = 3
build_of (Build4 share) = 4
build_of (Build5 share) = 5
build_of (Build6 share) = 6
build_of (Build7 share) = 7

-- the number of parts and the amount of a `Whole`
abbrev pub share_of : {L : Type 0} → Whole L → ℕ × ℕ
share_of (Build0 share) = (share.parts, share.amount)
share_of (Build1 share) = (share.parts, share.amount)
share_of (Build2 share) = (share.parts, share.amount)
share_of (Build3 share) = (share.parts, share.amount)
share_of (Build4 share) = (share.parts, share.amount)
share_of (Build5 share) = (share.parts, share.amount)
share_of (Build6 share) = (share.parts, share.amount)
share_of (Build7 share) = (share.parts, share.amount)

abbrev pub parts_of_whole : {L : Type 0} → Whole L → ℕ
parts_of_whole whole = (share_of whole).0

abbrev pub amount_of : {L : Type 0} → Whole L → ℕ
amount_of whole = (share_of whole).1
