use Rattle.decimal_text.proofs.Rows.{zip_tests}
use Rattle.decimal_text.proofs.operands.both.Goals as goal

pub returns : goal.returns
returns g c = rw (c.zip.ensures, c.from_number.ensures, c.from_number-2.ensures) (zip_tests _ _ _ _)
