-- The names of the ghost ledgers of builds 0 to 7.
use Rattle.std.specs.Prelude.{◌≡◌, ℕ, [], ◌∷◌, slice_index}
use Rattle.build_seats.specs.declared.blanks.Blanks.{Blanks}

-- each blank ledger has the name that `names` gives to its build's ledger
pub record AreNamed (names : ℕ → ℕ) (blanks : Blanks) : Type 0 where
  pub build0 : blanks.blank0.name ≡ names 0
  pub build1 : blanks.blank1.name ≡ names 1
  pub build2 : blanks.blank2.name ≡ names 2
  pub build3 : blanks.blank3.name ≡ names 3
  pub build4 : blanks.blank4.name ≡ names 4
  pub build5 : blanks.blank5.name ≡ names 5
  pub build6 : blanks.blank6.name ≡ names 6
  pub build7 : blanks.blank7.name ≡ names 7

-- the names of the blank ledgers, by build
abbrev pub names_of : Blanks → ℕ → ℕ
names_of blanks build = slice_index (
    blanks.blank0.name ∷ blanks.blank1.name ∷ blanks.blank2.name ∷ blanks.blank3.name
    ∷ blanks.blank4.name ∷ blanks.blank5.name ∷ blanks.blank6.name ∷ blanks.blank7.name ∷ []) build
