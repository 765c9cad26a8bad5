-- For each page, the slot of memory that holds the page's bytes. Pages without a slot of their own share slot 0.
use Rattle.std.specs.Prelude.{◌≡◌, ◌≢◌, ℕ, zero, suc, ◌<◌, List, [], ◌∷◌, length, map, get_or}
use Rattle.granule_addr.specs.Page.{zero_page}

-- the bytes of each page, where `slots` gives the slot of each page, and `items` the bytes of each slot
unfoldable pub pages_in : List (List ℕ) → List ℕ → List (List ℕ)
pages_in items slots = map (λ slot. get_or items slot zero_page) slots

-- the number of pages that have a slot of their own
unfoldable pub owners : List ℕ → ℕ
owners [] = 0
owners (zero ∷ slots) = owners slots
owners (suc _ ∷ slots) = suc (owners slots)

-- The pages use the slots below `used`, each page a slot of its own or the shared slot 0.
pub record IsSlots (slots : List ℕ) (used : ℕ) : Type 0 where
  pub below : (page : ℕ) → page < length slots → get_or slots page 0 < used
  pub apart : (page other : ℕ) → page < length slots → other < length slots → page ≢ other → get_or slots page 0 ≡ get_or slots other 0 → get_or slots page 0 ≡ 0
  pub counted : used ≡ suc (owners slots)
