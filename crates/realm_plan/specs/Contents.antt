-- The values of a plan's TOML keys, before they are checked against their limits.
use Rattle.std.specs.Prelude.{ℕ, ℤ, pos, Bool, true, ◌&&◌, List, [], ◌∷◌, codes, if◌then◌else◌, Option, Some, None, option_map, option_and_then}
use Rattle.std.specs.List.{list_any}
use Rattle.std.specs.Str.{bytes_eq}
use Rattle.toml.specs.Data.{Data, Items, no_items, item, Members, no_members, member, get_member, as_integer, as_str, as_array, as_table}
use Rattle.realm_plan.specs.declared.contents.PlanIntegers.{PlanIntegers}

infixl 10 ◌>>=◌
abbrev pub ◌>>=◌ : {A B : Type 0} → Option A → (A → Option B) → Option B
o >>= f = option_and_then f o

-- the members of a TOML table have no keys but the given ones
abbrev pub has_only : List (List ℕ) → Members → Bool
has_only names no_members = true
has_only names (member key value more) = list_any (bytes_eq key) names && has_only names more

-- the value as a whole number, if it is one; the default if there is no value
abbrev pub whole_of : Option ℤ → Option Data → Option ℤ
whole_of default None = default
whole_of default (Some value) = as_integer value

-- the integers at a plan's keys `pages`, `vmids`, `aux` and `history`; all keys but `pages` have a default
unfoldable pub integers_at : Members → Option PlanIntegers
integers_at ms =
    whole_of None (get_member (codes "pages") ms) >>= (λ pages.
    whole_of (Some (pos 8)) (get_member (codes "vmids") ms) >>= (λ vmids.
    whole_of (Some (pos 0)) (get_member (codes "aux") ms) >>= (λ aux.
    whole_of (Some (pos 1024)) (get_member (codes "history") ms) >>= (λ history.
    Some (record { pages = pages; vmids = vmids; aux = aux; history = history })))))

-- the items of an array as whole numbers, if all of them are whole numbers
abbrev pub integers_of : Items → Option (List ℤ)
integers_of no_items = Some []
integers_of (item value more) = as_integer value >>= (λ z. option_map (λ zs. z ∷ zs) (integers_of more))

-- the items of an array as texts, if all of them are texts
abbrev pub texts_of : Items → Option (List (List ℕ))
texts_of no_items = Some []
texts_of (item value more) = as_str value >>= (λ t. option_map (λ ts. t ∷ ts) (texts_of more))

abbrev pub plan_keys : List (List ℕ)
plan_keys = codes "pages" ∷ codes "vmids" ∷ codes "aux" ∷ codes "history" ∷ codes "order" ∷ codes "build" ∷ []

abbrev pub build_keys : List (List ℕ)
build_keys = codes "steps" ∷ []

-- the texts of a build's steps, if the build is a table with the single key `steps` and an array of texts
abbrev pub step_texts_of : Data → Option (List (List ℕ))
step_texts_of value = as_table value >>= (λ ms. if has_only build_keys ms then get_member (codes "steps") ms >>= as_array >>= texts_of else None)

abbrev pub build_texts_of : Items → Option (List (List (List ℕ)))
build_texts_of no_items = Some []
build_texts_of (item value more) = step_texts_of value >>= (λ b. option_map (λ bs. b ∷ bs) (build_texts_of more))

abbrev pub builds_at : Members → Option (List (List (List ℕ)))
builds_at ms = get_member (codes "build") ms >>= as_array >>= build_texts_of

-- the numbers of a plan's schedule; without a value for the key `order`, the schedule is empty
abbrev pub order_numbers_of : Option Data → Option (List ℤ)
order_numbers_of None = Some []
order_numbers_of (Some value) = as_array value >>= integers_of

pub record Contents : Type 0 where
  pub pages : ℤ
  pub vmids : ℤ
  pub aux : ℤ
  pub history : ℤ
  pub order : List ℤ
  pub builds : List (List (List ℕ))

-- The contents of a document; none if a required key is missing, if a key is unknown, or if a value has the wrong type.
unfoldable pub contents_of : Members → Option Contents
contents_of ms =
    if has_only plan_keys ms then
    integers_at ms >>= (λ n.
    order_numbers_of (get_member (codes "order") ms) >>= (λ order.
    builds_at ms >>= (λ builds.
    Some (record { pages = n.pages; vmids = n.vmids; aux = n.aux; history = n.history; order = order; builds = builds }))))
    else None
