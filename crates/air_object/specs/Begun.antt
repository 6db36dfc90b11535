-- The values, items and members at a reader's position in a text.
use Rattle.std.specs.Prelude.{◌≡◌, ℕ, List, length, Option, Some}
use Rattle.json.specs.Json.{parse_map, value, items, members}
use Rattle.json.specs.Token.{Token}
use Rattle.serde_json.specs.Data.{Data, array, Items, Members, no_members}
use Rattle.serde_json.specs.Read.{of_json, of_items, of_members, converted}
use Rattle.serde_json.specs.View.{view}
use Rattle.air_object.specs.declared.text.Beginning.{Beginning}
use Rattle.air_object.specs.declared.text.Beginning.TheVariants.{Array, Other}

-- the value at the front of these tokens, nested at most `depth` levels, and the tokens after it
abbrev pub value_at : ℕ → List Token → Option (Data × List Token)
value_at depth tokens = converted of_json (value depth tokens)

-- the remaining items of an array, or the remaining members of an object, and the tokens after them
abbrev pub items_at : ℕ → List Token → Option (Items × List Token)
items_at depth tokens = converted of_items (items (value depth) (length tokens) tokens)

abbrev pub members_at : ℕ → List Token → Option (Members × List Token)
members_at depth tokens = converted (λ ms. of_members ms no_members) (members (value depth) (length tokens) tokens)

-- The value at `before` is an array, and `after` is the position of its items, each nested at most `inside` levels; or it is another value, and `after` follows
-- it.
abbrev pub IsBegun : ℕ → List Token → List Token → Beginning → Type 0
IsBegun depth before after (Array inside) =
    value_at depth before ≡ parse_map array (items_at inside after)
IsBegun depth before after (Other v) = value_at depth before ≡ Some (view v, after)
