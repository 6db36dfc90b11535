-- Names and their values.
use Rattle.std.specs.Prelude.{◌≡◌, ℕ, List, map, Option, bytes_eq, option_and_then}
use Rattle.std.specs.Global.{Global}
use Rattle.std.specs.Vec.{vec_allocator}
use Rattle.std.specs.List.{slice_get, position}
use Rattle.test_lines.specs.declared.names.Names.{Names}

-- the names, in the order in which they were first given
abbrev pub names_in : {T : Type 0} → Names T → List (List ℕ)
names_in n = map (λ w. w.now) n.words.items

-- the values of the names, in the same order
abbrev pub named_values : {T : Type 0} → Names T → List T
named_values n = n.values.items

-- the value at the first position of the name, if there is one
abbrev pub value_named : {T : Type 0} → Names T → List ℕ → Option T
value_named n name = option_and_then (slice_get (named_values n)) (position (λ w. bytes_eq w.now name) n.words.items)

-- the allocator that holds the values
abbrev pub allocator_of : {T : Type 0} → Names T → Global
allocator_of n = vec_allocator n.values

-- the same names with the same values
pub record HaveSameNames {T : Type 0} (a b : Names T) : Type 0 where
  pub names : b.words.items ≡ a.words.items
  pub values : named_values b ≡ named_values a
