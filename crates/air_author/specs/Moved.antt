-- Constraints whose columns are moved, and constraints under conditions.
use Rattle.std.specs.Prelude.{ℕ, ◌+◌, List, map}
use Rattle.air_field.specs.Term.{Leaf, main, Term, leaf_term, with_leaves}
use Rattle.air_builder.specs.Assertion.{Assertion, Base, Extension}

-- column i of the main trace becomes column n + i; every other leaf stays
abbrev pub moved_leaf : ℕ → Leaf → Leaf
moved_leaf n (main o i) = main o (n + i)
moved_leaf n l = l

module _ {F : Type 0} where
  -- each base term is mapped by f, and each extension term by g; in one assertion, and in a list
  abbrev pub each_becomes : (Term F → Term F) → (Term F → Term F) → Assertion F → Assertion F
  each_becomes f g (Base t) = Base (f t)
  each_becomes f g (Extension t) = Extension (g t)

  abbrev pub under : (Term F → Term F) → (Term F → Term F) → List (Assertion F) → List (Assertion F)
  under f g ts = map (each_becomes f g) ts

  -- the term with each column i of the main trace replaced by column n + i
  abbrev pub moved_term : ℕ → Term F → Term F
  moved_term n t = with_leaves (λ l. leaf_term (moved_leaf n l)) t

  -- the constraints with each column i of the main trace replaced by column n + i
  abbrev pub move_columns : ℕ → List (Assertion F) → List (Assertion F)
  move_columns n ts = under (moved_term n) (moved_term n) ts

  -- the moved constraints under conditions
  abbrev pub move_columns_under : (Term F → Term F) → (Term F → Term F) → ℕ → List (Assertion F) → List (Assertion F)
  move_columns_under f g n ts = under (λ t. f (moved_term n t)) (λ t. g (moved_term n t)) ts
