-- The constraints of the Fibonacci AIR, and their labels.
use Rattle.std.specs.Prelude.{◌≡◌, ℕ, List, [], ◌∷◌, ◌++◌, Bool, if◌then◌else◌, Option, Some, codes, slice_index_or}
use Rattle.air_audit.specs.Author.{Assertion, Declaration, plain_declaration, current, next, public, first_row, last_row, transition, ◌⊕◌, ◌≐◌, when}

-- the first row is public values 0 and 1; the next a is b, and the next b is a + b; the last b is public value 2
abbrev pub fibonacci : {F : Type 0} → List (Assertion F)
fibonacci =
    let a = current 0 in
    let b = current 1 in
    when first_row (a ≐ public 0 ++ b ≐ public 1) ++
    when transition (next 0 ≐ b ++ next 1 ≐ a ⊕ b) ++
    when last_row (b ≐ public 2)

-- two columns, three public values, and nothing besides
abbrev pub fibonacci_declaration : {F : Type 0} → Declaration F
fibonacci_declaration = plain_declaration fibonacci 2 3

-- the labels of the constraints, in order
abbrev pub fibonacci_labels : List (List ℕ)
fibonacci_labels =
    codes "fib::first_a" ∷ codes "fib::first_b" ∷ codes "fib::step_a" ∷ codes "fib::step_b" ∷ codes "fib::last_b" ∷ []

-- the text of a constraint's name: its label, or the empty text if the AIR has no labels
abbrev pub FibonacciSays : Bool → ℕ → Option (List ℕ) → Type 0
FibonacciSays is_named place text = text ≡ Some (if is_named then slice_index_or fibonacci_labels place [] else [])
