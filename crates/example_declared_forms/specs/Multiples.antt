-- The constraints of a table of multiples.
use Rattle.std.specs.Prelude.{ℕ, List, ◌++◌}
use Rattle.p3_air.specs.Author.{CommRing, Term, Assertion, current, next, first_row, transition, number, ◌⊕◌, ◌⊖◌, ◌⊙◌, is_zero, each_below}

-- column i starts at zero and increases by i; the condition turns each term t into f t
abbrev pub multiples_of : {F : Type 0} → CommRing F → ℕ → (Term F → Term F) → List (Assertion F)
multiples_of R i f =
    is_zero (f (first_row ⊙ current i)) ++
    is_zero (f (transition ⊙ (next i ⊖ (current i ⊕ number R i))))

-- the constraints of columns 0 to columns - 1
abbrev pub multiples : {F : Type 0} → CommRing F → ℕ → List (Assertion F)
multiples R columns = each_below columns (λ i. multiples_of R i (λ t. t))
