-- The constraints of the adder.
use Rattle.std.specs.Prelude.{ℕ, List, ◌++◌}
use Rattle.p3_air.specs.Author.{CommRing, Assertion, add2_asserts, word_at, word_bits}

-- the words at columns 0, 34 and 68 have their bits, and the first word is the sum of the other two
abbrev pub adder : {F : Type 0} → CommRing F → List (Assertion F)
adder R =
    let a : ℕ = 0 in
    let b : ℕ = 34 in
    let c : ℕ = 68 in
    word_bits R a (λ t. t) ++ (word_bits R b (λ t. t) ++ (word_bits R c (λ t. t) ++
    add2_asserts R (word_at a) (word_at b) (word_at c)))
