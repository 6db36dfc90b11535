-- The constraints of the range check.
use Rattle.std.specs.Prelude.{List}
use Rattle.p3_air.specs.Author.{CommRing, Assertion, current, has_bits}

-- columns 1 to 16 are the bits of column 0, lowest first
abbrev pub range : {F : Type 0} → CommRing F → List (Assertion F)
range R = has_bits R (current 0) 1 16 (λ t. t)
