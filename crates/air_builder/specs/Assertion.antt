-- The assertions of a builder: terms that are to be zero.
use Rattle.air_field.specs.Term.{Term, mul_term}

-- a base term or an extension term
pub data Assertion (F : Type 0) : Type 0 where
  Base : Term F → Assertion F
  Extension : Term F → Assertion F

-- an assertion under a condition: the product of both
abbrev pub filter_by : {F : Type 0} → Term F → Assertion F → Assertion F
filter_by c (Base t) = Base (mul_term c t)
filter_by c (Extension t) = Extension (mul_term t c)
