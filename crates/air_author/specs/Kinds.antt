-- Further words for a declaration, beside the notation: numbers, powers and claims.
use Rattle.std.specs.Prelude.{ℕ, List}
use Rattle.air_field.specs.Ring.{CommRing, image}
use Rattle.air_field.specs.Term.{Term}
use Rattle.air_field.specs.Algebra.{bool_check_term, double_term}
use Rattle.air_builder.specs.Assertion.{Assertion}
use Rattle.air_builder.specs.Builders.{less_one_term}
use Rattle.air_builder.specs.Notation.{constant, ◌⊙◌, is_zero, ext_is_zero}
use Rattle.air_author.specs.Constraints.{asserts_of_first}
use Rattle.air_author.specs.Expressions.{power_term}

module _ {F : Type 0} where
  -- a number in the field
  abbrev pub number : CommRing F → ℕ → Term F
  number R n = constant (image R n)

  -- x + x, x x, and the n-fold product of x
  abbrev pub double : Term F → Term F
  double x = double_term x

  abbrev pub square : Term F → Term F
  square x = x ⊙ x

  abbrev pub to_power : CommRing F → Term F → ℕ → Term F
  to_power R x n = power_term R.one x n

  -- x is one; over the extension: x is one, x is zero or one
  abbrev pub is_one : CommRing F → Term F → List (Assertion F)
  is_one R x = is_zero (less_one_term R.one x)

  abbrev pub ext_is_one : CommRing F → Term F → List (Assertion F)
  ext_is_one R x = ext_is_zero (less_one_term R.one x)

  abbrev pub ext_boolean : CommRing F → Term F → List (Assertion F)
  ext_boolean R x = ext_is_zero (bool_check_term R.one x)

  -- the assertions at each index below a count, in order
  abbrev pub each_below : ℕ → (ℕ → List (Assertion F)) → List (Assertion F)
  each_below n at = asserts_of_first at n
