-- The words of an author's declaration, in one place.
pub use Rattle.air_field.specs.Ring.{CommRing}
pub use Rattle.air_field.specs.Term.{Term}
pub use Rattle.air_builder.specs.Assertion.{Assertion, Base, Extension}
pub use Rattle.air_builder.specs.Declaration.{Declaration, plain_declaration}
pub use Rattle.air_builder.specs.Notation.{current, next, preprocessed_current, preprocessed_next, periodic, public, first_row, last_row, transition, permutation_current, permutation_next, challenge, permutation_value, constant, ext_constant, negative, ◌⊕◌, ◌⊖◌, ◌⊙◌, ◌≐◌, ◌≐ₑ◌, is_zero, boolean, ext_is_zero, when}
pub use Rattle.air_author.specs.Kinds.{number, double, square, to_power, is_one, ext_is_one, ext_boolean, each_below}
pub use Rattle.air_gadgets.specs.BitTerms.{packed_bits, bits_asserts, has_bits}
pub use Rattle.air_gadgets.specs.WordTerms.{limbs, word_at, word_bits}
pub use Rattle.air_gadgets.specs.XorTerms.{xor_shift_asserts}
pub use Rattle.air_gadgets.specs.Gadgets.{add2_asserts, add3_asserts}
pub use Rattle.air_author.specs.Moved.{move_columns}
