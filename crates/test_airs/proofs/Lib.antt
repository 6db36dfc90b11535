-- Lemmas of the tests.
pub mod DifferingParts
