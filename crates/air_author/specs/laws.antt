-- Lemmas on making and asserting, which the layers above cite too.
pub mod Each
pub mod Making
pub mod Asserting
pub mod Labels
