pub mod Accumulator
pub mod Totals
