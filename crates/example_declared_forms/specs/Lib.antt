pub mod Counters
pub mod Multiples
pub mod Product
