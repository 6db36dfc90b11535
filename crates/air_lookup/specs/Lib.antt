-- Sums of shares, which balance if each value is looked up as often as it is offered.
pub mod Balance
pub mod Lookups
pub mod Products
pub mod Columns
pub mod Theorem
pub mod Buses
pub mod Groups
pub mod Tuples
pub mod Gadgets
pub mod TupleLookups
pub mod laws
