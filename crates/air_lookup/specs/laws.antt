-- Laws about the definitions in specs/.
pub mod Polynomials
pub mod Balance
pub mod Lookups
pub mod Products
pub mod Groups
pub mod Columns
pub mod Traces
pub mod RowLookups
pub mod Tables
pub mod Buses
pub mod Tuples
pub mod Gadgets
pub mod TupleLookups
