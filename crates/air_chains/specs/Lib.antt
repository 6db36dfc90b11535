-- Traces that are read row after row.
pub mod Rows
pub mod Chains
pub mod Marks
pub mod WordValues
pub mod laws
