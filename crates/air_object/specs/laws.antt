pub mod Agreement
pub mod Members
pub mod Writing
