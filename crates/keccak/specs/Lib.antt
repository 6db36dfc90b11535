pub mod Constants
pub mod Steps
pub mod Permutation
pub mod Hashing
pub mod laws
