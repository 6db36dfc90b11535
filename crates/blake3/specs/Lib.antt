pub mod Compression
pub mod Blocks
pub mod Hashing
pub mod ByIndex
pub mod Sizes
pub mod laws
