-- The path of a leaf in BLAKE3's tree.
pub mod Tree
pub mod Path
pub mod Roots
