pub mod Bytes
pub mod Checks
