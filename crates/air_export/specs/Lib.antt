pub mod Exports
pub mod laws
