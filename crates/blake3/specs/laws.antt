-- Laws of the definitions in specs/.
pub mod ByIndex
pub mod Places
pub mod Sizes
