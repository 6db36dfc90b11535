-- Laws of the definitions in specs/.
pub mod Constants
