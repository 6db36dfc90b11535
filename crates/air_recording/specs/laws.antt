-- Laws about the definitions in specs/: implementations cite them, and the layers above build on them.
pub mod Recording
pub mod Spellings
pub mod Bounds
pub mod Layouts
