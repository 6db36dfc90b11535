-- Laws of the definitions in specs/, for the layers above.
pub mod Values
