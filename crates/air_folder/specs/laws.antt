-- Laws of the definitions in specs/, for implementations and for the layers above.
pub mod Folder
pub mod Fold
