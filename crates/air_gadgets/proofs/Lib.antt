pub mod Combining
pub mod PackingLaws
pub mod ListedColumns
mod LimbLaws
mod Lending
mod Making
mod Halves
mod Asserting
mod PackedXors
mod ZipLaws
mod Packing
mod Sharing
