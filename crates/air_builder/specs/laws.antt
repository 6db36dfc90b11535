-- Laws about the definitions in specs/: implementations cite them, and the layers above build on them.
pub mod Refusals
pub mod Refused
pub mod Labels
pub mod Filters
pub mod NamedFilters
pub mod ExtensionFilters
pub mod Extensions
pub mod Batches
pub mod Zips
pub mod ShownRows
pub mod RowBuilders
pub mod Parts
pub mod Growth
pub mod LabelGrowth
